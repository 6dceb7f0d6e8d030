-- The mode of a file, as stat(2) gives it.
use Rattle.std.specs.Prelude.{ℕ, Bool, not, cond, ◌==◌, bit_and}

-- its owner may run the file
abbrev pub owner_executes : ℕ → Bool
owner_executes mode = not (bit_and mode 0o100 == 0)

-- the mode of a file that is put, with or without the execute bit
abbrev pub file_mode : Bool → ℕ
file_mode exec = cond exec 0o755 0o644
