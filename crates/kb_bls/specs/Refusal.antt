-- When an entry is refused.
use Rattle.std.specs.Prelude.{◌≡◌, ℕ, List, ⊤}
use Rattle.std.specs.Str.{IsUtf8}
use Rattle.std.specs.Str.Lossy.{utf8_valid_len}
use Rattle.kb_bls.specs.declared.parse.EntryError.{EntryError}
use Rattle.kb_bls.specs.declared.parse.EntryError.TheVariants.{NotText, NoMemory}

-- the bytes aren't UTF-8 and are so up to this place; want of memory is free
abbrev pub IsRefusalOf : List ℕ → EntryError → Type 0
IsRefusalOf bytes (NotText at) = (¬ IsUtf8 bytes) × (at ≡ utf8_valid_len bytes)
IsRefusalOf bytes NoMemory = ⊤
