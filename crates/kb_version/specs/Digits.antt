-- Leading zeros.
use Rattle.std.specs.Prelude.{ℕ, List, [], ◌∷◌, ◌==◌, if◌then◌else◌}
use Rattle.kb_version.specs.Signs.{digit_zero}

-- the digits from the first that is no zero on
abbrev pub without_zeros : List ℕ → List ℕ
without_zeros [] = []
without_zeros (c ∷ cs) = if c == digit_zero then without_zeros cs else c ∷ cs
