-- What is kept of a child's outputs. This project's own.
use Rattle.std.specs.Prelude.{◌≡◌, ℕ, Bool, true, List, take, Option, IfSome}
use Rattle.std.specs.Io.KnownBytes.{Consumes, IsAtEnd}

-- the first 4 MiB
abbrev pub most_kept : ℕ
most_kept = 4194304

-- Of what left a reader so far the first 4 MiB are kept, and where its end was told nothing is left in it.
pub record IsReadTo (first left : Option (List ℕ)) (kept : List ℕ) (is_at_end : Bool) : Type 0 where
  pub read : List ℕ
  pub consumed : Consumes first left read
  pub front : kept ≡ take most_kept read
  pub end : is_at_end ≡ true → IsAtEnd left

-- the first 4 MiB of all that a reader had left, where it tells its bytes
abbrev pub KeepsFront : Option (List ℕ) → List ℕ → Type 0
KeepsFront first kept = IfSome first (λ bytes. kept ≡ take most_kept bytes)
