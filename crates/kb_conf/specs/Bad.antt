-- How a bad value of a dkms.conf is named. This project's own.
use Rattle.std.specs.Prelude.{ℕ, Bool, List, [], ◌∷◌, ◌++◌, Option, Some, None, codes, decimal, if◌then◌else◌}
use Rattle.std.specs.Option.{option_or}

-- `NAME[i]`
abbrev pub numbered : List ℕ → ℕ → List ℕ
numbered name i = name ++ codes "[" ++ decimal i ++ codes "]"

abbrev pub bad_unless : Bool → List ℕ → ℕ → Option (List ℕ)
bad_unless good name i = if good then None else Some (numbered name i)

abbrev pub bad_alone_unless : Bool → List ℕ → Option (List ℕ)
bad_alone_unless good name = if good then None else Some name

-- what the first of these that finds something finds
unfoldable pub first_of : {A B : Type 0} → (A → Option B) → List A → Option B
first_of find [] = None
first_of find (x ∷ xs) = option_or (find x) (first_of find xs)
