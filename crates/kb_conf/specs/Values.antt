-- What the assignments of a dkms.conf say by name and number. After dkms(8); that an empty value counts as an
-- absent one is this project's own.
use Rattle.std.specs.Prelude.{ℕ, Bool, true, false, List, [], ◌∷◌, unwrap_or, filter, if◌then◌else◌}
use Rattle.std.specs.List.{range_with_len}
use Rattle.kb_conf.specs.Assignment.{Assignment, last_value}

abbrev pub Values : Type 0
Values = List Assignment

-- the value of a name and number, the last that was assigned; an absent one is empty
abbrev pub value_of : Values → List ℕ → ℕ → List ℕ
value_of values name i = unwrap_or (last_value values name i) []

abbrev pub is_given : List ℕ → Bool
is_given [] = false
is_given (b ∷ bs) = true

-- the value, or else the other
abbrev pub or_else : List ℕ → List ℕ → List ℕ
or_else value other = if is_given value then value else other

-- the numbers from 0 to 255
unfoldable pub all_numbers : List ℕ
all_numbers = range_with_len 0 256

-- the numbers of a name that have a value, rising
unfoldable pub numbers_of : Values → List ℕ → List ℕ
numbers_of values name = filter (λ i. is_given (value_of values name i)) all_numbers
