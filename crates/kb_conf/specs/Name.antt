-- What an assignment or a variable is called: NAME or NAME[N].
use Rattle.std.specs.Prelude.{ℕ, ◌+◌, ◌/◌, ◌%◌, Bool, true, false, ◌&&◌, List, [], ◌∷◌, ◌++◌, Option, Some, None, nat_lt, if◌then◌else◌}
use Rattle.std.specs.List.{list_all}
use Rattle.kb_conf.specs.Signs.{digit_zero, open_bracket, close_bracket}
use Rattle.kb_conf.specs.Bytes.{starts_name, continues_name}

-- a letter or _, and then letters, digits and _
abbrev pub is_variable_name : List ℕ → Bool
is_variable_name [] = false
is_variable_name (b ∷ bs) = starts_name b && list_all continues_name bs

-- a number below 1000 in decimal digits, without leading zeros
unfoldable pub decimal : ℕ → List ℕ
decimal n =
    if nat_lt n 10 then (digit_zero + n) ∷ []
    else if nat_lt n 100 then (digit_zero + n / 10) ∷ (digit_zero + n % 10) ∷ []
    else (digit_zero + n / 100) ∷ (digit_zero + n / 10 % 10) ∷ (digit_zero + n % 10) ∷ []

pub record Reference : Type 0 where
  pub name : List ℕ
  pub number : Option ℕ

abbrev pub subscript : Option ℕ → List ℕ
subscript None = []
subscript (Some n) = open_bracket ∷ (decimal n ++ close_bracket ∷ [])

-- numbers go from 0 to 255
abbrev pub is_number : Option ℕ → Bool
is_number None = true
is_number (Some n) = nat_lt n 256

abbrev pub spell_reference : Reference → List ℕ
spell_reference r = r.name ++ subscript r.number

abbrev pub is_reference : Reference → Bool
is_reference r = is_variable_name r.name && is_number r.number
