-- A text of few digits is read as their number.
use Rattle.std.proofs.Common.{◌≡◌, ℕ, ◌<◌, ◌≤◌, Bool, true, false, not, List, length, nat_eq, refl, arith, rules}
use Rattle.std.specs.Prelude.{Result, Ok}
use Rattle.std.specs.Char.{is_ascii_digit}
use Rattle.std.specs.List.{list_all}
use Rattle.std.specs.Str.Parse.{ParsesUnsigned, digits_value}
use Rattle.std.proofs.lemmas.Bool.{and_parts, eqb-false}
use Rattle.std.proofs.lemmas.Bool.Decides.{nat_tests}
use Rattle.std.proofs.lemmas.Str.Parse.{IsNumeralModel, numerals_by_value, parse_gives, digits_value_short}
use Rattle.kb_token.specs.Token.{are_digits}

own : IsNumeralModel (λ ds. list_all is_ascii_digit ds ≡ true) (digits_value 10)
own = numerals_by_value _ (search rules)

not_true : (b : Bool) → not b ≡ true → b ≡ false
not_true true e = let impossible : false ≡ true = e in cc
not_true false e = refl

pub read_is : {E : Type 0} (digits : List ℕ) (r : Result ℕ E) → ParsesUnsigned 32 10 digits r → are_digits digits ≡ true → length digits ≤ 9 → r ≡ Ok (digits_value 10 digits)
read_is digits r h are short =
    let parts = and_parts (not (nat_eq (length digits) 0)) (list_all is_ascii_digit digits) are in
    let some : 0 < length digits = grind (arith, nat_tests, eqb-false (length digits) 0 (not_true _ parts.0)) in
    parse_gives own 32 digits r h parts.1 some (omega (arith, digits_value_short own digits 9 parts.1 short))
