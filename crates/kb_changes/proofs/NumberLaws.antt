-- A number can name an entry of a directory.
use Rattle.std.proofs.Common.{◌≡◌, ℕ, ◌<◌, ◌≤◌, ◌^◌, true, List, [], ◌∷◌, length, codes, refl, arith}
use Rattle.std.specs.Char.{is_ascii_digit}
use Rattle.std.specs.Cmp.{first_so, second_so}
use Rattle.std.specs.Cmp.Derive.{both_true}
use Rattle.std.specs.Fmt.{decimal}
use Rattle.std.specs.List.{list_all}
use Rattle.std.proofs.Common.{rules}
use Rattle.std.specs.Str.Parse.{digits_value}
use Rattle.std.proofs.lemmas.Bool.Decides.{nat_tests}
use Rattle.std.proofs.lemmas.Fmt.{digits_decimal, decimal_nonempty, length-decimal-le}
use Rattle.std.proofs.lemmas.Str.Parse.{IsNumeralModel, numerals_by_value}
use Rattle.kb_world.specs.Names.{is_name, is_one_of, begins_alphanumeric}
use Rattle.kb_world.proofs.NameLaws.{named}

digits_model : IsNumeralModel (λ ds. list_all is_ascii_digit ds ≡ true) (digits_value 10)
digits_model = numerals_by_value (λ ds. list_all is_ascii_digit ds ≡ true) (search rules)

digit_is_word : (c : ℕ) → is_ascii_digit c ≡ true → is_one_of (codes "._+-~^:") c ≡ true
digit_is_word c h = grind (arith, nat_tests)

digits_are_word : (ds : List ℕ) → list_all is_ascii_digit ds ≡ true → list_all (is_one_of (codes "._+-~^:")) ds ≡ true
digits_are_word [] h = refl
digits_are_word (c ∷ ds) h = both_true (digit_is_word c (first_so (is_ascii_digit c) _ h)) (digits_are_word ds (second_so (is_ascii_digit c) _ h))

digits_begin : (ds : List ℕ) → 0 < length ds → list_all is_ascii_digit ds ≡ true → begins_alphanumeric ds ≡ true
digits_begin [] some h = absurd (omega arith)
digits_begin (c ∷ ds) some h = let one = first_so (is_ascii_digit c) _ h in grind (arith, nat_tests)

pub number_named : (n : ℕ) → n < 2 ^ 64 → is_name (decimal n) ≡ true
number_named n small =
    let ds = digits_decimal digits_model n small in
    let short : length (decimal n) ≤ 20 = length-decimal-le 20 n (omega arith) (omega arith) small in
    named (decimal n) (omega (arith, short)) (digits_begin (decimal n) (decimal_nonempty n small) ds) (digits_are_word (decimal n) ds)
