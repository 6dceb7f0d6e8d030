-- Numbers go by the count of their digits, leading zeros aside, and then by their digits.
use Rattle.std.proofs.Common.{◌≡◌, ◌≢◌, ℕ, ◌+◌, ◌*◌, ◌<◌, ◌≤◌, List, [], ◌∷◌, length, refl, sym, ◌∙◌, ap, arith, Bool, true, false, cond}
use Rattle.std.specs.Prelude.{◌==◌, ⊤}
use Rattle.std.proofs.lemmas.Bool.{eqb-true, eqb-false}
use Rattle.std.proofs.lemmas.Str.{digit_value_digit}
use Rattle.std.proofs.lemmas.Str.Parse.{digit_from_value}
use Rattle.std.specs.declared.cmp.Ordering.TheVariants.{Less, Greater}
use Rattle.std.specs.Ordering.{nat_cmp, ordering_then}
use Rattle.std.specs.Cmp.{nat_cmp_is, ranks}
use Rattle.std.specs.Cmp.Lexicographic.{slice_cmp}
use Rattle.std.specs.Char.{digit_value}
use Rattle.std.specs.Str.Parse.{AllDigits, digits_value, digits_value_after}
use Rattle.std.proofs.lemmas.Cmp.{by_ranked, tied_itself, nat_cmp_total}
use Rattle.kb_version.specs.Signs.{digit_zero}
use Rattle.kb_version.specs.Digits.{without_zeros}

nat_cmp-Less : (m n : ℕ) → m < n → nat_cmp m n ≡ Less
nat_cmp-Less m n h = sym (nat_cmp_is m n Less h)

nat_cmp-Greater : (m n : ℕ) → n < m → nat_cmp m n ≡ Greater
nat_cmp-Greater m n h = sym (nat_cmp_is m n Greater h)

-- a digit's value is its distance from '0'
digit-is : (c : ℕ) → digit_value c < 10 → c ≡ 48 + digit_value c
digit-is c h = let is : digit_value c + 48 ≡ c = digit_value_digit c (digit_from_value c h) in omega arith

-- more digits never make a number less
digits_value-grows : (n : ℕ) (ds : List ℕ) → n ≤ digits_value_after 10 n ds
digits_value-grows n [] = omega arith
digits_value-grows n (d ∷ ds) = omega (arith, digits_value-grows (n * 10 + digit_value d) ds)

-- a number that begins with less, and has no more digits to come, is less
digits_value-below : (m n : ℕ) (xs ys : List ℕ) → AllDigits 10 xs → m < n → length xs ≤ length ys → digits_value_after 10 m xs < digits_value_after 10 n ys
digits_value-below m n [] ys digits less short = omega (arith, digits_value-grows n ys)
digits_value-below m n (x ∷ xs) [] digits less short = absurd (omega arith)
digits_value-below m n (x ∷ xs) (y ∷ ys) digits less short =
    digits_value-below (m * 10 + digit_value x) (n * 10 + digit_value y) xs ys digits.1 (omega (arith, digits.0)) (omega arith)

-- numbers with as many digits go by their digits
slice_cmp-digits : (n : ℕ) (xs ys : List ℕ) → AllDigits 10 xs → AllDigits 10 ys → length xs ≡ length ys → nat_cmp (digits_value_after 10 n xs) (digits_value_after 10 n ys) ≡ slice_cmp nat_cmp xs ys
slice_cmp-digits n [] [] left right same = tied_itself nat_cmp_total n
slice_cmp-digits n [] (y ∷ ys) left right same = absurd (omega arith)
slice_cmp-digits n (x ∷ xs) [] left right same = absurd (omega arith)
slice_cmp-digits n (x ∷ xs) (y ∷ ys) left right same =
    let is_x = digit-is x left.0 in
    let is_y = digit-is y right.0 in
    let after_x = digits_value_after 10 (n * 10 + digit_value x) xs in
    let after_y = digits_value_after 10 (n * 10 + digit_value y) ys in
    by_ranked (x < y) (x ≡ y) (y < x) (nat_cmp x y) (ranks x y)
    (λ e less.
    nat_cmp-Less after_x after_y (digits_value-below (n * 10 + digit_value x) (n * 10 + digit_value y) xs ys left.1 (omega arith) (omega arith))
    ∙ ap (λ o. ordering_then o (slice_cmp nat_cmp xs ys)) (sym e))
    (λ e same_digit.
    ap (λ d. nat_cmp after_x (digits_value_after 10 (n * 10 + digit_value d) ys)) (sym same_digit)
    ∙ slice_cmp-digits (n * 10 + digit_value x) xs ys left.1 right.1 (omega arith)
    ∙ ap (λ o. ordering_then o (slice_cmp nat_cmp xs ys)) (sym e))
    (λ e greater.
    nat_cmp-Greater after_x after_y (digits_value-below (n * 10 + digit_value y) (n * 10 + digit_value x) ys xs right.1 (omega arith) (omega arith))
    ∙ ap (λ o. ordering_then o (slice_cmp nat_cmp xs ys)) (sym e))

-- the first digit, if there is one, is no zero
abbrev pub IsSignificant : List ℕ → Type 0
IsSignificant [] = ⊤
IsSignificant (d ∷ ds) = d ≢ digit_zero

-- a number with fewer significant digits is less
digits_value-shorter : (xs ys : List ℕ) → AllDigits 10 xs → AllDigits 10 ys → IsSignificant ys → length xs < length ys → digits_value 10 xs < digits_value 10 ys
digits_value-shorter xs [] left right first short = absurd (omega arith)
digits_value-shorter xs (y ∷ ys) left right first short =
    let is_y = digit-is y right.0 in
    digits_value-below 0 (0 * 10 + digit_value y) xs ys left (omega arith) (omega arith)

-- without leading zeros, the count of digits and then the digits tell which number is less
by_length : (xs ys : List ℕ) → AllDigits 10 xs → AllDigits 10 ys → IsSignificant xs → IsSignificant ys → ordering_then (nat_cmp (length xs) (length ys)) (slice_cmp nat_cmp xs ys) ≡ nat_cmp (digits_value 10 xs) (digits_value 10 ys)
by_length xs ys left right first_x first_y =
    by_ranked (length xs < length ys) (length xs ≡ length ys) (length ys < length xs) (nat_cmp (length xs) (length ys)) (ranks (length xs) (length ys))
    (λ e short. ap (λ o. ordering_then o (slice_cmp nat_cmp xs ys)) e ∙ sym (nat_cmp-Less (digits_value 10 xs) (digits_value 10 ys) (digits_value-shorter xs ys left right first_y short)))
    (λ e same. ap (λ o. ordering_then o (slice_cmp nat_cmp xs ys)) e ∙ sym (slice_cmp-digits 0 xs ys left right same))
    (λ e long. ap (λ o. ordering_then o (slice_cmp nat_cmp xs ys)) e ∙ sym (nat_cmp-Greater (digits_value 10 xs) (digits_value 10 ys) (digits_value-shorter ys xs right left first_x long)))

-- what `without_zeros` keeps of digits
record KeepsNumber (old new : List ℕ) : Type 0 where
  digits : AllDigits 10 new
  first : IsSignificant new
  value : digits_value 10 new ≡ digits_value 10 old

keeps_more : (d : ℕ) (ds : List ℕ) → AllDigits 10 (d ∷ ds) → KeepsNumber ds (without_zeros ds) → (zero : Bool) → (d == 48) ≡ zero → KeepsNumber (d ∷ ds) (cond zero (without_zeros ds) (d ∷ ds))
keeps_more d ds digits kept true e = record {
  digits = kept.digits;
  first = kept.first;
  value = kept.value ∙ ap (λ c. digits_value 10 (c ∷ ds)) (sym (eqb-true d 48 e));
}
keeps_more d ds digits kept false e = record { digits = digits; first = eqb-false d 48 e; value = refl }

keeps_number : (ds : List ℕ) → AllDigits 10 ds → KeepsNumber ds (without_zeros ds)
keeps_number [] digits = record { digits = tt; first = tt; value = refl }
keeps_number (d ∷ ds) digits = keeps_more d ds digits (keeps_number ds digits.1) (d == 48) refl

-- two runs of digits, compared without their leading zeros by length and then by bytes, go as the numbers that they write
pub number_order : (xs ys : List ℕ) → AllDigits 10 xs → AllDigits 10 ys → ordering_then (nat_cmp (length (without_zeros xs)) (length (without_zeros ys))) (slice_cmp nat_cmp (without_zeros xs) (without_zeros ys)) ≡ nat_cmp (digits_value 10 xs) (digits_value 10 ys)
number_order xs ys left right =
    let x = keeps_number xs left in
    let y = keeps_number ys right in
    by_length (without_zeros xs) (without_zeros ys) x.digits y.digits x.first y.first
    ∙ ap (λ n. nat_cmp n (digits_value 10 (without_zeros ys))) x.value
    ∙ ap (λ n. nat_cmp (digits_value 10 xs) n) y.value
