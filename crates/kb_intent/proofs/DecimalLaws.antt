-- A number below 2^64 is written as no other number is, also as none beyond.
use Rattle.std.proofs.Common.{◌≡◌, ◌⊎◌, ℕ, zero, suc, ◌+◌, ◌*◌, ◌/◌, ◌%◌, ◌^◌, ◌<◌, ◌≤◌, Bool, true, false, List, [], ◌∷◌, ◌++◌, length, refl, sym, ap, ◌∙◌, inl, inr, arith, length-append, append_assoc, lt-ltb, eqb-true, eq-eqb}
use Rattle.std.specs.Bool.{if◌then◌else◌, ◌==◌}
use Rattle.std.specs.Fmt.{decimal, digits, digits_onto, digit_glyph}
use Rattle.std.proofs.lemmas.Bool.{cases_lt}
use Rattle.kb_world.proofs.PathLaws.{by_test}

-- the digits of a number, so many at most
abbrev digits_in : ℕ → ℕ → List ℕ
digits_in k n = digits_onto k 10 false n []

abbrev last_of : ℕ → ℕ
last_of n = digit_glyph false (n % 10)

onto_is : (k n : ℕ) (acc : List ℕ) → digits_onto k 10 false n acc ≡ digits_in k n ++ acc
onto_is zero n acc = refl
onto_is (suc k) n acc = by ((n / 10) == 0) (onto_is k (n / 10) (last_of n ∷ acc)) (onto_is k (n / 10) (last_of n ∷ []))
  where
    by : (b : Bool) → digits_onto k 10 false (n / 10) (last_of n ∷ acc) ≡ digits_in k (n / 10) ++ last_of n ∷ acc → digits_onto k 10 false (n / 10) (last_of n ∷ []) ≡ digits_in k (n / 10) ++ last_of n ∷ []
        → (if b then last_of n ∷ acc else digits_onto k 10 false (n / 10) (last_of n ∷ acc)) ≡ (if b then last_of n ∷ [] else digits_onto k 10 false (n / 10) (last_of n ∷ [])) ++ acc
    by true one other = refl
    by false one other = one ∙ sym (append_assoc (digits_in k (n / 10)) (last_of n ∷ []) acc) ∙ ap (λ l. l ++ acc) (sym other)

-- more digits than one
last_digit : (k n : ℕ) → 10 ≤ n → digits_in (suc k) n ≡ digits_in k (n / 10) ++ last_of n ∷ []
last_digit k n more =
    ap (λ b. if b then last_of n ∷ [] else digits_onto k 10 false (n / 10) (last_of n ∷ [])) not_zero ∙ onto_is k (n / 10) (last_of n ∷ [])
  where
    not_zero : ((n / 10) == 0) ≡ false
    not_zero = by_test ((n / 10) == 0) (λ is. let none : n / 10 ≡ 0 = eqb-true (n / 10) 0 is in absurd (omega arith))

one_digit : (k n : ℕ) → n < 10 → digits_in (suc k) n ≡ digit_glyph false n ∷ []
one_digit k n less =
    ap (λ b. if b then last_of n ∷ [] else digits_onto k 10 false (n / 10) (last_of n ∷ [])) (eq-eqb (n / 10) 0 none) ∙ ap (λ d. digit_glyph false d ∷ []) own
  where
    none : n / 10 ≡ 0
    none = omega arith

    own : n % 10 ≡ n
    own = omega arith

glyph : (d : ℕ) → d < 10 → digit_glyph false d ≡ 48 + d
glyph d less = ap (λ b. if b then 48 + d else 87 + d) (lt-ltb d 10 less)

glyph_same : (a b : ℕ) → a < 10 → b < 10 → digit_glyph false a ≡ digit_glyph false b → a ≡ b
glyph_same a b less also same = let e : 48 + a ≡ 48 + b = sym (glyph a less) ∙ same ∙ glyph b also in omega (arith, e)

some_digit : (k n : ℕ) → 0 < length (digits_in (suc k) n)
some_digit k n = elim (cases_lt n 10) [
  | inl less ↦ omega (arith, ap length (one_digit k n less))
  | inr more ↦ omega (arith, ap length (last_digit k n more), length-append (digits_in k (n / 10)) (last_of n ∷ []))
]

-- the last of two lists with an end
ends : (xs ys : List ℕ) (a b : ℕ) → xs ++ a ∷ [] ≡ ys ++ b ∷ [] → (xs ≡ ys) × (a ≡ b)
ends [] [] a b e = let same : a ≡ b = cc in (refl, same)
ends [] (y ∷ ys) a b e = absurd (omega (arith, ap length e, length-append ys (b ∷ [])))
ends (x ∷ xs) [] a b e = absurd (omega (arith, ap length e, length-append xs (a ∷ [])))
ends (x ∷ xs) (y ∷ ys) a b e =
    let first : x ≡ y = cc in
    let tail : xs ++ a ∷ [] ≡ ys ++ b ∷ [] = cc in
    let rest = ends xs ys a b tail in
    ((λ i. first i ∷ rest.0 i), rest.1)

-- ten to so many
abbrev tens : ℕ → ℕ
tens zero = 10
tens (suc j) = 10 * tens j

from_parts : (j n m : ℕ) → (10 ≤ n → digits_in (suc j) (n / 10) ≡ digits_in (suc j) (m / 10) → n / 10 ≡ m / 10) → digits_in (suc (suc j)) n ≡ digits_in (suc (suc j)) m → n ≡ m
from_parts j n m again e = by (cases_lt n 10) (cases_lt m 10)
  where
    short_long : (a b : ℕ) → a < 10 → 10 ≤ b → digits_in (suc (suc j)) a ≡ digits_in (suc (suc j)) b → ⊥
    short_long a b less more same =
        omega (arith, ap length (sym (one_digit (suc j) a less) ∙ same ∙ last_digit (suc j) b more), length-append (digits_in (suc j) (b / 10)) (last_of b ∷ []), some_digit j (b / 10))

    by : (n < 10) ⊎ (10 ≤ n) → (m < 10) ⊎ (10 ≤ m) → n ≡ m
    by (inl less) (inl also) =
        let same : digit_glyph false n ∷ [] ≡ digit_glyph false m ∷ [] = sym (one_digit (suc j) n less) ∙ e ∙ one_digit (suc j) m also in
        let one : digit_glyph false n ≡ digit_glyph false m = cc in
        glyph_same n m less also one
    by (inl less) (inr also) = absurd (short_long n m less also e)
    by (inr more) (inl also) = absurd (short_long m n also more (sym e))
    by (inr more) (inr also) =
        let parts = ends (digits_in (suc j) (n / 10)) (digits_in (suc j) (m / 10)) (last_of n) (last_of m) (sym (last_digit (suc j) n more) ∙ e ∙ last_digit (suc j) m also) in
        let last : n % 10 ≡ m % 10 = glyph_same (n % 10) (m % 10) (omega arith) (omega arith) parts.1 in
        let front : n / 10 ≡ m / 10 = again more parts.0 in
        omega (arith, last, front)

same_number : (j n m : ℕ) → n < tens j → digits_in (suc (suc j)) n ≡ digits_in (suc (suc j)) m → n ≡ m
same_number zero n m small = from_parts zero n m (λ more same. absurd (omega (arith, more, small)))
same_number (suc i) n m small = from_parts (suc i) n m (λ more same. same_number i (n / 10) (m / 10) (omega (arith, small)) same)

pub decimal_alone : (n m : ℕ) → n < 2 ^ 64 → decimal n ≡ decimal m → n ≡ m
unfolding digits
decimal_alone n m small same = same_number 62 n m (omega arith) same
