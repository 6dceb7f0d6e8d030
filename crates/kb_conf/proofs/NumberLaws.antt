-- A number is found as the digits that spell it, and no other way.
use Rattle.std.proofs.Common.{◌≡◌, ℕ, ◌+◌, ◌-◌, ◌*◌, ◌/◌, ◌%◌, ◌<◌, ◌≤◌, ◌≢◌, true, false, ◌&&◌, eqb, ltb, List, [], ◌∷◌, ◌++◌, length, take, drop, refl, sym, ap, ◌∙◌, arith, Some, None, inl, inr}
use Rattle.std.specs.List.{prefix_len, list_all}
use Rattle.std.specs.Char.{is_ascii_digit}
use Rattle.std.proofs.lemmas.List.{drop_at, take_at, take-append-drop}
use Rattle.std.proofs.lemmas.Bool.Decides.{nat_tests}
use Rattle.std.proofs.lemmas.Bool.{eqb-false, and_parts, ltb-true, lt-ltb, le-ltb, ne_eqb, cases_lt}
use Rattle.std.proofs.lemmas.Option.{cond_some, none-some}
use Rattle.kb_conf.specs.Name.{decimal}
use Rattle.kb_conf.specs.Front.{number_written, number_at, below_256}
use Rattle.kb_conf.proofs.Tools.{mapped, chosen}
use Rattle.kb_conf.proofs.SpanLaws.{stops, passes_front, length_of_front, joined}

digit_range : (a : ℕ) → is_ascii_digit a ≡ true → (48 ≤ a) × (a ≤ 57)
digit_range a h = grind (arith, nat_tests)

range_digit : (a : ℕ) → a < 10 → is_ascii_digit (48 + a) ≡ true
range_digit a h = grind (arith, nat_tests)

one_digit : (n : ℕ) → n < 10 → decimal n ≡ (48 + n) ∷ []
unfolding decimal
one_digit n h = rw (lt-ltb n 10 h) refl

two_digits : (x y : ℕ) → 0 < x → x < 10 → y < 10 → decimal (10 * x + y) ≡ (48 + x) ∷ (48 + y) ∷ []
unfolding decimal
two_digits x y low high small =
    let q : (10 * x + y) / 10 ≡ x = omega arith in
    let r : (10 * x + y) % 10 ≡ y = omega arith in
    let not_one : ltb (10 * x + y) 10 ≡ false = le-ltb (10 * x + y) 10 (omega arith) in
    let two : ltb (10 * x + y) 100 ≡ true = lt-ltb (10 * x + y) 100 (omega arith) in
    rw (not_one, two, q, r) refl

three_digits : (x y z : ℕ) → 0 < x → x < 10 → y < 10 → z < 10 → decimal (100 * x + 10 * y + z) ≡ (48 + x) ∷ (48 + y) ∷ (48 + z) ∷ []
unfolding decimal
three_digits x y z low high small least =
    let n = 100 * x + 10 * y + z in
    let a : n / 100 ≡ x = omega arith in
    let b : n / 10 % 10 ≡ y = omega arith in
    let d : n % 10 ≡ z = omega arith in
    let not_one : ltb n 10 ≡ false = le-ltb n 10 (omega arith) in
    let not_two : ltb n 100 ≡ false = le-ltb n 100 (omega arith) in
    rw (not_one, not_two, a, b, d) refl

small_found : (m n : ℕ) → below_256 m ≡ Some n → (m < 256) × (m ≡ n)
small_found m n e = let picked = cond_some (ltb m 256) m n e in (ltb-true m 256 picked.0, picked.1)

digits_found : (ds : List ℕ) (n : ℕ) → list_all is_ascii_digit ds ≡ true → number_written ds ≡ Some n → (n < 256) × (ds ≡ decimal n)
digits_found [] n all e = absurd (none-some n e)
digits_found (a ∷ []) n all e =
    let in_a = digit_range a (and_parts (is_ascii_digit a) true all).0 in
    let s = small_found (a - 48) n e in
    let same : a ≡ 48 + n = omega (arith, s.1, in_a.0) in
    (omega (arith, s.0, s.1), ap (λ x. x ∷ []) same ∙ sym (one_digit n (omega (arith, same, in_a.1))))
digits_found (a ∷ b ∷ []) n all e =
    let ab = and_parts (is_ascii_digit a) (is_ascii_digit b && true) all in
    let in_a = digit_range a ab.0 in
    let in_b = digit_range b (and_parts (is_ascii_digit b) true ab.1).0 in
    elim (chosen (eqb a 48) None (below_256 (10 * (a - 48) + (b - 48))) (Some n) e) [
      | inl w ↦ absurd (none-some n w.1)
      | inr w ↦
          let s = small_found (10 * (a - 48) + (b - 48)) n w.1 in
          let not_zero : a ≢ 48 = eqb-false a 48 w.0 in
          let same_a : 48 + (a - 48) ≡ a = omega (arith, in_a.0) in
          let same_b : 48 + (b - 48) ≡ b = omega (arith, in_b.0) in (
            omega (arith, s.0, s.1),
            sym (ap decimal (sym s.1) ∙ two_digits (a - 48) (b - 48) (omega (arith, in_a, not_zero)) (omega (arith, in_a)) (omega (arith, in_b)) ∙ rw (same_a, same_b) refl),
          )
    ]
digits_found (a ∷ b ∷ d ∷ []) n all e =
    let ab = and_parts (is_ascii_digit a) (is_ascii_digit b && (is_ascii_digit d && true)) all in
    let bd = and_parts (is_ascii_digit b) (is_ascii_digit d && true) ab.1 in
    let in_a = digit_range a ab.0 in
    let in_b = digit_range b bd.0 in
    let in_d = digit_range d (and_parts (is_ascii_digit d) true bd.1).0 in
    elim (chosen (eqb a 48) None (below_256 (100 * (a - 48) + 10 * (b - 48) + (d - 48))) (Some n) e) [
      | inl w ↦ absurd (none-some n w.1)
      | inr w ↦
          let s = small_found (100 * (a - 48) + 10 * (b - 48) + (d - 48)) n w.1 in
          let not_zero : a ≢ 48 = eqb-false a 48 w.0 in
          let same_a : 48 + (a - 48) ≡ a = omega (arith, in_a.0) in
          let same_b : 48 + (b - 48) ≡ b = omega (arith, in_b.0) in
          let same_d : 48 + (d - 48) ≡ d = omega (arith, in_d.0) in (
            omega (arith, s.0, s.1),
            sym (ap decimal (sym s.1) ∙ three_digits (a - 48) (b - 48) (d - 48) (omega (arith, in_a, not_zero)) (omega (arith, in_a)) (omega (arith, in_b)) (omega (arith, in_d)) ∙ rw (same_a, same_b, same_d) refl),
          )
    ]
digits_found (a ∷ b ∷ d ∷ f ∷ more) n all e = absurd (none-some n e)

small_again : (n : ℕ) → n < 256 → below_256 n ≡ Some n
small_again n h = rw (lt-ltb n 256 h) refl

-- what a number is read as again, with its digits
pub record ReadAgain (ds : List ℕ) (n : ℕ) : Type 0 where
  pub digits : list_all is_ascii_digit ds ≡ true
  pub value : number_written ds ≡ Some n

two_again : (x y : ℕ) → 0 < x → x < 10 → y < 10 → ReadAgain ((48 + x) ∷ (48 + y) ∷ []) (10 * x + y)
two_again x y low high small =
    let a = range_digit x high in
    let b = range_digit y small in
    let not_zero : eqb (48 + x) 48 ≡ false = ne_eqb (48 + x) 48 (λ e. omega arith) in
    let vx : 48 + x - 48 ≡ x = omega arith in
    let vy : 48 + y - 48 ≡ y = omega arith in
    record { digits = rw (a, b) refl; value = rw (not_zero, vx, vy) (small_again (10 * x + y) (omega arith)) }

three_again : (x y z : ℕ) → 0 < x → x < 10 → y < 10 → z < 10 → 100 * x + 10 * y + z < 256 → ReadAgain ((48 + x) ∷ (48 + y) ∷ (48 + z) ∷ []) (100 * x + 10 * y + z)
three_again x y z low high small least limit =
    let a = range_digit x high in
    let b = range_digit y small in
    let d = range_digit z least in
    let not_zero : eqb (48 + x) 48 ≡ false = ne_eqb (48 + x) 48 (λ e. omega arith) in
    let vx : 48 + x - 48 ≡ x = omega arith in
    let vy : 48 + y - 48 ≡ y = omega arith in
    let vz : 48 + z - 48 ≡ z = omega arith in
    record { digits = rw (a, b, d) refl; value = rw (not_zero, vx, vy, vz) (small_again (100 * x + 10 * y + z) limit) }

moved : (ds es : List ℕ) (m n : ℕ) → es ≡ ds → n ≡ m → ReadAgain ds m → ReadAgain es n
moved ds es m n same_digits same_number r = record { digits = ap (list_all is_ascii_digit) same_digits ∙ r.digits; value = ap number_written same_digits ∙ r.value ∙ ap (λ (k : ℕ). Some k) (sym same_number) }

pub digits_again : (n : ℕ) → n < 256 → ReadAgain (decimal n) n
digits_again n h = elim (cases_lt n 10) [
  | inl one ↦
      let digit = range_digit n one in
      let value : 48 + n - 48 ≡ n = omega arith in
      moved ((48 + n) ∷ []) (decimal n) n n (one_digit n one) refl (record { digits = rw digit refl; value = ap below_256 value ∙ small_again n h })
  | inr more ↦ elim (cases_lt n 100) [
    | inl two ↦
        let split : n ≡ 10 * (n / 10) + n % 10 = omega arith in
        let text = ap decimal split ∙ two_digits (n / 10) (n % 10) (omega arith) (omega arith) (omega arith) in
        moved _ (decimal n) (10 * (n / 10) + n % 10) n text split (two_again (n / 10) (n % 10) (omega arith) (omega arith) (omega arith))
    | inr three ↦
        let split : n ≡ 100 * (n / 100) + 10 * (n / 10 % 10) + n % 10 = omega arith in
        let text = ap decimal split ∙ three_digits (n / 100) (n / 10 % 10) (n % 10) (omega arith) (omega arith) (omega arith) (omega arith) in
        moved _ (decimal n) (100 * (n / 100) + 10 * (n / 10 % 10) + n % 10) n text split (three_again (n / 100) (n / 10 % 10) (n % 10) (omega arith) (omega arith) (omega arith) (omega arith) (omega arith))
  ]
]

pub number_found : (text : List ℕ) (n : ℕ) (rest : List ℕ) → number_at text ≡ Some (n, rest) → (n < 256) × (text ≡ decimal n ++ rest)
unfolding number_at
number_found text n rest e =
    let k = prefix_len is_ascii_digit text in
    let m = mapped (λ (number : ℕ). (number, drop k text)) (number_written (take k text)) (n, rest) e in
    let same_n : m.0 ≡ n = ap (λ (q : ℕ × List ℕ). q.0) m.2 in
    let same_rest : drop k text ≡ rest = ap (λ (q : ℕ × List ℕ). q.1) m.2 in
    let found = digits_found (take k text) n (passes_front is_ascii_digit text) (m.1 ∙ ap (λ (x : ℕ). Some x) same_n) in
    (found.0, sym (take-append-drop k text) ∙ joined (take k text) (decimal n) (drop k text) rest found.1 same_rest)

pub number_again : (n : ℕ) (rest : List ℕ) → n < 256 → stops is_ascii_digit rest ≡ true → number_at (decimal n ++ rest) ≡ Some (n, rest)
unfolding number_at
number_again n rest h end =
    let digits = digits_again n h in
    let k : prefix_len is_ascii_digit (decimal n ++ rest) ≡ length (decimal n) = length_of_front is_ascii_digit (decimal n) rest digits.digits end in
    rw (k, take_at (decimal n) rest (length (decimal n)) refl, drop_at (decimal n) rest (length (decimal n)) refl, digits.value) refl
