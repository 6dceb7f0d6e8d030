-- A run of letters or of digits is an item, and what follows it is cut as a text of its own.
use Rattle.std.proofs.Common.{◌≡◌, ◌≢◌, ℕ, ◌+◌, ◌<◌, List, [], ◌∷◌, ◌++◌, length, get_or, drop, refl, sym, ◌∙◌, ap, arith, Bool, true, false, cond, suc}
use Rattle.std.proofs.lemmas.Bool.Decides.{nat_tests}
use Rattle.std.proofs.lemmas.List.Sums.{take_while-cons}
use Rattle.std.specs.List.{take_while, prefix_len}
use Rattle.std.specs.Char.{is_ascii_alphabetic, is_ascii_digit, digit_value}
use Rattle.std.specs.Str.Parse.{digits_value, AllDigits}
use Rattle.kb_version.specs.Items.{Letters, Number, Kind, Letter, Digit, Skipped, byte_kind, items_at, items_after, items}

kind_of-letter : (c : ℕ) → is_ascii_alphabetic c ≡ true → byte_kind c ≡ Letter
kind_of-letter c e = grind (arith, nat_tests)

kind_of-digit : (c : ℕ) → is_ascii_digit c ≡ true → byte_kind c ≡ Digit
kind_of-digit c e = grind (arith, nat_tests)

pub kind_of-no_letter : (c : ℕ) → is_ascii_alphabetic c ≡ false → byte_kind c ≢ Letter
kind_of-no_letter c e = λ h. grind (arith, nat_tests)

pub kind_of-no_digit : (c : ℕ) → is_ascii_digit c ≡ false → byte_kind c ≢ Digit
kind_of-no_digit c e = λ h. grind (arith, nat_tests)

-- after a run that passes p: its rest gives no item, and what follows it is cut as a text of its own
module _
    (run : Kind) (p : ℕ → Bool)
    (passing : (c : ℕ) → p c ≡ true → byte_kind c ≡ run)
    (goes_on : (c : ℕ) (rest : List ℕ) → items_at run run c rest ≡ [])
    (ends : (c : ℕ) (rest : List ℕ) → p c ≡ false → items_at run (byte_kind c) c rest ≡ items_at Skipped (byte_kind c) c rest) where
  after_more : (c : ℕ) (rest : List ℕ) (b : Bool) → p c ≡ b → items_after run rest ≡ items (drop (prefix_len p rest) rest) → items_after run (c ∷ rest) ≡ items (drop (cond b (1 + prefix_len p rest) 0) (c ∷ rest))
  after_more c rest true e below =
      let one_more : suc (prefix_len p rest) ≡ 1 + prefix_len p rest = omega arith in
      ap (λ k. items_at run k c rest ++ items_after k rest) (passing c e)
      ∙ ap (λ begins. begins ++ items_after run rest) (goes_on c rest)
      ∙ below ∙ ap (λ n. items (drop n (c ∷ rest))) one_more
  after_more c rest false e below = ap (λ begins. begins ++ items_after (byte_kind c) rest) (ends c rest e)

  items_after-run : (rest : List ℕ) → items_after run rest ≡ items (drop (prefix_len p rest) rest)
  items_after-run [] = refl
  items_after-run (c ∷ rest) = after_more c rest (p c) refl (items_after-run rest)

  -- a text that begins with such a run gives what begins there, and the items of what follows the run
  items-run : (c : ℕ) (rest : List ℕ) → p c ≡ true → items (c ∷ rest) ≡ items_at Skipped run c rest ++ items (drop (prefix_len p (c ∷ rest)) (c ∷ rest))
  items-run c rest e =
      let one_more : suc (prefix_len p rest) ≡ 1 + prefix_len p rest = omega arith in
      ap (λ k. items_at Skipped k c rest ++ items_after k rest) (passing c e)
      ∙ ap (λ behind. items_at Skipped run c rest ++ behind) (items_after-run rest ∙ ap (λ n. items (drop n (c ∷ rest))) one_more)
      ∙ ap (λ b. items_at Skipped run c rest ++ items (drop (cond b (1 + prefix_len p rest) 0) (c ∷ rest))) (sym e)

letters_end : (k : Kind) (c : ℕ) (rest : List ℕ) → k ≢ Letter → items_at Letter k c rest ≡ items_at Skipped k c rest
letters_end Letter c rest other = absurd (other refl)
letters_end k c rest other = refl

digits_end : (k : Kind) (c : ℕ) (rest : List ℕ) → k ≢ Digit → items_at Digit k c rest ≡ items_at Skipped k c rest
digits_end Digit c rest other = absurd (other refl)
digits_end k c rest other = refl

take_while-first : (p : ℕ → Bool) (c : ℕ) (rest : List ℕ) → p c ≡ true → c ∷ take_while p rest ≡ take_while p (c ∷ rest)
take_while-first p c rest e = sym (take_while-cons p c rest ∙ ap (λ b. cond b (c ∷ take_while p rest) []) e)

pub items-letters : (text : List ℕ) → 0 < length text → is_ascii_alphabetic (get_or text 0 0) ≡ true → items text ≡ Letters (take_while is_ascii_alphabetic text) ∷ items (drop (prefix_len is_ascii_alphabetic text) text)
items-letters [] some first = absurd (omega arith)
items-letters (c ∷ rest) some first =
    items-run Letter is_ascii_alphabetic kind_of-letter (λ d ds. refl) (λ d ds e. letters_end (byte_kind d) d ds (kind_of-no_letter d e)) c rest first
    ∙ ap (λ run. Letters run ∷ items (drop (prefix_len is_ascii_alphabetic (c ∷ rest)) (c ∷ rest))) (take_while-first is_ascii_alphabetic c rest first)

pub items-digits : (text : List ℕ) → 0 < length text → is_ascii_digit (get_or text 0 0) ≡ true → items text ≡ Number (digits_value 10 (take_while is_ascii_digit text)) ∷ items (drop (prefix_len is_ascii_digit text) text)
items-digits [] some first = absurd (omega arith)
items-digits (c ∷ rest) some first =
    items-run Digit is_ascii_digit kind_of-digit (λ d ds. refl) (λ d ds e. digits_end (byte_kind d) d ds (kind_of-no_digit d e)) c rest first
    ∙ ap (λ run. Number (digits_value 10 run) ∷ items (drop (prefix_len is_ascii_digit (c ∷ rest)) (c ∷ rest))) (take_while-first is_ascii_digit c rest first)

digit-below_ten : (c : ℕ) → is_ascii_digit c ≡ true → digit_value c < 10
digit-below_ten c e = grind (arith, nat_tests)

AllDigits-more : (c : ℕ) (ds : List ℕ) (b : Bool) → is_ascii_digit c ≡ b → AllDigits 10 ds → AllDigits 10 (cond b (c ∷ ds) [])
AllDigits-more c ds true e below = (digit-below_ten c e, below)
AllDigits-more c ds false e below = tt

-- the digits that stand first are digits alone
pub AllDigits-take_while : (text : List ℕ) → AllDigits 10 (take_while is_ascii_digit text)
AllDigits-take_while [] = tt
AllDigits-take_while (c ∷ rest) = rw (take_while-cons is_ascii_digit c rest) (AllDigits-more c (take_while is_ascii_digit rest) (is_ascii_digit c) refl (AllDigits-take_while rest))
