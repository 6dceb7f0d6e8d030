-- Texts that are the same up to a byte that is no letter and no digit go as what follows it.
use Rattle.std.proofs.Common.{◌≡◌, ◌≢◌, ℕ, ◌-◌, ◌<◌, List, [], ◌∷◌, ◌++◌, length, get_or, take, drop, refl, sym, ◌∙◌, ap, arith, Bool, false, cond, sub-one, append_assoc}
use Rattle.std.proofs.Math.Seq.{take-length}
use Rattle.std.proofs.lemmas.Bool.Decides.{nat_tests}
use Rattle.std.proofs.lemmas.Cmp.{tied_itself}
use Rattle.std.proofs.lemmas.List.Sums.{take_while-cons}
use Rattle.std.specs.List.{take_while}
use Rattle.std.specs.Ordering.{ordering_then}
use Rattle.std.specs.Cmp.Lexicographic.{slice_cmp}
use Rattle.std.specs.Char.{is_ascii_alphabetic, is_ascii_digit, is_ascii_alphanumeric}
use Rattle.std.specs.Str.Parse.{digits_value}
use Rattle.kb_version.specs.Items.{Item, Letters, Number, Kind, Letter, Digit, Sign, Skipped, byte_kind, items_at, items_after, items}
use Rattle.kb_version.specs.Order.{item_order, items_order}
use Rattle.kb_version.specs.OrderLaws.{item_order_total}
use Rattle.kb_version.proofs.Runs.{kind_of-no_letter, kind_of-no_digit}

no_letter : (c : ℕ) → is_ascii_alphanumeric c ≡ false → is_ascii_alphabetic c ≡ false
no_letter c e = grind (arith, nat_tests)

no_digit : (c : ℕ) → is_ascii_alphanumeric c ≡ false → is_ascii_digit c ≡ false
no_digit c e = grind (arith, nat_tests)

-- a run that stands before a byte that isn't of it ends there, whatever follows
take_while-ended : (p : ℕ → Bool) (run : List ℕ) (c : ℕ) (l r : List ℕ) → p c ≡ false → take_while p (run ++ c ∷ l) ≡ take_while p (run ++ c ∷ r)
take_while-ended p [] c l r e =
    take_while-cons p c l ∙ ap (λ b. cond b (c ∷ take_while p l) []) e
    ∙ sym (take_while-cons p c r ∙ ap (λ b. cond b (c ∷ take_while p r) []) e)
take_while-ended p (d ∷ run) c l r e =
    take_while-cons p d (run ++ c ∷ l)
    ∙ ap (λ run_on. cond (p d) (d ∷ run_on) []) (take_while-ended p run c l r e)
    ∙ sym (take_while-cons p d (run ++ c ∷ r))

-- of what follows a byte, only the run that goes on tells what begins at the byte
items_at-same : (before k : Kind) (c : ℕ) (l r : List ℕ) → take_while is_ascii_alphabetic l ≡ take_while is_ascii_alphabetic r → take_while is_ascii_digit l ≡ take_while is_ascii_digit r → items_at before k c l ≡ items_at before k c r
items_at-same Letter Letter c l r letters digits = refl
items_at-same before Letter c l r letters digits = ap (λ run. Letters (c ∷ run) ∷ []) letters
items_at-same Digit Digit c l r letters digits = refl
items_at-same before Digit c l r letters digits = ap (λ run. Number (digits_value 10 (c ∷ run)) ∷ []) digits
items_at-same before k c l r letters digits = refl

-- a byte that is of no run begins the same whatever follows it, and what follows is cut as a text of its own
items_at-apart : (before k : Kind) (c : ℕ) (l r : List ℕ) → k ≢ Letter → k ≢ Digit → items_at before k c l ≡ items_at before k c r
items_at-apart before Letter c l r no_run no_number = absurd (no_run refl)
items_at-apart before Digit c l r no_run no_number = absurd (no_number refl)
items_at-apart before (Sign item) c l r no_run no_number = refl
items_at-apart before Skipped c l r no_run no_number = refl

items_after-apart : (k : Kind) (text : List ℕ) → k ≢ Letter → k ≢ Digit → items_after k text ≡ items text
items_after-apart Letter text no_run no_number = absurd (no_run refl)
items_after-apart Digit text no_run no_number = absurd (no_number refl)
items_after-apart (Sign item) [] no_run no_number = refl
items_after-apart (Sign item) (c ∷ text) no_run no_number = refl
items_after-apart Skipped text no_run no_number = refl

slice_cmp-prefix : (xs l r : List Item) → slice_cmp item_order (xs ++ l) (xs ++ r) ≡ slice_cmp item_order l r
slice_cmp-prefix [] l r = refl
slice_cmp-prefix (x ∷ xs) l r =
    ap (λ o. ordering_then o (slice_cmp item_order (xs ++ l) (xs ++ r))) (tied_itself item_order_total x) ∙ slice_cmp-prefix xs l r

-- where two lists begin alike, the rest decides
begin_alike : (xs ys l r : List Item) → xs ≡ ys → slice_cmp item_order (xs ++ l) (ys ++ r) ≡ slice_cmp item_order l r
begin_alike xs ys l r e = ap (λ begins. slice_cmp item_order (begins ++ l) (ys ++ r)) e ∙ slice_cmp-prefix ys l r

-- two texts that are the same up to a byte c, which is neither a letter nor a digit
rest_decides : (before : Kind) (run : List ℕ) (c : ℕ) (l r : List ℕ) → is_ascii_alphanumeric c ≡ false → slice_cmp item_order (items_after before (run ++ c ∷ l)) (items_after before (run ++ c ∷ r)) ≡ items_order l r
rest_decides before [] c l r e =
    let no_run = kind_of-no_letter c (no_letter c e) in
    let no_number = kind_of-no_digit c (no_digit c e) in
    begin_alike (items_at before (byte_kind c) c l) (items_at before (byte_kind c) c r) (items_after (byte_kind c) l) (items_after (byte_kind c) r) (items_at-apart before (byte_kind c) c l r no_run no_number)
    ∙ ap (λ behind. slice_cmp item_order behind (items_after (byte_kind c) r)) (items_after-apart (byte_kind c) l no_run no_number)
    ∙ ap (λ behind. slice_cmp item_order (items l) behind) (items_after-apart (byte_kind c) r no_run no_number)
rest_decides before (d ∷ run) c l r e =
    begin_alike (items_at before (byte_kind d) d (run ++ c ∷ l)) (items_at before (byte_kind d) d (run ++ c ∷ r)) (items_after (byte_kind d) (run ++ c ∷ l)) (items_after (byte_kind d) (run ++ c ∷ r))
    (items_at-same before (byte_kind d) d (run ++ c ∷ l) (run ++ c ∷ r) (take_while-ended is_ascii_alphabetic run c l r (no_letter c e)) (take_while-ended is_ascii_digit run c l r (no_digit c e)))
    ∙ rest_decides (byte_kind d) run c l r e

-- two texts are the same up to these rests
pub record Shares (left right left_rest right_rest : List ℕ) : Type 0 where
  pub run : List ℕ
  pub left_is : left ≡ run ++ left_rest
  pub right_is : right ≡ run ++ right_rest

-- what follows the first byte
abbrev tail_of : List ℕ → List ℕ
tail_of text = take (length text - 1) (drop 1 text)

first_and_tail : (text : List ℕ) → 0 < length text → text ≡ get_or text 0 0 ∷ tail_of text
first_and_tail [] some = absurd (omega arith)
first_and_tail (c ∷ rest) some = ap (λ text. c ∷ text) (sym (ap (λ n. take n rest) (sub-one (length (c ∷ rest))) ∙ take-length rest))

-- where both rests go on with one byte
module _
    (left right left_rest right_rest : List ℕ) (shares : Shares left right left_rest right_rest)
    (some_left : 0 < length left_rest) (some_right : 0 < length right_rest)
    (same : get_or left_rest 0 0 ≡ get_or right_rest 0 0) where
  left_cut : left ≡ shares.run ++ get_or left_rest 0 0 ∷ tail_of left_rest
  left_cut = shares.left_is ∙ ap (λ rest. shares.run ++ rest) (first_and_tail left_rest some_left)

  right_cut : right ≡ shares.run ++ get_or left_rest 0 0 ∷ tail_of right_rest
  right_cut = shares.right_is ∙ ap (λ rest. shares.run ++ rest) (first_and_tail right_rest some_right) ∙ ap (λ c. shares.run ++ c ∷ tail_of right_rest) (sym same)

  pub shares-more : Shares left right (tail_of left_rest) (tail_of right_rest)
  shares-more = record {
    run = shares.run ++ get_or left_rest 0 0 ∷ [];
    left_is = left_cut ∙ sym (append_assoc shares.run (get_or left_rest 0 0 ∷ []) (tail_of left_rest));
    right_is = right_cut ∙ sym (append_assoc shares.run (get_or left_rest 0 0 ∷ []) (tail_of right_rest));
  }

  pub items_order-tail_of : is_ascii_alphanumeric (get_or left_rest 0 0) ≡ false → items_order (tail_of left_rest) (tail_of right_rest) ≡ items_order left right
  items_order-tail_of e =
      sym (rest_decides Skipped shares.run (get_or left_rest 0 0) (tail_of left_rest) (tail_of right_rest) e)
      ∙ ap (λ text. items_order text (shares.run ++ get_or left_rest 0 0 ∷ tail_of right_rest)) (sym left_cut)
      ∙ ap (λ text. items_order left text) (sym right_cut)
