-- Where a word is split at its first slash.
use Rattle.std.proofs.Common.{◌≡◌, ℕ, suc, ◌+◌, ◌<◌, Bool, true, false, cond, not, ◌||◌, [], ◌∷◌, ◌++◌, length, get_or, take, drop, Option, Some, None, MatchOption, Bor, nat_eq, refl, sym, ap, ◌∙◌, true≢false, length-drop, one-add, add-one, eqb-true, arith}
use Rattle.std.specs.List.{position_or_len}
use Rattle.std.specs.Str.{byte}
use Rattle.std.proofs.lemmas.List.Sums.{split_at_first, passes_at_first}
use Rattle.std.proofs.lemmas.List.{take_at}
use Rattle.kb_words.specs.Words.{Word, has_slash, is_nonempty, with_slash}
use Rattle.kb_words.specs.Reading.{before_slash, after_slash, spot_split}

abbrev is_slash : ℕ → Bool
is_slash c = nat_eq c (byte "/")

abbrev slash_place : Word → ℕ
slash_place word = position_or_len is_slash word

neither : (a b : Bool) → (a || b) ≡ false → (a ≡ false) × (b ≡ false)
neither true b h = absurd (true≢false h)
neither false b h = (refl, h)

-- ---- the first slash, where it is known

at_slash : (first more : Word) → has_slash first ≡ false → slash_place (with_slash first more) ≡ length first
at_slash [] more h = refl
at_slash (c ∷ first) more h =
    let parts = neither (is_slash c) (has_slash first) h in
    ap (λ b. cond (not b) (1 + slash_place (with_slash first more)) 0) parts.0
    ∙ ap (λ n. 1 + n) (at_slash first more parts.1) ∙ one-add (length first)

drop_past : (first more : Word) (c : ℕ) → drop (suc (length first)) (first ++ c ∷ more) ≡ more
drop_past [] more c = refl
drop_past (d ∷ first) more c = drop_past first more c

pub before_is : (first more : Word) → has_slash first ≡ false → before_slash (with_slash first more) ≡ first
before_is first more h = take_at first (byte "/" ∷ more) (slash_place (with_slash first more)) (sym (at_slash first more h))

pub after_is : (first more : Word) → has_slash first ≡ false → after_slash (with_slash first more) ≡ more
after_is first more h =
    ap (λ n. drop (n + 1) (with_slash first more)) (at_slash first more h)
    ∙ ap (λ n. drop n (with_slash first more)) (add-one (length first)) ∙ drop_past first more (byte "/")

pub slash_between : (first more : Word) → has_slash (with_slash first more) ≡ true
slash_between [] more = refl
slash_between (c ∷ first) more = by_case (is_slash c) (slash_between first more)
  where
    by_case : (b : Bool) → has_slash (with_slash first more) ≡ true → (b || has_slash (with_slash first more)) ≡ true
    by_case true h = refl
    by_case false h = h

-- ---- any word

-- no slash stands before the first one
pub plain_front : (word : Word) → has_slash (before_slash word) ≡ false
plain_front [] = refl
plain_front (c ∷ word) = by_case (is_slash c) refl (plain_front word)
  where
    by_case : (b : Bool) → is_slash c ≡ b → has_slash (before_slash word) ≡ false → has_slash (before_slash (c ∷ word)) ≡ false
    by_case true e h = ap (λ b. has_slash (take (cond (not b) (1 + slash_place word) 0) (c ∷ word))) e
    by_case false e h =
        ap (λ b. has_slash (take (cond (not b) (1 + slash_place word) 0) (c ∷ word))) e
        ∙ ap (λ n. has_slash (take n (c ∷ word))) (one-add (slash_place word))
        ∙ ap (λ b. b || has_slash (before_slash word)) e ∙ h

-- a slash stands in a word exactly where its place is within
has_or_not : (word : Word) → (has_slash word ≡ true → slash_place word < length word) × (has_slash word ≡ false → slash_place word ≡ length word)
has_or_not [] = ((λ h. absurd (true≢false (sym h))), λ h. refl)
has_or_not (c ∷ word) = by_case (is_slash c) refl (has_or_not word)
  where
    by_case : (b : Bool) → is_slash c ≡ b → (has_slash word ≡ true → slash_place word < length word) × (has_slash word ≡ false → slash_place word ≡ length word)
        → ((has_slash (c ∷ word) ≡ true → slash_place (c ∷ word) < length (c ∷ word)) × (has_slash (c ∷ word) ≡ false → slash_place (c ∷ word) ≡ length (c ∷ word)))
    by_case true e rest =
        let here : slash_place (c ∷ word) ≡ 0 = ap (λ b. cond (not b) (1 + slash_place word) 0) e in
        ((λ h. omega arith), λ h. absurd (true≢false (sym (ap (λ b. b || has_slash word) e) ∙ h)))
    by_case false e rest =
        let here : slash_place (c ∷ word) ≡ 1 + slash_place word = ap (λ b. cond (not b) (1 + slash_place word) 0) e in
        let same : has_slash (c ∷ word) ≡ has_slash word = ap (λ b. b || has_slash word) e in
        ((λ h. let less = rest.0 (sym same ∙ h) in omega arith), λ h. let is = rest.1 (sym same ∙ h) in omega arith)

pub joined_again : (word : Word) → slash_place word < length word → word ≡ with_slash (before_slash word) (after_slash word)
joined_again word within =
    let slash = eqb-true (get_or word (slash_place word) 0) (byte "/") (passes_at_first is_slash word 0 within) in
    split_at_first is_slash word 0 within ∙ ap (λ c. before_slash word ++ c ∷ after_slash word) slash

pub split_again : (word : Word) → has_slash word ≡ true → word ≡ with_slash (before_slash word) (after_slash word)
split_again word h = joined_again word ((has_or_not word).0 h)

given_long : (word : Word) → is_nonempty word ≡ true → 0 < length word
given_long [] h = absurd (true≢false (sym h))
given_long (c ∷ word) h = omega arith

pub slash_within : (word : Word) → is_nonempty (after_slash word) ≡ true → slash_place word < length word
slash_within word h =
    let long = given_long (after_slash word) h in
    let is = length-drop (slash_place word + 1) word in
    omega arith

-- nothing stands behind the first slash of a word without one
pub nothing_behind : (word : Word) → has_slash word ≡ false → is_nonempty (after_slash word) ≡ false
nothing_behind word h = by_case (is_nonempty (after_slash word)) refl
  where
    by_case : (b : Bool) → is_nonempty (after_slash word) ≡ b → is_nonempty (after_slash word) ≡ false
    by_case true e = let within = slash_within word e in let is = (has_or_not word).1 h in absurd (omega arith)
    by_case false e = e

-- ---- a kernel and an architecture

-- what `split_once` says, in the words of the reading
pub spot_found : (word : Word) (found : Option (Bor Word × Bor Word))
    → MatchOption found (slash_place word ≡ length word) (λ names. (slash_place word < length word) × (names.0.now ≡ before_slash word) × (names.1.now ≡ after_slash word))
    → MatchOption found (has_slash word ≡ false) (λ names. (has_slash word ≡ true) × (spot_split word ≡ record { kernel = names.0.now; arch = names.1.now }))
spot_found word None h = by_case (has_slash word) refl
  where
    by_case : (b : Bool) → has_slash word ≡ b → has_slash word ≡ false
    by_case true e = let less = (has_or_not word).0 e in absurd (omega arith)
    by_case false e = e
spot_found word (Some names) h = (by_case (has_slash word) refl, λ i. record { kernel = sym h.1 i; arch = sym h.2 i })
  where
    by_case : (b : Bool) → has_slash word ≡ b → has_slash word ≡ true
    by_case true e = e
    by_case false e = let is = (has_or_not word).1 e in let less = h.0 in absurd (omega arith)
