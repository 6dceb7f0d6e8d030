-- Laws of the definition of the order: what is placed next, and what a module waits for then.
use Rattle.std.proofs.Common.{◌≡◌, ℕ, zero, suc, ◌+◌, ◌<◌, Bool, true, false, cond, ◌&&◌, ◌||◌, not, List, [], ◌∷◌, ◌++◌, length, Option, Some, None, Ordering, refl, sym, ap, ◌∙◌, arith, ◌⊎◌, inl, inr}
use Rattle.std.specs.declared.cmp.Ordering.TheVariants.{Less, Equal, Greater}
use Rattle.std.specs.List.{count_by}
use Rattle.std.specs.Ordering.{ordering_then, ordering_reverse, bool_cmp, is_gt}
use Rattle.std.specs.Cmp.{IsTotalOrder, then_total, on_total, bool_cmp_total}
use Rattle.std.specs.Cmp.Lexicographic.{nat_list_cmp_total, nat_list_eq_equiv}
use Rattle.std.specs.Str.{bytes_eq}
use Rattle.std.proofs.lemmas.Map.Lookups.{exact_bytes}
use Rattle.std.proofs.lemmas.List.Sums.{sum_by-cons}
use Rattle.std.proofs.lemmas.Slice.Eq.{bytes_eq-Decides}
use Rattle.kb_auto.specs.declared.Listed.{Listed}
use Rattle.kb_auto.specs.declared.Placed.{Placed}
use Rattle.kb_auto.specs.Order.{is_module_listed, is_placed, is_open, turn_of, place_order, sooner, next_among}
use Rattle.kb_auto.specs.Queue.{module_at, is_link}

-- ---- the order of places
pub place_total : IsTotalOrder place_order
place_total = then_total (on_total (λ (p : Placed). p.cyclic) bool_cmp_total) (on_total (λ (p : Placed). p.name) nat_list_cmp_total)

pub bools_exact : (a b : Bool) → bool_cmp a b ≡ Equal → a ≡ b
bools_exact true true h = refl
bools_exact false false h = refl
bools_exact true false h = cc
bools_exact false true h = cc

pub then_first : (r s : Ordering) → ordering_then r s ≡ Equal → r ≡ Equal
then_first Less s h = h
then_first Equal s h = refl
then_first Greater s h = h

pub then_second : (r s : Ordering) → ordering_then r s ≡ Equal → s ≡ Equal
then_second Less s h = cc
then_second Equal s h = h
then_second Greater s h = cc

place_exact : (a b : Placed) → place_order a b ≡ Equal → a ≡ b
place_exact a b h =
    let cyclic : a.cyclic ≡ b.cyclic = bools_exact a.cyclic b.cyclic (then_first _ _ h) in
    let name : a.name ≡ b.name = exact_bytes a.name b.name (then_second (bool_cmp a.cyclic b.cyclic) _ h) in
    λ i. record { name = name i; cyclic = cyclic i }

-- ---- the least of some modules
abbrev Later : Placed → Option Placed → Type 0
Later p None = Unit {0}
Later p (Some q) = is_gt (place_order p q) ≡ false

sooner-itself : (p : Placed) (o : Option Placed) → Later p o → sooner p o ≡ p
sooner-itself p None h = refl
sooner-itself p (Some q) h = ap (λ b. cond b q p) h

sooner-later : (p a : Placed) (o : Option Placed) → is_gt (place_order p a) ≡ false → Later p o → is_gt (place_order p (sooner a o)) ≡ false
sooner-later p a None h k = h
sooner-later p a (Some q) h k = by_test (is_gt (place_order a q))
  where
    by_test : (b : Bool) → is_gt (place_order p (cond b q a)) ≡ false
    by_test true = k
    by_test false = h

sooner-comes : (p a : Placed) → is_gt (place_order p a) ≡ false → sooner a (Some p) ≡ p
sooner-comes p a h = by_order (place_order p a) refl
  where
    by_order : (o : Ordering) → place_order p a ≡ o → sooner a (Some p) ≡ p
    by_order Less e = ap (λ r. cond (is_gt r) p a) (place_total.antisymm a p ∙ ap ordering_reverse e)
    by_order Equal e = ap (λ r. cond (is_gt r) p a) (place_total.antisymm a p ∙ ap ordering_reverse e) ∙ sym (place_exact p a e)
    by_order Greater e = let q : true ≡ false = sym (ap is_gt e) ∙ h in cc

abbrev IsBefore : List Listed → List Placed → Placed → List Listed → Type 0
IsBefore list done p [] = Unit {0}
IsBefore list done p (m ∷ ms) = (is_placed done m.name ≡ false → is_gt (place_order p (turn_of list done m)) ≡ false) × IsBefore list done p ms

abbrev IsOf : List Listed → List Placed → Placed → List Listed → Type 0
IsOf list done p [] = ⊥
IsOf list done p (m ∷ ms) = ((is_placed done m.name ≡ false) × (p ≡ turn_of list done m)) ⊎ IsOf list done p ms

later : (list : List Listed) (done : List Placed) (p : Placed) (ms : List Listed) → IsBefore list done p ms → Later p (next_among list done ms)
later list done p [] h = tt
later list done p (m ∷ ms) h = by_test (is_placed done m.name) h.0 (later list done p ms h.1)
  where
    by_test : (b : Bool) → (b ≡ false → is_gt (place_order p (turn_of list done m)) ≡ false) → Later p (next_among list done ms)
        → Later p (cond b (next_among list done ms) (Some (sooner (turn_of list done m) (next_among list done ms))))
    by_test true f behind = behind
    by_test false f behind = sooner-later p (turn_of list done m) (next_among list done ms) (f refl) behind

pub next_is : (list : List Listed) (done : List Placed) (p : Placed) (ms : List Listed) → IsBefore list done p ms → IsOf list done p ms → next_among list done ms ≡ Some p
next_is list done p [] h k = absurd k
next_is list done p (m ∷ ms) h (inl k) =
    ap (λ b. cond b (next_among list done ms) (Some (sooner (turn_of list done m) (next_among list done ms)))) k.0
    ∙ ap (λ a. Some (sooner a (next_among list done ms))) (sym k.1)
    ∙ ap Some (sooner-itself p (next_among list done ms) (later list done p ms h.1))
next_is list done p (m ∷ ms) h (inr k) = by_test (is_placed done m.name) h.0 (next_is list done p ms h.1 k)
  where
    by_test : (b : Bool) → (b ≡ false → is_gt (place_order p (turn_of list done m)) ≡ false) → next_among list done ms ≡ Some p
        → cond b (next_among list done ms) (Some (sooner (turn_of list done m) (next_among list done ms))) ≡ Some p
    by_test true f behind = behind
    by_test false f behind = ap (λ o. Some (sooner (turn_of list done m) o)) behind ∙ ap Some (sooner-comes p (turn_of list done m) (f refl))

-- where each is placed there is none
pub next_none : (list : List Listed) (done : List Placed) (ms : List Listed) → ((k : ℕ) → k < length ms → is_placed done (module_at ms k).name ≡ true) → next_among list done ms ≡ None
next_none list done [] h = refl
next_none list done (m ∷ ms) h =
    let first : is_placed done m.name ≡ true = h 0 (omega arith) in
    ap (λ b. cond b (next_among list done ms) (Some (sooner (turn_of list done m) (next_among list done ms)))) first
    ∙ next_none list done ms (λ k l. h (suc k) (omega arith))

-- ---- by places
pub before_at : (list : List Listed) (done : List Placed) (p : Placed) (ms : List Listed)
    → ((k : ℕ) → k < length ms → is_placed done (module_at ms k).name ≡ false → is_gt (place_order p (turn_of list done (module_at ms k))) ≡ false)
    → IsBefore list done p ms
before_at list done p [] h = tt
before_at list done p (m ∷ ms) h = (h 0 (omega arith), before_at list done p ms (λ k l. h (suc k) (omega arith)))

pub of_at : (list : List Listed) (done : List Placed) (p : Placed) (ms : List Listed) (k : ℕ)
    → k < length ms → is_placed done (module_at ms k).name ≡ false → p ≡ turn_of list done (module_at ms k) → IsOf list done p ms
of_at list done p [] k l f e = absurd (omega arith)
of_at list done p (m ∷ ms) zero l f e = inl (f, e)
of_at list done p (m ∷ ms) (suc k) l f e = inr (of_at list done p ms k (omega arith) f e)

-- ---- what is waited for
pub bytes_eq-refl : (a : List ℕ) → bytes_eq a a ≡ true
bytes_eq-refl a = nat_list_eq_equiv.refl a

pub bytes_eq-true : (a b : List ℕ) → bytes_eq a b ≡ true → a ≡ b
bytes_eq-true a b h = (bytes_eq-Decides a b).0 h

pub listed_at : (list : List Listed) (k : ℕ) → k < length list → is_module_listed list (module_at list k).name ≡ true
listed_at [] k l = absurd (omega arith)
listed_at (m ∷ ms) zero l = ap (λ b. b || is_module_listed ms m.name) (bytes_eq-refl m.name)
listed_at (m ∷ ms) (suc k) l =
    let behind = listed_at ms k (omega arith) in
    by_test (bytes_eq (module_at ms k).name m.name) (is_module_listed ms (module_at ms k).name) behind
  where
    by_test : (a b : Bool) → b ≡ true → (a || b) ≡ true
    by_test true b h = refl
    by_test false b h = h

pub placed_more : (done : List Placed) (p : Placed) (name : List ℕ) → is_placed (done ++ p ∷ []) name ≡ (is_placed done name || bytes_eq name p.name)
placed_more [] p name = or_false (bytes_eq name p.name)
  where
    or_false : (b : Bool) → (b || false) ≡ b
    or_false true = refl
    or_false false = refl
placed_more (q ∷ done) p name = ap (λ b. bytes_eq name q.name || b) (placed_more done p name) ∙ or_assoc (bytes_eq name q.name) (is_placed done name) (bytes_eq name p.name)
  where
    or_assoc : (a b c : Bool) → (a || (b || c)) ≡ ((a || b) || c)
    or_assoc true b c = refl
    or_assoc false b c = refl

add_zero : (a : ℕ) → a + 0 ≡ a
add_zero a = omega arith

four : (a b c d e f x y z : ℕ) → x ≡ a + b → y ≡ c + d → z ≡ e + f → a + c ≡ e → b + d ≡ f → x + y ≡ z
four a b c d e f x y z h i j k l = omega (arith, h, i, j, k, l)

-- one dependency: it is the one that is placed, or it is as before
one_less : (own listed was now same : Bool) → now ≡ (was || same) → (same ≡ true → listed ≡ true) → (same ≡ true → was ≡ false)
    → cond (not own && (listed && not now)) 1 0 + cond (not own && same) 1 0 ≡ cond (not own && (listed && not was)) 1 0
one_less true listed was now same e f g = refl
one_less false listed was now true e f g = ones listed was now (f refl) (g refl) (e ∙ true_or was)
  where
    true_or : (b : Bool) → (b || true) ≡ true
    true_or true = refl
    true_or false = refl

    ones : (listed was now : Bool) → listed ≡ true → was ≡ false → now ≡ true → cond (listed && not now) 1 0 + 1 ≡ cond (listed && not was) 1 0
    ones listed was now a b c = ap (λ t. cond (listed && not t) 1 0 + 1) c ∙ ap (λ t. cond (t && false) 1 0 + 1) a ∙ sym (ap (λ t. cond (listed && not t) 1 0) b ∙ ap (λ t. cond (t && true) 1 0) a)
one_less false listed was now false e f g = none listed was now (e ∙ false_or was)
  where
    false_or : (b : Bool) → (b || false) ≡ b
    false_or true = refl
    false_or false = refl

    none : (listed was now : Bool) → now ≡ was → cond (listed && not now) 1 0 + 0 ≡ cond (listed && not was) 1 0
    none listed was now a = ap (λ t. cond (listed && not t) 1 0 + 0) a ∙ add_zero (cond (listed && not was) 1 0)

pub waits_less : (list : List Listed) (done : List Placed) (other : Listed) (p : Placed) (m : Listed) → p.name ≡ other.name → is_module_listed list p.name ≡ true → is_placed done p.name ≡ false
    → (names : List (List ℕ)) → count_by (is_open list (done ++ p ∷ []) m) names + count_by (is_link other m) names ≡ count_by (is_open list done m) names
waits_less list done other p m same listed fresh [] = refl
waits_less list done other p m same listed fresh (name ∷ names) =
    let behind = waits_less list done other p m same listed fresh names in
    let here = one_less (bytes_eq name m.name) (is_module_listed list name) (is_placed done name) (is_placed (done ++ p ∷ []) name) (bytes_eq name other.name)
    (placed_more done p name ∙ ap (λ n. is_placed done name || bytes_eq name n) same)
    (λ e. ap (is_module_listed list) (bytes_eq-true name other.name e ∙ sym same) ∙ listed)
    (λ e. ap (is_placed done) (bytes_eq-true name other.name e ∙ sym same) ∙ fresh) in
    four _ _ _ _ _ _ _ _ _
    (sum_by-cons (λ n. cond (is_open list (done ++ p ∷ []) m n) 1 0) name names)
    (sum_by-cons (λ n. cond (is_link other m n) 1 0) name names)
    (sum_by-cons (λ n. cond (is_open list done m n) 1 0) name names)
    here behind
