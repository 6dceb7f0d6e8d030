-- Laws of the order as a whole: each module is the next behind those before it, and each is placed.
use Rattle.std.proofs.Common.{◌≡◌, ◌≢◌, ℕ, zero, suc, ◌+◌, ◌<◌, ◌≤◌, Bool, true, false, cond, ◌||◌, not, List, [], ◌∷◌, ◌++◌, length, get_or, take, Option, Some, None, refl, sym, ap, ◌∙◌, subst, arith, nat_lt, ◌⊎◌, inl, inr}
use Rattle.std.specs.List.{count_by}
use Rattle.std.specs.Option.{is_some, unwrap_or}
use Rattle.std.specs.Ordering.{is_gt}
use Rattle.std.specs.Str.{bytes_eq}
use Rattle.std.proofs.lemmas.Bool.{ltb-false, cases_lt}
use Rattle.std.proofs.lemmas.List.Sums.{sum_by-cons, get_or-le-sum_by, sum_by-le-sum_by, count_by-le-length}
use Rattle.kb_auto.specs.declared.Listed.{Listed}
use Rattle.kb_auto.specs.declared.Placed.{Placed}
use Rattle.kb_auto.specs.Order.{is_placed, is_open, waits_for, turn_of, place_order, sooner, next_among, with_next, placed, modules_in_order, NamesDiffer}
use Rattle.kb_auto.specs.Queue.{module_at}
use Rattle.kb_auto.specs.Laws.{placed_at}
use Rattle.kb_auto.proofs.NextLaws.{placed_more, bytes_eq-refl}

no_false : {A : Type 0} → false ≡ true → A
no_false h = let q : true ≡ false = sym h in cc

some_one : (a b : Placed) → Some a ≡ Some b → a ≡ b
some_one a b h = ap (λ o. unwrap_or o a) h

no_none : {A : Type 0} (a : Placed) → Some a ≡ None → A
no_none a h = no_false (sym (ap is_some h))

-- ---- who is next
pub record Stands (list : List Listed) (done : List Placed) (p : Placed) (ms : List Listed) : Type 0 where
  pub at : ℕ
  pub within : at < length ms
  pub fresh : is_placed done (module_at ms at).name ≡ false
  pub is : p ≡ turn_of list done (module_at ms at)

later : (list : List Listed) (done : List Placed) (p : Placed) (m : Listed) (ms : List Listed) → Stands list done p ms → Stands list done p (m ∷ ms)
later list done p m ms h = record { at = suc h.at; within = (let l = h.within in omega (arith, l)); fresh = h.fresh; is = h.is }

pub next_stands : (list : List Listed) (done : List Placed) (p : Placed) (ms : List Listed) → next_among list done ms ≡ Some p → Stands list done p ms
next_stands list done p [] h = no_none p (sym h)
next_stands list done p (m ∷ ms) h = by_test (λ q e. next_stands list done q ms e) (is_placed done m.name) refl h
  where
    first : is_placed done m.name ≡ false → p ≡ turn_of list done m → Stands list done p (m ∷ ms)
    first f e = record { at = 0; within = omega arith; fresh = f; is = e }

    by_order : ((q : Placed) → next_among list done ms ≡ Some q → Stands list done q ms) → (q : Placed) (b : Bool) → next_among list done ms ≡ Some q → is_placed done m.name ≡ false → cond b q (turn_of list done m) ≡ p → Stands list done p (m ∷ ms)
    by_order again q true e f g = later list done p m ms (again p (e ∙ ap Some g))
    by_order again q false e f g = first f (sym g)

    by_rest : ((q : Placed) → next_among list done ms ≡ Some q → Stands list done q ms) → (o : Option Placed) → next_among list done ms ≡ o → is_placed done m.name ≡ false → sooner (turn_of list done m) o ≡ p → Stands list done p (m ∷ ms)
    by_rest again None e f g = first f (sym g)
    by_rest again (Some q) e f g = by_order again q (is_gt (place_order (turn_of list done m) q)) e f g

    by_test : ((q : Placed) → next_among list done ms ≡ Some q → Stands list done q ms) → (b : Bool) → is_placed done m.name ≡ b → cond b (next_among list done ms) (Some (sooner (turn_of list done m) (next_among list done ms))) ≡ Some p → Stands list done p (m ∷ ms)
    by_test again true f g = later list done p m ms (again p g)
    by_test again false f g = by_rest again (next_among list done ms) refl f (some_one (sooner (turn_of list done m) (next_among list done ms)) p g)

pub none_next : (list : List Listed) (done : List Placed) (ms : List Listed) → next_among list done ms ≡ None → (k : ℕ) → k < length ms → is_placed done (module_at ms k).name ≡ true
none_next list done [] h k l = absurd (omega (arith, l))
none_next list done (m ∷ ms) h k l = by_test (none_next list done ms) (is_placed done m.name) refl h k l
  where
    at_place : (next_among list done ms ≡ None → (k : ℕ) → k < length ms → is_placed done (module_at ms k).name ≡ true) → is_placed done m.name ≡ true → next_among list done ms ≡ None → (k : ℕ) → k < length (m ∷ ms) → is_placed done (module_at (m ∷ ms) k).name ≡ true
    at_place again f g zero l = f
    at_place again f g (suc k) l = again g k (omega (arith, l))

    by_test : (next_among list done ms ≡ None → (k : ℕ) → k < length ms → is_placed done (module_at ms k).name ≡ true) → (b : Bool) → is_placed done m.name ≡ b → cond b (next_among list done ms) (Some (sooner (turn_of list done m) (next_among list done ms))) ≡ None
        → (k : ℕ) → k < length (m ∷ ms) → is_placed done (module_at (m ∷ ms) k).name ≡ true
    by_test again true f g = at_place again f g
    by_test again false f g = no_none (sooner (turn_of list done m) (next_among list done ms)) g

-- ---- the order behind those that are placed
abbrev goes_on : (Placed → List Placed) → Option Placed → List Placed
goes_on go None = []
goes_on go (Some p) = go p

abbrev rest : ℕ → List Listed → List Placed → List Placed
rest zero list done = []
rest (suc n) list done = goes_on (λ p. p ∷ rest n list (done ++ p ∷ [])) (next_among list done list)

nothing_more : (xs : List Placed) → xs ≡ xs ++ []
nothing_more [] = refl
nothing_more (x ∷ xs) = ap (λ ys. x ∷ ys) (nothing_more xs)

one_more : (xs : List Placed) (p : Placed) (ys : List Placed) → (xs ++ p ∷ []) ++ ys ≡ xs ++ (p ∷ ys)
one_more [] p ys = refl
one_more (x ∷ xs) p ys = ap (λ zs. x ∷ zs) (one_more xs p ys)

placed_rest : (n : ℕ) (list : List Listed) (done : List Placed) → placed n list done ≡ done ++ rest n list done
placed_rest zero list done = nothing_more done
placed_rest (suc n) list done = by_next (placed_rest n list) (next_among list done list)
  where
    by_next : ((d : List Placed) → placed n list d ≡ d ++ rest n list d) → (o : Option Placed) → with_next done (λ p. placed n list (done ++ p ∷ [])) o ≡ done ++ goes_on (λ p. p ∷ rest n list (done ++ p ∷ [])) o
    by_next again None = nothing_more done
    by_next again (Some p) = again (done ++ p ∷ []) ∙ one_more done p (rest n list (done ++ p ∷ []))

take_front : (xs : List Placed) (p : Placed) (ys : List Placed) → take (length xs) (xs ++ (p ∷ ys)) ≡ xs
take_front [] p ys = refl
take_front (x ∷ xs) p ys = ap (λ zs. x ∷ zs) (take_front xs p ys)

get_front : (xs : List Placed) (p : Placed) (ys : List Placed) → placed_at (xs ++ (p ∷ ys)) (length xs) ≡ p
get_front [] p ys = refl
get_front (x ∷ xs) p ys = get_front xs p ys

length_more : (xs : List Placed) (p : Placed) → length (xs ++ p ∷ []) ≡ length xs + 1
length_more [] p = refl
length_more (x ∷ xs) p = let h = length_more xs p in omega (arith, h)

abbrev IsNextAt : List Listed → ℕ → List Placed → Type 0
IsNextAt list i order = next_among list (take i order) list ≡ Some (placed_at order i)

-- each that is placed is the next behind those before it
each_is_next : (n : ℕ) (list : List Listed) (done : List Placed) (i : ℕ) → length done ≤ i → i < length (placed n list done)
    → next_among list (take i (placed n list done)) list ≡ Some (placed_at (placed n list done) i)
each_is_next zero list done i l m = absurd (omega (arith, l, m))
each_is_next (suc n) list done i l m = by_next (λ d. each_is_next n list d i) (next_among list done list) refl m
  where
    here : (p : Placed) → next_among list done list ≡ Some p → length done ≡ i → IsNextAt list i (placed n list (done ++ p ∷ []))
    here p next e =
        let split : placed n list (done ++ p ∷ []) ≡ done ++ (p ∷ rest n list (done ++ p ∷ [])) = placed_rest n list (done ++ p ∷ []) ∙ one_more done p (rest n list (done ++ p ∷ [])) in
        let ys = rest n list (done ++ p ∷ []) in
        ap (λ order. next_among list (take i order) list) split ∙ ap (λ j. next_among list (take j (done ++ (p ∷ ys))) list) (sym e) ∙ ap (λ d. next_among list d list) (take_front done p ys)
        ∙ next ∙ ap Some (sym (get_front done p ys) ∙ ap (placed_at (done ++ (p ∷ ys))) e ∙ ap (λ order. placed_at order i) (sym split))

    by_place : ((d : List Placed) → length d ≤ i → i < length (placed n list d) → IsNextAt list i (placed n list d)) → (p : Placed) → next_among list done list ≡ Some p → i < length (placed n list (done ++ p ∷ [])) → (length done < i) ⊎ (i ≤ length done) → IsNextAt list i (placed n list (done ++ p ∷ []))
    by_place again p next m (inl more) = again (done ++ p ∷ []) (let s = length_more done p in omega (arith, s, more)) m
    by_place again p next m (inr less) = here p next (omega (arith, l, less))

    by_next : ((d : List Placed) → length d ≤ i → i < length (placed n list d) → IsNextAt list i (placed n list d)) → (o : Option Placed) → next_among list done list ≡ o → i < length (with_next done (λ p. placed n list (done ++ p ∷ [])) o) → IsNextAt list i (with_next done (λ p. placed n list (done ++ p ∷ [])) o)
    by_next again None e m = absurd (omega (arith, l, m))
    by_next again (Some p) e m = by_place again p e m (cases_lt (length done) i)

pub next_at : (list : List Listed) (i : ℕ) → i < length (modules_in_order list) → next_among list (take i (modules_in_order list)) list ≡ Some (placed_at (modules_in_order list) i)
next_at list i l = each_is_next (length list) list [] i (omega arith) l

pub stands_at : (list : List Listed) (i : ℕ) → i < length (modules_in_order list) → Stands list (take i (modules_in_order list)) (placed_at (modules_in_order list) i) list
stands_at list i l = next_stands list (take i (modules_in_order list)) (placed_at (modules_in_order list) i) list (each_is_next (length list) list [] i (omega arith) l)

-- ---- behind its dependencies
no_wait : (n : ℕ) → nat_lt 0 n ≡ false → n ≡ 0
no_wait n h = let l = ltb-false 0 n h in omega (arith, l)

none_open : (b : Bool) (n : ℕ) → cond b 1 0 ≤ n → n ≡ 0 → b ≡ false
none_open true n h e = absurd (omega (arith, h, e))
none_open false n h e = refl

pub behind : (list : List Listed) (i k j : ℕ) → NamesDiffer list → i < length (modules_in_order list) → k < length list → (placed_at (modules_in_order list) i).name ≡ (module_at list k).name
    → (placed_at (modules_in_order list) i).cyclic ≡ false → j < length (module_at list k).depends
    → is_open list (take i (modules_in_order list)) (module_at list k) (get_or (module_at list k).depends j []) ≡ false
behind list i k j differ l m named plain n =
    let stands = stands_at list i l in
    let same : stands.at ≡ k = differ stands.at k (record { name = []; depends = [] }) stands.within m (sym (ap (λ (p : Placed). p.name) stands.is) ∙ named) in
    let none : waits_for list (take i (modules_in_order list)) (module_at list k) ≡ 0 =
    ap (λ at. waits_for list (take i (modules_in_order list)) (module_at list at)) (sym same) ∙ no_wait (waits_for list (take i (modules_in_order list)) (module_at list stands.at)) (sym (ap (λ (p : Placed). p.cyclic) stands.is) ∙ plain) in
    none_open _ _ (get_or-le-sum_by (λ name. cond (is_open list (take i (modules_in_order list)) (module_at list k) name) 1 0) (module_at list k).depends j [] n) none

-- ---- each once
pub listed_once : (list : List Listed) (i : ℕ) → i < length (modules_in_order list) → (k : ℕ) × ((k < length list) × ((placed_at (modules_in_order list) i).name ≡ (module_at list k).name))
listed_once list i l = let stands = stands_at list i l in (stands.at, (stands.within, ap (λ (p : Placed). p.name) stands.is))

among_front : (order : List Placed) (i j : ℕ) → i < j → i < length order → is_placed (take j order) (placed_at order i).name ≡ true
among_front [] i j l m = absurd (omega (arith, m))
among_front (p ∷ order) i zero l m = absurd (omega (arith, l))
among_front (p ∷ order) zero (suc j) l m = ap (λ b. b || is_placed (take j order) p.name) (bytes_eq-refl p.name)
among_front (p ∷ order) (suc i) (suc j) l m = by_test (bytes_eq (placed_at order i).name p.name) (among_front order i j (omega (arith, l)) (omega (arith, m)))
  where
    by_test : (a : Bool) {b : Bool} → b ≡ true → (a || b) ≡ true
    by_test true h = refl
    by_test false h = h

pub apart : (list : List Listed) (i j : ℕ) → i < j → j < length (modules_in_order list) → (placed_at (modules_in_order list) i).name ≢ (placed_at (modules_in_order list) j).name
apart list i j l m e =
    let stands = stands_at list j m in
    let named : (placed_at (modules_in_order list) j).name ≡ (module_at list stands.at).name = ap (λ (p : Placed). p.name) stands.is in
    no_false (sym stands.fresh ∙ ap (is_placed (take j (modules_in_order list))) (sym named ∙ sym e) ∙ among_front (modules_in_order list) i j l (omega (arith, l, m)))

-- how many are left
abbrev lefts : List Placed → List Listed → ℕ
lefts done ms = count_by (λ (m : Listed). not (is_placed done m.name)) ms

one_left : (a b : Bool) → cond (not (a || b)) 1 0 ≤ cond (not a) 1 0
one_left true b = omega arith
one_left false true = omega arith
one_left false false = omega arith

no_more_left : (done : List Placed) (p : Placed) (m : Listed) → cond (not (is_placed (done ++ p ∷ []) m.name)) 1 0 ≤ cond (not (is_placed done m.name)) 1 0
no_more_left done p m = subst (λ b. cond (not b) 1 0 ≤ cond (not (is_placed done m.name)) 1 0) (sym (placed_more done p m.name)) (one_left (is_placed done m.name) (bytes_eq m.name p.name))

fewer : (done : List Placed) (p : Placed) (ms : List Listed) (at : ℕ) → at < length ms → is_placed done (module_at ms at).name ≡ false → p.name ≡ (module_at ms at).name
    → lefts (done ++ p ∷ []) ms + 1 ≤ lefts done ms
fewer done p [] at l f e = absurd (omega (arith, l))
fewer done p (m ∷ ms) zero l f e =
    let behind = sum_by-le-sum_by (λ (n : Listed). cond (not (is_placed (done ++ p ∷ []) n.name)) 1 0) (λ (n : Listed). cond (not (is_placed done n.name)) 1 0) ms (no_more_left done p) in
    let now : is_placed (done ++ p ∷ []) m.name ≡ true = placed_more done p m.name ∙ or_true (is_placed done m.name) (bytes_eq m.name p.name) (ap (bytes_eq m.name) e ∙ bytes_eq-refl m.name) in
    sums _ _ _ _ _ _ (sum_by-cons (λ (n : Listed). cond (not (is_placed (done ++ p ∷ []) n.name)) 1 0) m ms) (sum_by-cons (λ (n : Listed). cond (not (is_placed done n.name)) 1 0) m ms)
    (first_less (is_placed (done ++ p ∷ []) m.name) (is_placed done m.name) now f) behind
  where
    or_true : (a b : Bool) → b ≡ true → (a || b) ≡ true
    or_true true b h = refl
    or_true false b h = h

    first_less : (a b : Bool) → a ≡ true → b ≡ false → cond (not a) 1 0 + 1 ≤ cond (not b) 1 0
    first_less a b g h = subst (λ t. cond (not t) 1 0 + 1 ≤ cond (not b) 1 0) (sym g) (subst (λ t. 0 + 1 ≤ cond (not t) 1 0) (sym h) (omega arith))

    sums : (x y a b c d : ℕ) → x ≡ a + b → y ≡ c + d → a + 1 ≤ c → b ≤ d → x + 1 ≤ y
    sums x y a b c d g h i j = omega (arith, g, h, i, j)
fewer done p (m ∷ ms) (suc at) l f e =
    sums _ _ _ _ _ _ (sum_by-cons (λ (n : Listed). cond (not (is_placed (done ++ p ∷ []) n.name)) 1 0) m ms) (sum_by-cons (λ (n : Listed). cond (not (is_placed done n.name)) 1 0) m ms)
    (no_more_left done p m) (fewer done p ms at (omega (arith, l)) f e)
  where
    sums : (x y a b c d : ℕ) → x ≡ a + b → y ≡ c + d → a ≤ c → b + 1 ≤ d → x + 1 ≤ y
    sums x y a b c d g h i j = omega (arith, g, h, i, j)

none_left : (done : List Placed) (ms : List Listed) → lefts done ms ≤ 0 → (k : ℕ) → k < length ms → is_placed done (module_at ms k).name ≡ true
none_left done ms h k l = not_false (is_placed done (module_at ms k).name)
    (none_open (not (is_placed done (module_at ms k).name)) (lefts done ms)
    (get_or-le-sum_by (λ (n : Listed). cond (not (is_placed done n.name)) 1 0) ms k (record { name = []; depends = [] }) l) (omega (arith, h)))
  where
    not_false : (b : Bool) → not b ≡ false → b ≡ true
    not_false true e = refl
    not_false false e = sym e

all_placed : (n : ℕ) (list : List Listed) (done : List Placed) → lefts done list ≤ n → (k : ℕ) → k < length list → is_placed (placed n list done) (module_at list k).name ≡ true
all_placed zero list done h k l = none_left done list h k l
all_placed (suc n) list done h k l = by_next (λ d less. all_placed n list d less k l) (next_among list done list) refl
  where
    by_next : ((d : List Placed) → lefts d list ≤ n → is_placed (placed n list d) (module_at list k).name ≡ true) → (o : Option Placed) → next_among list done list ≡ o → is_placed (with_next done (λ p. placed n list (done ++ p ∷ [])) o) (module_at list k).name ≡ true
    by_next again None e = none_next list done list e k l
    by_next again (Some p) e =
        let stands = next_stands list done p list e in
        let less = fewer done p list stands.at stands.within stands.fresh (ap (λ (q : Placed). q.name) stands.is) in
        again (done ++ p ∷ []) (omega (arith, less, h))

pub each_placed : (list : List Listed) (k : ℕ) → k < length list → is_placed (modules_in_order list) (module_at list k).name ≡ true
each_placed list k l = all_placed (length list) list [] (count_by-le-length (λ (m : Listed). not (is_placed [] m.name)) list) k l
