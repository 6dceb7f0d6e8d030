-- Where no dependency leads back to its start, none is cyclic.
use Rattle.std.proofs.Common.{◌≡◌, ◌≢◌, ℕ, zero, suc, ◌+◌, ◌<◌, eqb, ◌++◌, subst, Bool, true, false, cond, ◌&&◌, ◌||◌, not, List, [], ◌∷◌, length, get_or, take, Ordering, Option, Some, None, refl, sym, ap, ◌∙◌, arith}
use Rattle.std.specs.List.{count_by, Contains}
use Rattle.std.specs.Option.{unwrap_or}
use Rattle.std.specs.Ordering.{ordering_then, bool_cmp, nat_cmp, is_gt}
use Rattle.std.specs.Cmp.Lexicographic.{slice_cmp, bytes_decides}
use Rattle.std.specs.Str.{bytes_eq}
use Rattle.std.proofs.lemmas.Bool.{ltb-true, eqb-true, eqb-false}
use Rattle.std.proofs.lemmas.List.Sums.{sum_by-cons}
use Rattle.kb_auto.specs.declared.Listed.{Listed}
use Rattle.kb_auto.specs.declared.Placed.{Placed}
use Rattle.kb_auto.specs.Order.{is_module_listed, is_placed, is_open, waits_for, turn_of, place_order, sooner, next_among, modules_in_order}
use Rattle.kb_auto.specs.Queue.{module_at}
use Rattle.kb_auto.specs.Laws.{placed_at, LeadsTo, IsChain, HasNoRing}
use Rattle.kb_auto.proofs.NextLaws.{bytes_eq-true}
use Rattle.kb_auto.proofs.PlacedLaws.{none_next, next_stands, next_at}

no_false : {A : Type 0} → false ≡ true → A
no_false h = let q : true ≡ false = sym h in cc

some_one : (a b : Placed) → Some a ≡ Some b → a ≡ b
some_one a b h = ap (λ o. unwrap_or o a) h

-- ---- where the next one waits, all wait
behind_cyclic : (a b : Bool) (r : Ordering) → is_gt (ordering_then (bool_cmp a b) r) ≡ true → b ≡ true → a ≡ true
behind_cyclic true b r h e = refl
behind_cyclic false true r h e = h
behind_cyclic false false r h e = e

before_cyclic : (a b : Bool) (r : Ordering) → is_gt (ordering_then (bool_cmp a b) r) ≡ false → a ≡ true → b ≡ true
before_cyclic a true r h e = refl
before_cyclic true false r h e = sym h
before_cyclic false false r h e = e

abbrev AllWait : List Listed → List Placed → List Listed → Type 0
AllWait list done ms = (k : ℕ) → k < length ms → is_placed done (module_at ms k).name ≡ false → (turn_of list done (module_at ms k)).cyclic ≡ true

all_wait : (list : List Listed) (done : List Placed) (p : Placed) (ms : List Listed) → next_among list done ms ≡ Some p → p.cyclic ≡ true → AllWait list done ms
all_wait list done p [] h e = λ k l f. absurd (omega (arith, l))
all_wait list done p (m ∷ ms) h e = by_test (λ q g c. all_wait list done q ms g c) (is_placed done m.name) refl h
  where
    both : (is_placed done m.name ≡ false → (turn_of list done m).cyclic ≡ true) → AllWait list done ms → AllWait list done (m ∷ ms)
    both first behind zero l f = first f
    both first behind (suc k) l f = behind k (omega (arith, l)) f

    by_order : ((q : Placed) → next_among list done ms ≡ Some q → q.cyclic ≡ true → AllWait list done ms)
        → (q : Placed) → next_among list done ms ≡ Some q → (b : Bool) → is_gt (place_order (turn_of list done m) q) ≡ b → cond b q (turn_of list done m) ≡ p → AllWait list done (m ∷ ms)
    by_order again q g true t u =
        let c : q.cyclic ≡ true = ap (λ (x : Placed). x.cyclic) u ∙ e in
        both (λ f. behind_cyclic (turn_of list done m).cyclic q.cyclic (slice_cmp nat_cmp m.name q.name) t c) (again q g c)
    by_order again q g false t u =
        let c : (turn_of list done m).cyclic ≡ true = ap (λ (x : Placed). x.cyclic) u ∙ e in
        both (λ f. c) (again q g (before_cyclic (turn_of list done m).cyclic q.cyclic (slice_cmp nat_cmp m.name q.name) t c))

    by_rest : ((q : Placed) → next_among list done ms ≡ Some q → q.cyclic ≡ true → AllWait list done ms)
        → (o : Option Placed) → next_among list done ms ≡ o → sooner (turn_of list done m) o ≡ p → AllWait list done (m ∷ ms)
    by_rest again None g u = both (λ f. ap (λ (x : Placed). x.cyclic) u ∙ e) (λ k l f. no_false (sym f ∙ none_next list done ms g k l))
    by_rest again (Some q) g u = by_order again q g (is_gt (place_order (turn_of list done m) q)) refl u

    by_test : ((q : Placed) → next_among list done ms ≡ Some q → q.cyclic ≡ true → AllWait list done ms)
        → (b : Bool) → is_placed done m.name ≡ b → cond b (next_among list done ms) (Some (sooner (turn_of list done m) (next_among list done ms))) ≡ Some p → AllWait list done (m ∷ ms)
    by_test again true t u = both (λ f. no_false (sym f ∙ t)) (again p u e)
    by_test again false t u = by_rest again (next_among list done ms) refl (some_one (sooner (turn_of list done m) (next_among list done ms)) p u)

-- ---- who waits, waits for a module that is left
record Open (test : List ℕ → Bool) (names : List (List ℕ)) : Type 0 where
  at : ℕ
  within : at < length names
  is : test (get_or names at []) ≡ true

some_open : (test : List ℕ → Bool) (names : List (List ℕ)) → 0 < count_by test names → Open test names
some_open test [] h = absurd (omega (arith, h))
some_open test (name ∷ names) h = by_test (some_open test names) (test name) refl
  where
    later : Open test names → Open test (name ∷ names)
    later o = record { at = suc o.at; within = (let l = o.within in omega (arith, l)); is = o.is }

    less : (a b c : ℕ) → 0 < a → a ≡ b + c → b ≡ 0 → 0 < c
    less a b c i j k = omega (arith, i, j, k)

    by_test : (0 < count_by test names → Open test names) → (b : Bool) → test name ≡ b → Open test (name ∷ names)
    by_test again true e = record { at = 0; within = omega arith; is = e }
    by_test again false e = later (again (less _ (cond (test name) 1 0) _ h (sum_by-cons (λ n. cond (test n) 1 0) name names) (ap (λ b. cond b 1 0) e)))

record Where (name : List ℕ) (ms : List Listed) : Type 0 where
  at : ℕ
  within : at < length ms
  is : name ≡ (module_at ms at).name

listed_where : (name : List ℕ) (ms : List Listed) → is_module_listed ms name ≡ true → Where name ms
listed_where name [] h = no_false h
listed_where name (m ∷ ms) h = by_test (listed_where name ms) (bytes_eq name m.name) refl h
  where
    later : Where name ms → Where name (m ∷ ms)
    later w = record { at = suc w.at; within = (let l = w.within in omega (arith, l)); is = w.is }

    by_test : (is_module_listed ms name ≡ true → Where name ms) → (b : Bool) → bytes_eq name m.name ≡ b → (b || is_module_listed ms name) ≡ true → Where name (m ∷ ms)
    by_test again true e f = record { at = 0; within = omega arith; is = bytes_eq-true name m.name e }
    by_test again false e f = later (again f)

open_first : (own listed gone : Bool) → (not own && (listed && not gone)) ≡ true → (not own && (listed && not false)) ≡ true
open_first true listed gone h = h
open_first false true gone h = refl
open_first false false gone h = h

open_listed : (own listed gone : Bool) → (not own && (listed && not gone)) ≡ true → listed ≡ true
open_listed true listed gone h = no_false h
open_listed false true gone h = refl
open_listed false false gone h = h

open_left : (own listed gone : Bool) → (not own && (listed && not gone)) ≡ true → gone ≡ false
open_left own listed false h = refl
open_left true listed true h = no_false h
open_left false true true h = no_false h
open_left false false true h = no_false h

-- ---- a chain grows at its end
abbrev last_of : List ℕ → List (List ℕ) → List ℕ
last_of name [] = name
last_of name (next ∷ names) = last_of next names

record Chain (list : List Listed) (name end : List ℕ) : Type 0 where
  names : List (List ℕ)
  leads : IsChain list name names
  ends : last_of name names ≡ end

one_more : (list : List Listed) (name end next : List ℕ) (names : List (List ℕ)) → IsChain list name names → last_of name names ≡ end → LeadsTo list end next
    → IsChain list name (names ++ next ∷ [])
one_more list name end next [] leads ends step = (subst (λ n. LeadsTo list n next) (sym ends) step, tt)
one_more list name end next (n ∷ names) leads ends step = (leads.0, one_more list n end next names leads.1 ends step)

last-append : (name next : List ℕ) (names : List (List ℕ)) → last_of name (names ++ next ∷ []) ≡ next
last-append name next [] = refl
last-append name next (n ∷ names) = last-append n next names

longer : (list : List Listed) (name end next : List ℕ) → LeadsTo list end next → Chain list name end → Chain list name next
longer list name end next step c = record { names = c.names ++ next ∷ []; leads = one_more list name end next c.names c.leads c.ends step; ends = last-append name next c.names }

-- ---- places that aren't visited yet
abbrev has : ℕ → List ℕ → Bool
has j [] = false
has j (k ∷ left) = eqb k j || has j left

abbrev without : ℕ → List ℕ → List ℕ
without j [] = []
without j (k ∷ left) = cond (eqb k j) left (k ∷ without j left)

fewer : (j : ℕ) (left : List ℕ) → has j left ≡ true → length (without j left) < length left
fewer j [] h = no_false h
fewer j (k ∷ left) h = by_test (fewer j left) (eqb k j) h
  where
    by_test : (has j left ≡ true → length (without j left) < length left) → (b : Bool) → (b || has j left) ≡ true → length (cond b left (k ∷ without j left)) < suc (length left)
    by_test again true h = omega arith
    by_test again false h = let l = again h in omega (arith, l)

still_there : (i j : ℕ) (left : List ℕ) → has i left ≡ true → has i (without j left) ≡ false → i ≡ j
still_there i j [] h g = no_false h
still_there i j (k ∷ left) h g = by_test (still_there i j left) (eqb k j) refl g
  where
    by_own : (b : Bool) → eqb k i ≡ b → eqb k j ≡ true → (b || has i left) ≡ true → has i left ≡ false → i ≡ j
    by_own true e f h g = sym (eqb-true k i e) ∙ eqb-true k j f
    by_own false e f h g = no_false (sym g ∙ h)

    by_rest : (has i left ≡ true → has i (without j left) ≡ false → i ≡ j) → (b : Bool) → (b || has i left) ≡ true → (b || has i (without j left)) ≡ false → i ≡ j
    by_rest again true h g = no_false (sym g)
    by_rest again false h g = again h g

    by_test : (has i left ≡ true → has i (without j left) ≡ false → i ≡ j) → (b : Bool) → eqb k j ≡ b → has i (cond b left (k ∷ without j left)) ≡ false → i ≡ j
    by_test again true e g = by_own (eqb k i) refl e h g
    by_test again false e g = by_rest again (eqb k i) h g

-- the first so many places
abbrev below : ℕ → List ℕ
below zero = []
below (suc n) = n ∷ below n

has_below : (j n : ℕ) → j < n → has j (below n) ≡ true
has_below j zero l = absurd (omega (arith, l))
has_below j (suc n) l = by_test (has_below j n) (eqb n j) refl
  where
    less : (eqb n j ≡ false) → j < n
    less e = let d : n ≢ j = eqb-false n j e in omega (arith, l, d)

    by_test : (j < n → has j (below n) ≡ true) → (b : Bool) → eqb n j ≡ b → (b || has j (below n)) ≡ true
    by_test again true e = refl
    by_test again false e = again (less e)

-- ---- so a walk along open dependencies comes back to a module that it visited
abbrev name_at : List Listed → ℕ → List ℕ
name_at list k = (module_at list k).name

-- from each place that isn't left a chain leads here
abbrev Visited : List Listed → List ℕ → ℕ → Type 0
Visited list left k = (j : ℕ) → j < length list → has j left ≡ false → Chain list (name_at list j) (name_at list k)

same_item : (names : List (List ℕ)) (k : ℕ) (d e : List ℕ) → k < length names → get_or names k d ≡ get_or names k e
same_item [] k d e l = absurd (omega (arith, l))
same_item (name ∷ names) zero d e l = refl
same_item (name ∷ names) (suc k) d e l = same_item names k d e (omega (arith, l))

contained : (names : List (List ℕ)) (k : ℕ) → k < length names → Contains names (get_or names k [])
contained names k l = (k, l, same_item names k (get_or names k []) [] l)

record Next (list : List Listed) (done : List Placed) (k : ℕ) : Type 0 where
  at : ℕ
  within : at < length list
  left : is_placed done (name_at list at) ≡ false
  step : LeadsTo list (name_at list k) (name_at list at)

not_own : (own rest : Bool) → (not own && rest) ≡ true → own ≡ false
not_own true rest h = no_false h
not_own false rest h = refl

next_of : (list : List Listed) (done : List Placed) → AllWait list done list → (k : ℕ) → k < length list → is_placed done (name_at list k) ≡ false → Next list done k
next_of list done wait k l f =
    let m = module_at list k in
    let o = some_open (is_open list done m) m.depends (ltb-true 0 (waits_for list done m) (wait k l f)) in
    let name = get_or m.depends o.at [] in
    let w = listed_where name list (open_listed (bytes_eq name m.name) (is_module_listed list name) (is_placed done name) o.is) in
    let apart : name ≢ m.name = λ e. no_false (sym (not_own (bytes_eq name m.name) _ o.is) ∙ (bytes_decides name m.name).1 e) in
    record {
      at = w.at;
      within = w.within;
      left = ap (is_placed done) (sym w.is) ∙ open_left (bytes_eq name m.name) (is_module_listed list name) (is_placed done name) o.is;
      step = subst (LeadsTo list m.name) w.is (record { at = k; within = l; named = refl; depends = contained m.depends o.at o.within; other = apart });
    }

comes_back : (list : List Listed) (done : List Placed) → HasNoRing list → AllWait list done list
    → (fuel : ℕ) (left : List ℕ) → length left < fuel → (k : ℕ) → k < length list → is_placed done (name_at list k) ≡ false → Visited list left k → ⊥
comes_back list done ringless wait zero left s k l f visited = omega (arith, s)
comes_back list done ringless wait (suc fuel) left s k l f visited = by_test (comes_back list done ringless wait fuel) (has next.at left) refl
  where
    next : Next list done k
    next = next_of list done wait k l f

    by_case : (j : ℕ) → j < length list → has j (without next.at left) ≡ false → (b : Bool) → has j left ≡ b → Chain list (name_at list j) (name_at list next.at)
    by_case j lj g true e = record { names = []; leads = tt; ends = ap (name_at list) (still_there j next.at left e g) }
    by_case j lj g false e = longer list (name_at list j) (name_at list k) (name_at list next.at) next.step (visited j lj e)

    by_test : ((rest : List ℕ) → length rest < fuel → (k : ℕ) → k < length list → is_placed done (name_at list k) ≡ false → Visited list rest k → ⊥) → (b : Bool) → has next.at left ≡ b → ⊥
    by_test again true e =
        again (without next.at left) (let fw = fewer next.at left e in omega (arith, fw, s)) next.at next.within next.left
        (λ j lj g. by_case j lj g (has j left) refl)
    by_test again false e =
        let c = visited next.at next.within e in
        ringless (name_at list next.at) c.names (one_more list (name_at list next.at) (name_at list k) (name_at list next.at) c.names c.leads c.ends next.step)

pub none_cyclic : (list : List Listed) → HasNoRing list → (i : ℕ) → i < length (modules_in_order list) → (placed_at (modules_in_order list) i).cyclic ≡ false
none_cyclic list ringless i l = by_test (placed_at (modules_in_order list) i).cyclic refl
  where
    done : List Placed
    done = take i (modules_in_order list)

    next : next_among list done list ≡ Some (placed_at (modules_in_order list) i)
    next = next_at list i l

    first_visited : (k : ℕ) → (j : ℕ) → j < length list → has j (without k (below (length list))) ≡ false → Chain list (name_at list j) (name_at list k)
    first_visited k j lj g = record { names = []; leads = tt; ends = ap (name_at list) (still_there j k (below (length list)) (has_below j (length list) lj) g) }

    by_test : (b : Bool) → (placed_at (modules_in_order list) i).cyclic ≡ b → (placed_at (modules_in_order list) i).cyclic ≡ false
    by_test false e = e
    by_test true e =
        let s = next_stands list done (placed_at (modules_in_order list) i) list next in
        absurd (comes_back list done ringless (all_wait list done (placed_at (modules_in_order list) i) list next e)
        (suc (length (without s.at (below (length list))))) (without s.at (below (length list))) (omega arith) s.at s.within s.fresh (first_visited s.at))
