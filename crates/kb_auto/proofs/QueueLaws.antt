-- Laws of the queue of turns.
use Rattle.std.proofs.Common.{◌≡◌, ◌≢◌, ℕ, ◌+◌, ◌-◌, ◌<◌, ◌≤◌, Bool, true, false, cond, ◌&&◌, not, List, length, get_or, set, Ordering, refl, sym, ap, ◌∙◌, subst, arith, nat_eq, nat_lt, get_or-set_same, get_or-set_other}
use Rattle.std.specs.declared.cmp.Ordering.TheVariants.{Less, Equal, Greater}
use Rattle.std.specs.List.{list_any}
use Rattle.std.specs.Ordering.{bool_cmp, nat_cmp, is_eq}
use Rattle.std.specs.Cmp.{IsTotalOrder, then_total, on_total, bool_cmp_total, nat_cmp_total}
use Rattle.std.specs.Cmp.Lexicographic.{slice_cmp, nat_list_cmp_total}
use Rattle.std.specs.BTreeSet.{BTreeSet, contains, IsEmpty, IsUnchanged}
use Rattle.std.proofs.lemmas.Map.Lookups.{exact_bytes, exact_unsigned}
use Rattle.std.proofs.lemmas.Cmp.{tied_itself}
use Rattle.std.proofs.lemmas.Bool.{eqb-true, eqb-false, lt-ltb, ltb-true, le-ltb}
use Rattle.kb_auto.specs.declared.Listed.{Listed}
use Rattle.kb_auto.specs.declared.turns.Turn.{Turn}
use Rattle.kb_auto.specs.Queue.{module_at, turn_cmp, turn_at, Queues}
use Rattle.kb_auto.proofs.NextLaws.{bools_exact, then_first, then_second}

pub turn_total : IsTotalOrder turn_cmp
turn_total = then_total (on_total (λ (t : Turn). t.cyclic) bool_cmp_total) (then_total (on_total (λ (t : Turn). t.name) nat_list_cmp_total) (on_total (λ (t : Turn). t.place) nat_cmp_total))

abbrev pub same_turn : Turn → Turn → Bool
same_turn a b = is_eq (turn_cmp a b)

is_equal : (order : Ordering) → is_eq order ≡ true → order ≡ Equal
is_equal Less e = cc
is_equal Equal e = refl
is_equal Greater e = cc

pub same_turn-true : (a b : Turn) → same_turn a b ≡ true → a ≡ b
same_turn-true a b h =
    let e : turn_cmp a b ≡ Equal = is_equal (turn_cmp a b) h in
    let behind = then_second (bool_cmp a.cyclic b.cyclic) _ e in
    let cyclic : a.cyclic ≡ b.cyclic = bools_exact a.cyclic b.cyclic (then_first _ _ e) in
    let name : a.name ≡ b.name = exact_bytes a.name b.name (then_first _ _ behind) in
    let place : a.place ≡ b.place = exact_unsigned a.place b.place (then_second (slice_cmp nat_cmp a.name b.name) _ behind) in
    λ i. record { cyclic = cyclic i; name = name i; place = place i }

pub same_turn-refl : (a : Turn) → same_turn a a ≡ true
same_turn-refl a = ap is_eq (tied_itself turn_total a)

pub same_turn-false : (a b : Turn) → a ≢ b → same_turn a b ≡ false
same_turn-false a b apart = by_test (same_turn a b) refl
  where
    by_test : (test : Bool) → same_turn a b ≡ test → same_turn a b ≡ false
    by_test true same = absurd (apart (same_turn-true a b same))
    by_test false same = same

apart_by_eq : (a b : ℕ) → nat_eq a b ≡ false → a ≢ b
apart_by_eq a b h = eqb-false a b h

same_by_eq : (a b : ℕ) → nat_eq a b ≡ true → a ≡ b
same_by_eq a b h = eqb-true a b h

below : (a b : ℕ) → a < b → nat_lt a b ≡ true
below a b h = lt-ltb a b h

under : (a b : ℕ) → nat_lt a b ≡ true → a < b
under a b h = ltb-true a b h

-- ---- a queue and what one step makes of it
no_false : {A : Type 0} → false ≡ true → A
no_false h = let q : true ≡ false = sym h in cc

-- a turn of the queue that isn't the one at this place stands at another
apart_by_turn : (list : List Listed) (waits : List ℕ) (among : ℕ → Bool) (queue : BTreeSet Turn) → Queues list waits among queue
    → (t q : Turn) → t ≡ turn_at list waits t.place → contains turn_cmp queue q ≡ true → same_turn t q ≡ false → q.place ≢ t.place
apart_by_turn list waits among queue h t q at has apart e =
    let one : t ≡ q = at ∙ ap (turn_at list waits) (sym e) ∙ sym (h.turns q has) in
    no_false (sym apart ∙ ap (same_turn t) (sym one) ∙ same_turn-refl t)

apart_by_place : (t q : Turn) → q.place ≢ t.place → same_turn t q ≡ false
apart_by_place t q apart = same_turn-false t q (λ e. apart (ap (λ (u : Turn). u.place) (sym e)))

-- the turn of one key more
has_more : (a b c : Bool) → cond a b c ≡ true → a ≡ false → c ≡ true
has_more a b c h e = sym (ap (λ t. cond t b c) e) ∙ h

none_left : (k : ℕ) → nat_lt k 0 ≡ true → ⊥
none_left k h = let l : k < 0 = ltb-true k 0 h in omega (arith, l)

abbrev turn_with : Bool → List ℕ → ℕ → Turn
turn_with b name place = record { cyclic = b; name = name; place = place }

module _ (list : List Listed) where
  pub queue_empty : (waits : List ℕ) (queue : BTreeSet Turn) → IsEmpty queue → Queues list waits (λ k. nat_lt k 0) queue
  queue_empty waits queue h =
      let none : (t : Turn) → contains turn_cmp queue t ≡ false = λ t. ap (λ keys. list_any (λ k. is_eq (turn_cmp t k)) keys) h in
      record {
        within = λ t e. no_false (sym (none t) ∙ e);
        left = λ t e. no_false (sym (none t) ∙ e);
        turns = λ t e. no_false (sym (none t) ∙ e);
        all = λ k l e. absurd (none_left k e);
      }

  -- one turn is taken out
  pub queue_popped : (waits : List ℕ) (among : ℕ → Bool) (before after : BTreeSet Turn) (t : Turn) (less : ℕ → Bool)
      → Queues list waits among before → contains turn_cmp before t ≡ true
      → ((q : Turn) → contains turn_cmp after q ≡ cond (same_turn t q) false (contains turn_cmp before q))
      → ((k : ℕ) → k < length list → less k ≡ (among k && not (nat_eq k t.place)))
      → Queues list waits less after
  queue_popped waits among before after t less h has updates left = record {
    within = λ q e. h.within q (was q e);
    left = λ q e. left q.place (h.within q (was q e)) ∙ both (among q.place) (nat_eq q.place t.place) (h.left q (was q e)) (other q.place (apart_by_turn list waits among before h t q (h.turns t has) (was q e) (not_it q e)));
    turns = λ q e. h.turns q (was q e);
    all = λ k l e. all k l (sym (left k l) ∙ e);
  }
    where
      inside : (a b : Bool) → cond a false b ≡ true → (a ≡ false) × (b ≡ true)
      inside true b e = no_false e
      inside false b e = (refl, e)

      was : (q : Turn) → contains turn_cmp after q ≡ true → contains turn_cmp before q ≡ true
      was q e = (inside (same_turn t q) (contains turn_cmp before q) (sym (updates q) ∙ e)).1

      not_it : (q : Turn) → contains turn_cmp after q ≡ true → same_turn t q ≡ false
      not_it q e = (inside (same_turn t q) (contains turn_cmp before q) (sym (updates q) ∙ e)).0

      by_eq : (k : ℕ) (b : Bool) → nat_eq k t.place ≡ b → k ≢ t.place → nat_eq k t.place ≡ false
      by_eq k true e apart = absurd (apart (same_by_eq k t.place e))
      by_eq k false e apart = e

      other : (k : ℕ) → k ≢ t.place → nat_eq k t.place ≡ false
      other k apart = by_eq k (nat_eq k t.place) refl apart

      both : (a b : Bool) → a ≡ true → b ≡ false → (a && not b) ≡ true
      both a b e f = ap (λ c. c && not b) e ∙ ap not f

      parts : (a b : Bool) → (a && not b) ≡ true → (a ≡ true) × (b ≡ false)
      parts true true e = no_false e
      parts true false e = (refl, refl)
      parts false b e = no_false e

      all : (k : ℕ) → k < length list → (among k && not (nat_eq k t.place)) ≡ true → contains turn_cmp after (turn_at list waits k) ≡ true
      all k l e =
          let split = parts (among k) (nat_eq k t.place) e in
          let apart : k ≢ t.place = apart_by_eq k t.place split.1 in
          updates (turn_at list waits k)
          ∙ ap (λ b. cond b false (contains turn_cmp before (turn_at list waits k))) (apart_by_place t (turn_at list waits k) apart)
          ∙ h.all k l split.0

  -- the tables of two moments give the same turns
  turns_stay : (waits now : List ℕ) (k : ℕ) → nat_lt 0 (get_or now k 0) ≡ nat_lt 0 (get_or waits k 0) → turn_at list now k ≡ turn_at list waits k
  turns_stay waits now k e = λ i. record { cyclic = e i; name = (module_at list k).name; place = k }

  pub queue_stays : (waits now : List ℕ) (among : ℕ → Bool) (queue : BTreeSet Turn)
      → ((k : ℕ) → nat_lt 0 (get_or now k 0) ≡ nat_lt 0 (get_or waits k 0))
      → Queues list waits among queue → Queues list now among queue
  queue_stays waits now among queue same h = record {
    within = h.within;
    left = h.left;
    turns = λ t e. h.turns t e ∙ sym (turns_stay waits now t.place (same t.place));
    all = λ k l e. ap (contains turn_cmp queue) (turns_stay waits now k (same k)) ∙ h.all k l e;
  }

  -- a turn that waited isn't in the queue, so no turn at its place is
  pub queue_lacks : (waits now : List ℕ) (among : ℕ → Bool) (before after : BTreeSet Turn) (t : Turn)
      → t.place < length list → t ≡ turn_at list waits t.place
      → ((k : ℕ) → k ≢ t.place → get_or now k 0 ≡ get_or waits k 0)
      → contains turn_cmp before t ≡ false → IsUnchanged before after
      → Queues list waits among before → Queues list now among after
  queue_lacks waits now among before after t l at same lacks unchanged h = record {
    within = λ q e. h.within q (was q e);
    left = λ q e. h.left q (was q e);
    turns = λ q e. h.turns q (was q e) ∙ sym (stays q.place (apart q (was q e)));
    all = λ k m e. has (turn_at list now k) ∙ ap (contains turn_cmp before) (stays k (gone k m e)) ∙ h.all k m e;
  }
    where
      has : (q : Turn) → contains turn_cmp after q ≡ contains turn_cmp before q
      has q = ap (list_any (λ k. is_eq (turn_cmp q k))) unchanged

      was : (q : Turn) → contains turn_cmp after q ≡ true → contains turn_cmp before q ≡ true
      was q e = sym (has q) ∙ e

      out : among t.place ≡ true → ⊥
      out e = no_false (sym lacks ∙ ap (contains turn_cmp before) at ∙ h.all t.place l e)

      apart : (q : Turn) → contains turn_cmp before q ≡ true → q.place ≢ t.place
      apart q e f = out (ap among (sym f) ∙ h.left q e)

      gone : (k : ℕ) → k < length list → among k ≡ true → k ≢ t.place
      gone k m e f = out (ap among (sym f) ∙ e)

      stays : (k : ℕ) → k ≢ t.place → turn_at list now k ≡ turn_at list waits k
      stays k f = turns_stay waits now k (ap (nat_lt 0) (same k f))

  -- a turn is put in place of the one at its place
  pub queue_moved : (waits now : List ℕ) (among : ℕ → Bool) (before after : BTreeSet Turn) (t u : Turn)
      → t.place < length list → t ≡ turn_at list waits t.place → u.place ≡ t.place → u ≡ turn_at list now t.place
      → ((k : ℕ) → k ≢ t.place → get_or now k 0 ≡ get_or waits k 0)
      → contains turn_cmp before t ≡ true
      → ((q : Turn) → contains turn_cmp after q ≡ cond (same_turn u q) true (cond (same_turn t q) false (contains turn_cmp before q)))
      → Queues list waits among before → Queues list now among after
  queue_moved waits now among before after t u l at place to same has updates h = record {
    within = λ q e. either q e (λ (f : u ≡ q). subst (λ k. k < length list) (sym place ∙ ap (λ (v : Turn). v.place) f) l) (λ f g. h.within q g);
    left = λ q e. either q e (λ (f : u ≡ q). ap among (sym (sym place ∙ ap (λ (v : Turn). v.place) f)) ∙ h.left t has) (λ f g. h.left q g);
    turns = λ q e. either q e (λ (f : u ≡ q). sym f ∙ to ∙ ap (turn_at list now) (sym place ∙ ap (λ (v : Turn). v.place) f)) (λ f g. h.turns q g ∙ sym (stays q.place (apart_by_turn list waits among before h t q at g f)));
    all = λ k m e. by_place k m e (nat_eq k t.place) refl;
  }
    where
      stays : (k : ℕ) → k ≢ t.place → turn_at list now k ≡ turn_at list waits k
      stays k f = turns_stay waits now k (ap (nat_lt 0) (same k f))

      cases : {A : Type 0} (a b c : Bool) → cond a true (cond b false c) ≡ true → (a ≡ true → A) → (b ≡ false → c ≡ true → A) → A
      cases true b c e f g = f refl
      cases false true c e f g = no_false e
      cases false false c e f g = g refl e

      either : {A : Type 0} (q : Turn) → contains turn_cmp after q ≡ true → (u ≡ q → A) → (same_turn t q ≡ false → contains turn_cmp before q ≡ true → A) → A
      either q e f g = cases (same_turn u q) (same_turn t q) (contains turn_cmp before q) (sym (updates q) ∙ e) (λ d. f (same_turn-true u q d)) g

      filled : (a b c : Bool) → b ≡ false → c ≡ true → cond a true (cond b false c) ≡ true
      filled true b c e f = refl
      filled false b c e f = ap (λ d. cond d false c) e ∙ f

      by_place : (k : ℕ) → k < length list → among k ≡ true → (b : Bool) → nat_eq k t.place ≡ b → contains turn_cmp after (turn_at list now k) ≡ true
      by_place k m e true f =
          let here : k ≡ t.place = same_by_eq k t.place f in
          let it : turn_at list now k ≡ u = ap (turn_at list now) here ∙ sym to in
          ap (contains turn_cmp after) it ∙ updates u ∙ ap (λ b. cond b true (cond (same_turn t u) false (contains turn_cmp before u))) (same_turn-refl u)
      by_place k m e false f =
          let apart : k ≢ t.place = apart_by_eq k t.place f in
          let it : turn_at list now k ≡ turn_at list waits k = stays k apart in
          ap (contains turn_cmp after) it ∙ updates (turn_at list waits k)
          ∙ filled (same_turn u (turn_at list waits k)) (same_turn t (turn_at list waits k)) (contains turn_cmp before (turn_at list waits k)) (apart_by_place t (turn_at list waits k) apart) (h.all k m e)

  -- the next module is put in
  pub queue_more : (waits : List ℕ) (before after : BTreeSet Turn) (n : ℕ) (u : Turn)
      → n < length list → u ≡ turn_at list waits n
      → ((q : Turn) → contains turn_cmp after q ≡ cond (same_turn u q) true (contains turn_cmp before q))
      → Queues list waits (λ k. nat_lt k n) before → Queues list waits (λ k. nat_lt k (n + 1)) after
  queue_more waits before after n u l to updates h = record {
    within = λ q e. either q e (λ (f : u ≡ q). subst (λ k. k < length list) (ap (λ (v : Turn). v.place) (sym to ∙ f)) l) (λ g. h.within q g);
    left = λ q e. either q e (λ (f : u ≡ q). below q.place (n + 1) (let at : n ≡ q.place = ap (λ (v : Turn). v.place) (sym to ∙ f) in omega (arith, at))) (λ g. below q.place (n + 1) (let at = under q.place n (h.left q g) in omega (arith, at)));
    turns = λ q e. either q e (λ (f : u ≡ q). sym f ∙ to ∙ ap (turn_at list waits) (ap (λ (v : Turn). v.place) (sym to ∙ f))) (λ g. h.turns q g);
    all = λ k m e. by_place k m e (nat_eq k n) refl;
  }
    where
      cases : {A : Type 0} (a c : Bool) → cond a true c ≡ true → (a ≡ true → A) → (c ≡ true → A) → A
      cases true c e f g = f refl
      cases false c e f g = g e

      either : {A : Type 0} (q : Turn) → contains turn_cmp after q ≡ true → (u ≡ q → A) → (contains turn_cmp before q ≡ true → A) → A
      either q e f g = cases (same_turn u q) (contains turn_cmp before q) (sym (updates q) ∙ e) (λ d. f (same_turn-true u q d)) g

      filled : (a c : Bool) → c ≡ true → cond a true c ≡ true
      filled true c f = refl
      filled false c f = f

      by_place : (k : ℕ) → k < length list → nat_lt k (n + 1) ≡ true → (b : Bool) → nat_eq k n ≡ b → contains turn_cmp after (turn_at list waits k) ≡ true
      by_place k m e true f =
          let it : turn_at list waits k ≡ u = ap (turn_at list waits) (same_by_eq k n f) ∙ sym to in
          ap (contains turn_cmp after) it ∙ updates u ∙ ap (λ b. cond b true (contains turn_cmp before u)) (same_turn-refl u)
      by_place k m e false f =
          let apart : k ≢ n = apart_by_eq k n f in
          let less : k < n + 1 = under k (n + 1) e in
          updates (turn_at list waits k) ∙ filled (same_turn u (turn_at list waits k)) (contains turn_cmp before (turn_at list waits k)) (h.all k m (below k n (omega (arith, apart, less))))

  -- what is left may be said in another way
  pub queue_told : (waits : List ℕ) (among also : ℕ → Bool) (queue : BTreeSet Turn) → ((k : ℕ) → k < length list → also k ≡ among k)
      → Queues list waits among queue → Queues list waits also queue
  queue_told waits among also queue same h = record {
    within = h.within;
    left = λ t e. same t.place (h.within t e) ∙ h.left t e;
    turns = h.turns;
    all = λ k l e. h.all k l (sym (same k l) ∙ e);
  }

  -- the last dependency of a module is placed: its turn goes before those that wait
  pub moved_at : (waits : List ℕ) (place v : ℕ) (name : List ℕ) (before mid after : BTreeSet Turn)
      → place < length list → place < length waits → v ≡ get_or waits place 0 → 0 < v → v - 1 ≤ 0 → name ≡ (module_at list place).name
      → contains turn_cmp before (record { cyclic = true; name = name; place = place }) ≡ true
      → ((q : Turn) → contains turn_cmp mid q ≡ cond (same_turn (record { cyclic = true; name = name; place = place }) q) false (contains turn_cmp before q))
      → ((q : Turn) → contains turn_cmp after q ≡ cond (same_turn (record { cyclic = false; name = name; place = place }) q) true (contains turn_cmp mid q))
      → (left : ℕ → Bool) → Queues list waits left before → Queues list (set waits place (v - 1)) left after
  moved_at waits place v name before mid after l w is some last named has removed added left h =
      queue_moved waits (set waits place (v - 1)) left before after (record { cyclic = true; name = name; place = place }) (record { cyclic = false; name = name; place = place })
      l (turn true waits (lt-ltb 0 (get_or waits place 0) (omega (arith, is, some)))) refl
      (turn false (set waits place (v - 1)) (let e : get_or (set waits place (v - 1)) place 0 ≡ v - 1 = get_or-set_same waits place (v - 1) 0 w in le-ltb 0 _ (omega (arith, e, last))))
      (λ k apart. get_or-set_other waits place k (v - 1) 0 apart)
      has
      (λ q. added q ∙ ap (cond (same_turn (record { cyclic = false; name = name; place = place }) q) true) (removed q))
      h
    where
      turn : (b : Bool) (now : List ℕ) → nat_lt 0 (get_or now place 0) ≡ b → turn_with b name place ≡ turn_at list now place
      turn b now e = λ i. record { cyclic = sym e i; name = named i; place = place }
