-- How one step of the order goes on.
use Rattle.std.proofs.Common.{◌≡◌, ℕ, zero, suc, ◌+◌, ◌-◌, ◌<◌, ◌≤◌, Bool, true, false, cond, ◌&&◌, ◌||◌, not, List, [], ◌∷◌, ◌++◌, length, get_or, Some, None, Ordering, refl, sym, ap, ◌∙◌, arith, nat_eq, nat_lt, ◌⊎◌, inl, inr}
use Rattle.std.specs.declared.cmp.Ordering.TheVariants.{Less, Equal, Greater}
use Rattle.std.specs.Ordering.{ordering_then, bool_cmp, nat_cmp, is_gt, is_eq}
use Rattle.std.specs.Cmp.Lexicographic.{slice_cmp}
use Rattle.std.specs.Str.{bytes_eq}
use Rattle.std.specs.List.{list_any}
use Rattle.std.proofs.lemmas.Bool.{eqb-true, eq-eqb, lt-ltb, le-ltb, cases_lt}
use Rattle.std.specs.BTreeSet.{BTreeSet, contains, btree_set_len}
use Rattle.std.specs.Global.{Vec}
use Rattle.kb_auto.specs.declared.Listed.{Listed}
use Rattle.kb_auto.specs.declared.Placed.{Placed}
use Rattle.kb_auto.specs.declared.turns.Turn.{Turn}
use Rattle.kb_auto.specs.Order.{is_module_listed, is_placed, waits_for, turn_of, place_order, next_among, with_next, placed, NamesDiffer}
use Rattle.kb_auto.specs.Queue.{module_at, turn_cmp, turn_at, Queues, AreLinked, row_at, occurs, links}
use Rattle.kb_auto.proofs.NextLaws.{next_is, next_none, before_at, of_at, listed_at, placed_more, waits_less, bytes_eq-true, bytes_eq-refl}
use Rattle.kb_auto.proofs.QueueLaws.{same_turn, queue_popped, queue_told}

abbrev pub is_left : List Listed → List Placed → ℕ → Bool
is_left list done k = not (is_placed done (module_at list k).name)

-- the tables tell what is left behind those that are placed
pub record Going (list : List Listed) (waits : List ℕ) (queue : BTreeSet Turn) (done : List Placed) : Type 0 where
  pub waiting : (k : ℕ) → k < length list → get_or waits k 0 ≡ waits_for list done (module_at list k)
  pub turns : Queues list waits (is_left list done) queue

both_ways : (a b : Bool) → (a ≡ true → b ≡ true) → (b ≡ true → a ≡ true) → a ≡ b
both_ways true b f g = sym (f refl)
both_ways false true f g = g refl
both_ways false false f g = refl

no_false : {A : Type 0} → false ≡ true → A
no_false h = let q : true ≡ false = sym h in cc

not_true : (b : Bool) → not b ≡ true → b ≡ false
not_true true h = no_false h
not_true false h = refl

not_or : (a b : Bool) → not (a || b) ≡ (not a && not b)
not_or true b = refl
not_or false b = refl

first_two : (a b c : Ordering) → is_gt (ordering_then a (ordering_then b c)) ≡ false → is_gt (ordering_then a b) ≡ false
first_two Less b c h = refl
first_two Equal Less c h = refl
first_two Equal Equal c h = refl
first_two Equal Greater c h = h
first_two Greater b c h = h

-- ---- the first step and the last
pub going_first : (list : List Listed) (waits : List ℕ) (queue : BTreeSet Turn)
    → ((k : ℕ) → k < length list → get_or waits k 0 ≡ waits_for list [] (module_at list k))
    → Queues list waits (λ k. nat_lt k (length list)) queue → Going list waits queue []
going_first list waits queue h turns = record {
  waiting = h;
  turns = queue_told list waits (λ k. nat_lt k (length list)) (is_left list []) queue (λ k l. sym (lt-ltb k (length list) l)) turns;
}

pub placed_end : (list : List Listed) (done : List Placed) (k : ℕ) → next_among list done list ≡ None → placed k list done ≡ done
placed_end list done zero h = refl
placed_end list done (suc k) h = ap (with_next done (λ p. placed k list (done ++ p ∷ []))) h

none_there : (queue : BTreeSet Turn) (q : Turn) → (0 < btree_set_len queue → false ≡ true) → contains turn_cmp queue q ≡ false
none_there queue q h = ap (list_any (λ k. is_eq (turn_cmp q k))) (no_items queue.keys h)
  where
    no_items : (keys : List Turn) → (0 < length keys → false ≡ true) → keys ≡ []
    no_items [] e = refl
    no_items (t ∷ keys) e = no_false (e (omega arith))

pub going_ends : (list : List Listed) (waits : List ℕ) (queue : BTreeSet Turn) (done : List Placed) → Going list waits queue done → (0 < btree_set_len queue → false ≡ true)
    → (k : ℕ) → placed k list done ≡ done
going_ends list waits queue done h empty k = placed_end list done k (next_none list done list all)
  where
    by_test : (i : ℕ) → i < length list → (b : Bool) → is_placed done (module_at list i).name ≡ b → is_placed done (module_at list i).name ≡ true
    by_test i l true e = e
    by_test i l false e = no_false (sym (none_there queue (turn_at list waits i) empty) ∙ h.turns.all i l (ap not e))

    all : (i : ℕ) → i < length list → is_placed done (module_at list i).name ≡ true
    all i l = by_test i l (is_placed done (module_at list i).name) refl

-- ---- a step
module _ (list : List Listed) (rows : Vec (Vec ℕ)) (differ : NamesDiffer list) (linked : AreLinked list (length list) rows) (waits : List ℕ) (done : List Placed) (before : BTreeSet Turn)
    (h : Going list waits before done) (t : Turn) (has : contains turn_cmp before t ≡ true) where
  pub within : t.place < length list
  within = h.turns.within t has

  named : t.name ≡ (module_at list t.place).name
  named = ap (λ (u : Turn). u.name) (h.turns.turns t has)

  abbrev p : Placed
  p = record { name = t.name; cyclic = t.cyclic }

  fresh : is_placed done t.name ≡ false
  fresh = ap (is_placed done) named ∙ not_true (is_placed done (module_at list t.place).name) (h.turns.left t has)

  listed : is_module_listed list t.name ≡ true
  listed = ap (is_module_listed list) named ∙ listed_at list t.place within

  less : (k : ℕ) → waits_for list (done ++ p ∷ []) (module_at list k) + links list t.place k ≡ waits_for list done (module_at list k)
  less k = waits_less list done (module_at list t.place) p (module_at list k) named listed fresh (module_at list k).depends

  row : (k : ℕ) → k < length list → occurs k (row_at rows t.place) ≡ links list t.place k
  row k l = linked t.place k within ∙ ap (λ b. cond b (links list t.place k) 0) (lt-ltb k (length list) l)

  pub beyond : (k : ℕ) → length list ≤ k → occurs k (row_at rows t.place) ≡ 0
  beyond k l = linked t.place k within ∙ ap (λ b. cond b (links list t.place k) 0) (le-ltb k (length list) l)

  pub enough : (k : ℕ) → occurs k (row_at rows t.place) ≤ get_or waits k 0
  enough k = by_case (cases_lt k (length list))
    where
      by_case : (k < length list) ⊎ (length list ≤ k) → occurs k (row_at rows t.place) ≤ get_or waits k 0
      by_case (inl l) = let a = less k in let b = row k l in let c = h.waiting k l in omega (arith, a, b, c)
      by_case (inr l) = let a = beyond k l in omega (arith, a)

  turn_is : (k : ℕ) → k < length list → turn_of list done (module_at list k) ≡ (record { name = (module_at list k).name; cyclic = nat_lt 0 (get_or waits k 0) })
  turn_is k l = λ i. record { name = (module_at list k).name; cyclic = nat_lt 0 (sym (h.waiting k l) i) }

  p_is : p ≡ turn_of list done (module_at list t.place)
  p_is = (λ i. record { name = named i; cyclic = (h.turns.turns t has i).cyclic }) ∙ sym (turn_is t.place within)

  pub next : ((q : Turn) → contains turn_cmp before q ≡ true → is_gt (turn_cmp t q) ≡ false) → next_among list done list ≡ Some p
  next least = next_is list done p list
      (before_at list done p list (λ k l f. ap (λ (q : Placed). is_gt (place_order p q)) (turn_is k l)
      ∙ first_two (bool_cmp t.cyclic (nat_lt 0 (get_or waits k 0))) (slice_cmp nat_cmp t.name (module_at list k).name) (nat_cmp t.place k) (least (turn_at list waits k) (h.turns.all k l (ap not f)))))
      (of_at list done p list t.place within (ap (is_placed done) (sym named) ∙ fresh) p_is)

  pub goes : (now : List ℕ) (mid after : BTreeSet Turn)
      → ((q : Turn) → contains turn_cmp mid q ≡ cond (same_turn t q) false (contains turn_cmp before q))
      → ((k : ℕ) → get_or now k 0 + occurs k (row_at rows t.place) ≡ get_or waits k 0)
      → ((left : ℕ → Bool) → Queues list waits left mid → Queues list now left after)
      → Going list now after (done ++ p ∷ [])
  goes now mid after popped freed kept = record {
    waiting = λ k l. (let a = less k in let b = row k l in let c = h.waiting k l in let d = freed k in omega (arith, a, b, c, d));
    turns = kept (is_left list (done ++ p ∷ [])) (queue_popped list waits (is_left list done) before mid t (is_left list (done ++ p ∷ [])) h.turns has popped left_less);
  }
    where
      same : (k : ℕ) → k < length list → bytes_eq (module_at list k).name t.name ≡ nat_eq k t.place
      same k l = both_ways (bytes_eq (module_at list k).name t.name) (nat_eq k t.place)
          (λ e. eq-eqb k t.place (differ k t.place (record { name = []; depends = [] }) l within (bytes_eq-true (module_at list k).name t.name e ∙ named)))
          (λ e. ap (bytes_eq (module_at list k).name) (named ∙ ap (λ i. (module_at list i).name) (sym (eqb-true k t.place e))) ∙ bytes_eq-refl (module_at list k).name)

      left_less : (k : ℕ) → k < length list → is_left list (done ++ p ∷ []) k ≡ (is_left list done k && not (nat_eq k t.place))
      left_less k l = ap not (placed_more done p (module_at list k).name) ∙ not_or (is_placed done (module_at list k).name) (bytes_eq (module_at list k).name t.name)
          ∙ ap (λ b. is_left list done k && not b) (same k l)

pub ahead : (list : List Listed) (done all : List Placed) (p : Placed) (size i : ℕ) → i < size → next_among list done list ≡ Some p
    → placed (size - i) list done ≡ all → placed (size - (i + 1)) list (done ++ p ∷ []) ≡ all
ahead list done all p size i l next h =
    let e : size - i ≡ suc (size - (i + 1)) = omega (arith, l) in
    sym (ap (with_next done (λ q. placed (size - (i + 1)) list (done ++ q ∷ []))) next) ∙ sym (ap (λ n. placed n list done) e) ∙ h
