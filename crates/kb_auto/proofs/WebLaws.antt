-- Laws of the places of names, and of the rows that tell who waits for whom.
use Rattle.std.proofs.Common.{◌≡◌, ◌≢◌, ℕ, zero, suc, Option, ◌+◌, ◌-◌, ◌<◌, ◌≤◌, Bool, true, false, cond, ◌&&◌, ◌||◌, not, List, [], ◌∷◌, ◌++◌, length, get_or, set, take, map, Some, None, refl, sym, ap, ◌∙◌, subst, arith, nat_eq, nat_lt, vec_len, ◌⊎◌, inl, inr, get_or-set_same, get_or-set_other}
use Rattle.std.specs.Global.{Vec}
use Rattle.std.specs.Option.{is_some, unwrap_or}
use Rattle.std.specs.List.{count_by}
use Rattle.std.specs.Ordering.{nat_cmp, is_eq}
use Rattle.std.specs.Cmp.Lexicographic.{slice_cmp, nat_list_cmp_total}
use Rattle.std.specs.BTreeMap.{BTreeMap, get, IsEmpty}
use Rattle.std.specs.Map.{lookup}
use Rattle.std.specs.Str.{bytes_eq}
use Rattle.std.proofs.lemmas.Bool.{eqb-true, eqb-false, eq-eqb, cases_lt, lt-ltb, le-ltb}
use Rattle.std.proofs.lemmas.Cmp.{tied_itself}
use Rattle.std.proofs.lemmas.List.{map_push, map-set, get_or_append_left, get_or-map, length-map, get_or-append_right}
use Rattle.std.proofs.lemmas.List.Sums.{count_by_more_yes, count_by_more_no}
use Rattle.std.proofs.lemmas.Map.Text.{is_eq-slice_cmp}
use Rattle.kb_auto.specs.declared.Listed.{Listed}
use Rattle.kb_auto.specs.Order.{is_module_listed, is_open, NamesDiffer, IsFirstDoubled}
use Rattle.kb_auto.specs.Queue.{module_at, ArePlaces, AreLinked, LinksSome, LinksMore, row_at, occurs, is_link, links}
use Rattle.kb_auto.proofs.NextLaws.{bytes_eq-refl, bytes_eq-true, listed_at}
use Rattle.kb_auto.proofs.RowLaws.{occurs_push}

no_false : {A : Type 0} → false ≡ true → A
no_false h = let q : true ≡ false = sym h in cc

no_some : {A : Type 0} (k : ℕ) → None ≡ Some k → A
no_some k h = no_false (ap is_some h)

some_one : (a b : ℕ) → Some a ≡ Some b → a ≡ b
some_one a b h = ap (λ o. unwrap_or o 0) h

-- ---- places
pub places_none : (list : List Listed) (places : BTreeMap (List ℕ) ℕ) → IsEmpty places → ArePlaces list 0 places
places_none list places h =
    let none : (name : List ℕ) → get (slice_cmp nat_cmp) places name ≡ None = λ name. ap (lookup (λ k. is_eq (slice_cmp nat_cmp name k))) h in
    record {
      within = λ name k e. no_some k (sym (none name) ∙ e);
      named = λ name k e. no_some k (sym (none name) ∙ e);
      all = λ k l. absurd (omega (arith, l));
    }

same_name : List ℕ → List ℕ → Bool
same_name a b = is_eq (slice_cmp nat_cmp a b)

module _ (list : List Listed) (n : ℕ) (name : List ℕ) (before after : BTreeMap (List ℕ) ℕ) (l : n < length list)
    (named : name ≡ (module_at list n).name) (fresh : get (slice_cmp nat_cmp) before name ≡ None)
    (updates : (q : List ℕ) → get (slice_cmp nat_cmp) after q ≡ cond (is_eq (slice_cmp nat_cmp name q)) (Some n) (get (slice_cmp nat_cmp) before q))
    (h : ArePlaces list n before) where
  exact : (q : List ℕ) → is_eq (slice_cmp nat_cmp name q) ≡ true → name ≡ q
  exact q e = bytes_eq-true name q (sym (is_eq-slice_cmp name q) ∙ e)

  cases : {A : Type 0} (q : List ℕ) (k : ℕ) → get (slice_cmp nat_cmp) after q ≡ Some k → (name ≡ q → n ≡ k → A) → (get (slice_cmp nat_cmp) before q ≡ Some k → A) → A
  cases {A} q k e f g = by_test (is_eq (slice_cmp nat_cmp name q)) refl (sym (updates q) ∙ e)
    where
      by_test : (b : Bool) → is_eq (slice_cmp nat_cmp name q) ≡ b → cond b (Some n) (get (slice_cmp nat_cmp) before q) ≡ Some k → A
      by_test true t u = f (exact q t) (some_one n k u)
      by_test false t u = g u

  here : get (slice_cmp nat_cmp) after (module_at list n).name ≡ Some n
  here =
      let same : is_eq (slice_cmp nat_cmp name (module_at list n).name) ≡ true = ap (λ q. is_eq (slice_cmp nat_cmp name q)) (sym named) ∙ ap is_eq (tied_itself nat_list_cmp_total name) in
      updates (module_at list n).name ∙ ap (λ b. cond b (Some n) (get (slice_cmp nat_cmp) before (module_at list n).name)) same

  there : (k : ℕ) → k < n → get (slice_cmp nat_cmp) after (module_at list k).name ≡ Some k
  there k m = by_test (is_eq (slice_cmp nat_cmp name (module_at list k).name)) refl
    where
      by_test : (b : Bool) → is_eq (slice_cmp nat_cmp name (module_at list k).name) ≡ b → get (slice_cmp nat_cmp) after (module_at list k).name ≡ Some k
      by_test true t = no_some k (sym fresh ∙ ap (get (slice_cmp nat_cmp) before) (exact (module_at list k).name t) ∙ h.all k m)
      by_test false t = updates (module_at list k).name ∙ ap (λ b. cond b (Some n) (get (slice_cmp nat_cmp) before (module_at list k).name)) t ∙ h.all k m

  pub places_more : ArePlaces list (n + 1) after
  places_more = record {
    within = λ q k e. cases q k e (λ (f : name ≡ q) (g : n ≡ k). let b : k < n + 1 = omega (arith, g) in b) (λ f. let b = h.within q k f in let m : k < n + 1 = omega (arith, b) in m);
    named = λ q k e. cases q k e (λ (f : name ≡ q) (g : n ≡ k). ap (λ i. (module_at list i).name) (sym g) ∙ sym named ∙ f) (λ f. h.named q k f);
    all = λ k m. by_case k (cases_lt k n) m;
  }
    where
      by_case : (k : ℕ) → (k < n) ⊎ (n ≤ k) → k < n + 1 → get (slice_cmp nat_cmp) after (module_at list k).name ≡ Some k
      by_case k (inl less) m = there k less
      by_case k (inr more) m =
          let e : n ≡ k = omega (arith, more, m) in
          subst (λ i. get (slice_cmp nat_cmp) after (module_at list i).name ≡ Some i) e here

-- the next name has no place yet, where names differ
pub places_fresh : (list : List Listed) (n : ℕ) (name : List ℕ) (places : BTreeMap (List ℕ) ℕ) → NamesDiffer list → n < length list → name ≡ (module_at list n).name → ArePlaces list n places
    → get (slice_cmp nat_cmp) places name ≡ None
places_fresh list n name places differ l named h = by_place (get (slice_cmp nat_cmp) places name) refl
  where
    by_place : (found : Option ℕ) → get (slice_cmp nat_cmp) places name ≡ found → get (slice_cmp nat_cmp) places name ≡ None
    by_place None e = e
    by_place (Some k) e =
        let m : k < n = h.within name k e in
        let same : n ≡ k = differ n k (record { name = []; depends = [] }) l (omega (arith, m, l)) (sym (h.named name k e ∙ named)) in
        absurd (omega (arith, same, m))

pub none_there : (found : Option ℕ) → is_some found ≡ false → found ≡ None
none_there None h = refl
none_there (Some k) h = no_false (sym h)

pub some_there : (found : Option ℕ) → is_some found ≡ true → (k : ℕ) × (found ≡ Some k)
some_there None h = no_false h
some_there (Some k) h = (k, refl)

-- two places have two names
pub places_apart : (list : List Listed) (n : ℕ) (places : BTreeMap (List ℕ) ℕ) → ArePlaces list n places → (i j : ℕ) → i < n → j < n → (module_at list i).name ≡ (module_at list j).name → i ≡ j
places_apart list n places h i j l m same = some_one i j (sym (h.all i l) ∙ ap (get (slice_cmp nat_cmp) places) same ∙ h.all j m)

at_place : (list : List Listed) (k : ℕ) (d : Listed) → k < length list → get_or list k d ≡ module_at list k
at_place [] k d l = absurd (omega (arith, l))
at_place (m ∷ list) zero d l = refl
at_place (m ∷ list) (suc k) d l = at_place list k d (omega (arith, l))

-- so the names differ, where each has a place
pub placed_differ : (list : List Listed) (places : BTreeMap (List ℕ) ℕ) → ArePlaces list (length list) places → NamesDiffer list
placed_differ list places h i j d l m same =
    places_apart list (length list) places h i j l m
    (sym (ap (λ (x : Listed). x.name) (at_place list i d l)) ∙ same ∙ ap (λ (x : Listed). x.name) (at_place list j d m))

-- and one that has a place already stands twice
pub doubled_at : (list : List Listed) (n k : ℕ) (name : List ℕ) (places : BTreeMap (List ℕ) ℕ) → n < length list → name ≡ (module_at list n).name → ArePlaces list n places
    → get (slice_cmp nat_cmp) places name ≡ Some k → IsFirstDoubled list n
doubled_at list n k name places l named h found = record {
  within = l;
  at = k;
  before = h.within name k found;
  same = h.named name k found ∙ named;
  first = λ i j b m e. let i_in : i < n = omega (arith, b, m) in let same = places_apart list n places h i j i_in m e in omega (arith, same, b);
}

both_ways : (a b : Bool) → (a ≡ true → b ≡ true) → (b ≡ true → a ≡ true) → a ≡ b
both_ways true b f g = sym (f refl)
both_ways false true f g = g refl
both_ways false false f g = refl

and_false : (b : Bool) → (b && false) ≡ false
and_false true = refl
and_false false = refl

unlisted : (name : List ℕ) (ms : List Listed) → ((at : ℕ) → at < length ms → bytes_eq name (module_at ms at).name ≡ false) → is_module_listed ms name ≡ false
unlisted name [] h = refl
unlisted name (m ∷ ms) h = ap (λ b. b || is_module_listed ms name) (h 0 (omega arith)) ∙ unlisted name ms (λ k l. h (suc k) (omega (arith, l)))

-- ---- what a look-up of a dependency tells
module _ (list : List Listed) (places : BTreeMap (List ℕ) ℕ) (h : ArePlaces list (length list) places) (m : Listed) (name : List ℕ) where
  pub open_own : bytes_eq name m.name ≡ true → is_open list [] m name ≡ false
  open_own e = ap (λ b. not b && (is_module_listed list name && not false)) e

  pub link_own : bytes_eq name m.name ≡ true → (at : ℕ) → is_link (module_at list at) m name ≡ false
  link_own e at = ap (λ b. not b && bytes_eq name (module_at list at).name) e

  -- the name at a place is looked up there
  looked_up : (at : ℕ) → at < length list → bytes_eq name (module_at list at).name ≡ true → get (slice_cmp nat_cmp) places name ≡ Some at
  looked_up at l e = ap (get (slice_cmp nat_cmp) places) (bytes_eq-true name (module_at list at).name e) ∙ h.all at l

  pub open_found : (other : ℕ) → get (slice_cmp nat_cmp) places name ≡ Some other → bytes_eq name m.name ≡ false → is_open list [] m name ≡ true
  open_found other e apart =
      let listed : is_module_listed list name ≡ true = ap (is_module_listed list) (sym (h.named name other e)) ∙ listed_at list other (h.within name other e) in
      ap (λ b. not b && (is_module_listed list name && not false)) apart ∙ ap (λ b. b && not false) listed

  pub link_found : (other : ℕ) → get (slice_cmp nat_cmp) places name ≡ Some other → bytes_eq name m.name ≡ false → (at : ℕ) → at < length list → is_link (module_at list at) m name ≡ nat_eq at other
  link_found other e apart at l = ap (λ b. not b && bytes_eq name (module_at list at).name) apart ∙ both_ways (bytes_eq name (module_at list at).name) (nat_eq at other)
      (λ f. eq-eqb at other (some_one at other (sym (looked_up at l f) ∙ e)))
      (λ f. ap (λ n. bytes_eq name (module_at list n).name) (eqb-true at other f) ∙ ap (bytes_eq name) (h.named name other e) ∙ bytes_eq-refl name)

  missed_at : get (slice_cmp nat_cmp) places name ≡ None → (at : ℕ) → at < length list → bytes_eq name (module_at list at).name ≡ false
  missed_at e at l = by_test (bytes_eq name (module_at list at).name) refl
    where
      by_test : (b : Bool) → bytes_eq name (module_at list at).name ≡ b → bytes_eq name (module_at list at).name ≡ false
      by_test true f = no_some at (sym e ∙ looked_up at l f)
      by_test false f = f

  pub open_missed : get (slice_cmp nat_cmp) places name ≡ None → is_open list [] m name ≡ false
  open_missed e = ap (λ b. not (bytes_eq name m.name) && (b && not false)) (unlisted name list (missed_at e)) ∙ and_false (not (bytes_eq name m.name))

  pub link_missed : get (slice_cmp nat_cmp) places name ≡ None → (at : ℕ) → at < length list → is_link (module_at list at) m name ≡ false
  link_missed e at l = ap (λ b. not (bytes_eq name m.name) && b) (missed_at e at l) ∙ and_false (not (bytes_eq name m.name))

-- ---- rows
pub no_rows_more : (before after : Vec (Vec ℕ)) (row : Vec ℕ) (n : ℕ) → vec_len before ≡ n → after.items ≡ before.items ++ row ∷ [] → row.items ≡ []
    → ((k : ℕ) → k < n → row_at before k ≡ []) → (k : ℕ) → k < n + 1 → row_at after k ≡ []
no_rows_more before after row n size pushed empty h k l =
    ap (λ rows. get_or (map (λ (r : Vec ℕ). r.items) rows) k []) pushed
    ∙ ap (λ rows. get_or rows k []) (map_push (λ (r : Vec ℕ). r.items) before.items row)
    ∙ by_case (cases_lt k n)
  where
    len : length (map (λ (r : Vec ℕ). r.items) before.items) ≡ n
    len = length-map before.items (λ (r : Vec ℕ). r.items) ∙ sym before.ok.0 ∙ size

    by_case : (k < n) ⊎ (n ≤ k) → get_or (map (λ (r : Vec ℕ). r.items) before.items ++ row.items ∷ []) k [] ≡ []
    by_case (inl less) = get_or_append_left (map (λ (r : Vec ℕ). r.items) before.items) (row.items ∷ []) [] k (let s = len in omega (arith, s, less)) ∙ h k less
    by_case (inr more) =
        let e : k - n ≡ 0 = omega (arith, l, more) in
        get_or-append_right (map (λ (r : Vec ℕ). r.items) before.items) (row.items ∷ []) n k [] len more
        ∙ ap (λ j. get_or (row.items ∷ []) j []) e ∙ empty

module _ (list : List Listed) (place : ℕ) (m : Listed) (names : List (List ℕ)) (i : ℕ) (name : List ℕ) (l : i < length names) (is : name ≡ get_or names i name) where
  pub count_yes : (count : ℕ) → count ≡ count_by (is_open list [] m) (take i names) → is_open list [] m name ≡ true → count + 1 ≡ count_by (is_open list [] m) (take (i + 1) names)
  count_yes count e f = ap (λ n. n + 1) e ∙ sym (count_by_more_yes (is_open list [] m) names i name l (ap (is_open list [] m) (sym is) ∙ f))

  pub count_no : (count : ℕ) → count ≡ count_by (is_open list [] m) (take i names) → is_open list [] m name ≡ false → count ≡ count_by (is_open list [] m) (take (i + 1) names)
  count_no count e f = e ∙ sym (count_by_more_no (is_open list [] m) names i name l (ap (is_open list [] m) (sym is) ∙ f))

  pub linked_no : (before now : Vec (Vec ℕ)) → LinksSome list place m (take i names) before now → ((at : ℕ) → at < length list → is_link (module_at list at) m name ≡ false)
      → LinksSome list place m (take (i + 1) names) before now
  linked_no before now h none at k w =
      h at k w ∙ ap (λ n. occurs k (row_at before at) + cond (nat_eq k place) n 0)
      (sym (count_by_more_no (is_link (module_at list at) m) names i name l (ap (is_link (module_at list at) m) (sym is) ∙ none at w)))

  pub linked_yes : (before now after : Vec (Vec ℕ)) (other : ℕ) (row new : Vec ℕ) → other < length now.items
      → row ≡ get_or now.items other row → new.items ≡ row.items ++ place ∷ [] → after.items ≡ set now.items other new
      → ((at : ℕ) → at < length list → is_link (module_at list at) m name ≡ nat_eq at other)
      → LinksSome list place m (take i names) before now → LinksSome list place m (take (i + 1) names) before after
  linked_yes before now after other row new o was pushed stands one h at k w = by_at (nat_eq at other) refl
    where
      more : row_at after at ≡ get_or (set (map (λ (r : Vec ℕ). r.items) now.items) other new.items) at []
      more = ap (λ rows. get_or (map (λ (r : Vec ℕ). r.items) rows) at []) stands ∙ ap (λ rows. get_or rows at []) (map-set (λ (r : Vec ℕ). r.items) now.items other new)

      old : row_at now other ≡ row.items
      old = get_or-map (λ (r : Vec ℕ). r.items) now.items other row [] o ∙ ap (λ (r : Vec ℕ). r.items) (sym was)

      here : at ≡ other → row_at after at ≡ row_at now at ++ place ∷ []
      here e = more ∙ ap (get_at) e ∙ get_or-set_same (map (λ (r : Vec ℕ). r.items) now.items) other new.items [] (let s = length-map now.items (λ (r : Vec ℕ). r.items) in omega (arith, s, o))
          ∙ pushed ∙ ap (λ xs. xs ++ place ∷ []) (sym old ∙ ap (row_at now) (sym e))
        where
          get_at : ℕ → List ℕ
          get_at j = get_or (set (map (λ (r : Vec ℕ). r.items) now.items) other new.items) j []

      there : at ≢ other → row_at after at ≡ row_at now at
      there e = more ∙ get_or-set_other (map (λ (r : Vec ℕ). r.items) now.items) other at new.items [] e

      turned : (b : Bool) → nat_eq k place ≡ b → nat_eq place k ≡ b
      turned true e = eq-eqb place k (sym (eqb-true k place e))
      turned false e = other_way (nat_eq place k) refl
        where
          other_way : (b : Bool) → nat_eq place k ≡ b → nat_eq place k ≡ false
          other_way true f = absurd (eqb-false k place e (sym (eqb-true place k f)))
          other_way false f = f

      sum : (b : Bool) (a c n : ℕ) → a ≡ c + cond b n 0 → a + cond b 1 0 ≡ c + cond b (n + 1) 0
      sum true a c n e = omega (arith, e)
      sum false a c n e = omega (arith, e)

      by_at : (b : Bool) → nat_eq at other ≡ b → occurs k (row_at after at) ≡ occurs k (row_at before at) + cond (nat_eq k place) (count_by (is_link (module_at list at) m) (take (i + 1) names)) 0
      by_at true e =
          ap (occurs k) (here (eqb-true at other e)) ∙ occurs_push k place (row_at now at)
          ∙ ap (λ b. occurs k (row_at now at) + cond b 1 0) (turned (nat_eq k place) refl)
          ∙ sum (nat_eq k place) (occurs k (row_at now at)) (occurs k (row_at before at)) (count_by (is_link (module_at list at) m) (take i names)) (h at k w)
          ∙ ap (λ n. occurs k (row_at before at) + cond (nat_eq k place) n 0) (sym (count_by_more_yes (is_link (module_at list at) m) names i name l (ap (is_link (module_at list at) m) (sym is) ∙ one at w ∙ e)))
      by_at false e =
          ap (occurs k) (there (eqb-false at other e)) ∙ h at k w
          ∙ ap (λ n. occurs k (row_at before at) + cond (nat_eq k place) n 0) (sym (count_by_more_no (is_link (module_at list at) m) names i name l (ap (is_link (module_at list at) m) (sym is) ∙ one at w ∙ e)))

-- ---- all modules
apart : (a b : ℕ) → (a ≡ b → ⊥) → nat_eq a b ≡ false
apart a b h = by_test (nat_eq a b) refl
  where
    by_test : (t : Bool) → nat_eq a b ≡ t → nat_eq a b ≡ false
    by_test true e = absurd (h (eqb-true a b e))
    by_test false e = e

zero_add : (a : ℕ) → 0 + a ≡ a
zero_add a = omega arith

joined : {a b c : Bool} (p q r : ℕ) {s t u : Bool} → a ≡ s → b ≡ t → c ≡ u → cond s p 0 + cond t q 0 ≡ cond u r 0 → cond a p 0 + cond b q 0 ≡ cond c r 0
joined p q r e f g h = (λ i. cond (e i) p 0 + cond (f i) q 0) ∙ h ∙ ap (λ b. cond b r 0) (sym g)

pub linked_none : (list : List Listed) (rows : Vec (Vec ℕ)) → ((k : ℕ) → k < length list → row_at rows k ≡ []) → AreLinked list 0 rows
linked_none list rows h at k l = ap (occurs k) (h at l) ∙ sym (ap (λ b. cond b (links list at k) 0) (le-ltb k 0 (omega arith)))

pub linked_more : (list : List Listed) (n : ℕ) (before after : Vec (Vec ℕ)) → AreLinked list n before → LinksMore list n before after → AreLinked list (n + 1) after
linked_more list n before after h more at k l = more at k l ∙ ap (λ a. a + cond (nat_eq k n) (count_by (is_link (module_at list at) (module_at list n)) (module_at list n).depends) 0) (h at k l) ∙ by_case (cases_lt k n)
  where
    by_case : (k < n) ⊎ (n ≤ k) → cond (nat_lt k n) (links list at k) 0 + cond (nat_eq k n) (links list at n) 0 ≡ cond (nat_lt k (n + 1)) (links list at k) 0
    by_case (inl less) =
        let a : nat_lt k n ≡ true = lt-ltb k n less in
        let b : nat_lt k (n + 1) ≡ true = lt-ltb k (n + 1) (omega (arith, less)) in
        let c : nat_eq k n ≡ false = apart k n (λ e. omega (arith, less, e)) in
        joined (links list at k) (links list at n) (links list at k) a c b (omega arith)
    by_case (inr more) = by_eq (nat_eq k n) refl
      where
        by_eq : (b : Bool) → nat_eq k n ≡ b → cond (nat_lt k n) (links list at k) 0 + cond (nat_eq k n) (links list at n) 0 ≡ cond (nat_lt k (n + 1)) (links list at k) 0
        by_eq true e =
            let s = eqb-true k n e in
            joined (links list at k) (links list at n) (links list at k) (le-ltb k n more) e (lt-ltb k (n + 1) (omega (arith, s))) (ap (λ j. 0 + count_by (is_link (module_at list at) (module_at list j)) (module_at list j).depends) (sym s) ∙ zero_add (links list at k))
        by_eq false e =
            let s = eqb-false k n e in
            joined (links list at k) (links list at n) (links list at k) (le-ltb k n more) e (le-ltb k (n + 1) (omega (arith, more, s))) refl

pub below_push : (value : ℕ → ℕ) (n x : ℕ) (before after : List ℕ) → length before ≡ n → after ≡ before ++ x ∷ [] → x ≡ value n
    → ((k : ℕ) → k < n → get_or before k 0 ≡ value k) → (k : ℕ) → k < n + 1 → get_or after k 0 ≡ value k
below_push value n x before after size pushed new h k l = ap (λ xs. get_or xs k 0) pushed ∙ by_case (cases_lt k n)
  where
    by_case : (k < n) ⊎ (n ≤ k) → get_or (before ++ x ∷ []) k 0 ≡ value k
    by_case (inl less) = get_or_append_left before (x ∷ []) 0 k (omega (arith, size, less)) ∙ h k less
    by_case (inr more) =
        let e : k - n ≡ 0 = omega (arith, l, more) in
        let s : n ≡ k = omega (arith, l, more) in
        get_or-append_right before (x ∷ []) n k 0 size more ∙ ap (λ j. get_or (x ∷ []) j 0) e ∙ new ∙ ap value s

-- the row that a place has
pub row_is : (rows : Vec (Vec ℕ)) (k : ℕ) (row : Vec ℕ) → k < vec_len rows → row ≡ get_or rows.items k row → row.items ≡ row_at rows k
row_is rows k row l is =
    ap (λ (r : Vec ℕ). r.items) is ∙ sym (get_or-map (λ (r : Vec ℕ). r.items) rows.items k row [] (let e : vec_len rows ≡ length rows.items = rows.ok.0 in omega (arith, l, e)))
