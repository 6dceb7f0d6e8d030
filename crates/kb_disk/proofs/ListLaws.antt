-- The entries of a directory, found in a map whose paths are in order.
use Rattle.std.proofs.Common.{◌≡◌, ◌⊎◌, inl, inr, ℕ, Bool, true, false, cond, ◌&&◌, not, List, [], ◌∷◌, ◌++◌, length, drop, Option, Some, None, is_some, IsTrue, refl, sym, ap, subst, ◌∙◌, append-nil, append_assoc}
use Rattle.std.specs.Prelude.{bytes_eq, filter_map, filter, T}
use Rattle.std.specs.List.{AllByRecursion, cons_option}
use Rattle.std.specs.List.Sorted.{IsStrictlySortedBy}
use Rattle.std.specs.Map.{keys_of}
use Rattle.std.specs.Cmp.{first_so, second_so}
use Rattle.std.specs.Cmp.Derive.{both_true}
use Rattle.std.specs.Cmp.Lexicographic.{slice_cmp, bytes_decides, nat_list_cmp_total}
use Rattle.std.specs.Ordering.{nat_cmp, is_lt, ordering_then, ordering_reverse}
use Rattle.std.specs.declared.cmp.Ordering.{Ordering}
use Rattle.std.specs.declared.cmp.Ordering.TheVariants.{Less, Equal, Greater}
use Rattle.std.specs.FinMap.{entries, from_entries, from_sorted, get-from_entries, get-from_sorted, entries-from_sorted, same_map, slice_cmp-IsAntisymmetric, nat_cmp-IsAntisymmetric}
use Rattle.std.specs.FinMap.Entries.{is_sorted, below_all}
use Rattle.std.proofs.lemmas.Cmp.{tied_itself}
use Rattle.std.proofs.lemmas.List.Kept.{IsStrictlySortedBy-filter}
use Rattle.kb_world.specs.Names.{is_name}
use Rattle.kb_world.specs.Path.{Path, IsPath, is_under, path_cmp}
use Rattle.kb_world.specs.Tree.{Tree, name_in, sole, children}
use Rattle.kb_world.specs.TreeLaws.{paths_total, paths_exact}
use Rattle.kb_world.specs.declared.tree.Node.{Node}
use Rattle.kb_world.proofs.PathLaws.{by_test}
use Rattle.kb_disk.specs.Edits.{tree_with}

abbrev name_cmp : List ℕ → List ℕ → Ordering
name_cmp = slice_cmp nat_cmp

texts_exact : (a b : List ℕ) → name_cmp a b ≡ Equal → a ≡ b
texts_exact = slice_cmp-IsAntisymmetric nat_cmp-IsAntisymmetric

never : (b : Bool) → b ≡ true → b ≡ false → ⊥
never b t f = let q : true ≡ false = sym t ∙ f in cc

-- ---- what is under a path stands behind it

under_stands_behind : (path k : Path) → is_under k path ≡ true → (k ≡ path) ⊎ (path_cmp path k ≡ Less)
under_stands_behind [] [] h = inl refl
under_stands_behind [] (q ∷ k) h = inr refl
under_stands_behind (p ∷ path) [] h = let e : true ≡ false = sym h in cc
under_stands_behind (p ∷ path) (q ∷ k) h =
    let same : p ≡ q = (bytes_decides p q).0 (first_so (bytes_eq p q) _ h) in
    let tied : name_cmp p q ≡ Equal = ap (λ n. name_cmp p n) (sym same) ∙ tied_itself nat_list_cmp_total p in
    elim (under_stands_behind path k (second_so (bytes_eq p q) _ h)) as (λ _. (q ∷ k ≡ p ∷ path) ⊎ (path_cmp (p ∷ path) (q ∷ k) ≡ Less)) [
      | inl is ↦ inl (λ i. sym same i ∷ is i)
      | inr less ↦ inr (ap (λ o. ordering_then o (path_cmp path k)) tied ∙ less)
    ]

-- behind a path that isn't under the directory, and itself behind it, nothing is under it
nothing_behind : (path k later : Path) → path_cmp path k ≡ Less → is_under k path ≡ false → path_cmp k later ≡ Less → is_under later path ≡ true → ⊥
nothing_behind [] k later less out behind h = never (is_under k []) refl out
nothing_behind (p ∷ path) k [] less out behind h = let e : true ≡ false = sym h in cc
nothing_behind (p ∷ path) [] (l ∷ later) less out behind h = let e : Greater ≡ Less = less in cc
nothing_behind (p ∷ path) (q ∷ k) (l ∷ later) less out behind h = by_names (nothing_behind path k later) (name_cmp p q) refl
  where
    same : p ≡ l
    same = (bytes_decides p l).0 (first_so (bytes_eq p l) _ h)

    turned : name_cmp q l ≡ ordering_reverse (name_cmp p q)
    turned = ap (name_cmp q) (sym same) ∙ nat_list_cmp_total.antisymm q p

    by_names : (path_cmp path k ≡ Less → is_under k path ≡ false → path_cmp k later ≡ Less → is_under later path ≡ true → ⊥)
        → (o : Ordering) → name_cmp p q ≡ o → ⊥
    by_names below Less e =
        let greater : name_cmp q l ≡ Greater = turned ∙ ap ordering_reverse e in
        let h : Greater ≡ Less = sym (ap (λ o. ordering_then o (path_cmp k later)) greater) ∙ behind in cc
    by_names below Equal e =
        let is : p ≡ q = texts_exact p q e in
        let tied : name_cmp q l ≡ Equal = turned ∙ ap ordering_reverse e in
        below (sym (ap (λ o. ordering_then o (path_cmp path k)) e) ∙ less)
        (sym (ap (λ b. b && is_under k path) ((bytes_decides p q).1 is)) ∙ out)
        (sym (ap (λ o. ordering_then o (path_cmp k later)) tied) ∙ behind)
        (second_so (bytes_eq p l) _ h)
    by_names below Greater e = let h : Greater ≡ Less = sym (ap (λ o. ordering_then o (path_cmp path k)) e) ∙ less in cc

-- a path that isn't under the directory is no entry's
no_entry : (path k : Path) → is_under k path ≡ false → name_in path k ≡ None
no_entry path k out = ap (λ b. cond b (sole (drop (length path) k)) None) out

dropped : (path : Path) → drop (length path) path ≡ []
dropped [] = refl
dropped (name ∷ path) = dropped path

-- nor is the directory's own
no_entry_itself : (path k : Path) → k ≡ path → name_in path k ≡ None
no_entry_itself path k is = ap (name_in path) is ∙ by_case (is_under path path)
  where
    by_case : (b : Bool) → cond b (sole (drop (length path) path)) None ≡ None
    by_case true = ap sole (dropped path)
    by_case false = refl

-- what isn't behind the directory is no entry's
not_behind : (path k : Path) → is_lt (path_cmp path k) ≡ false → name_in path k ≡ None
not_behind path k not_less = by_case (is_under k path) refl
  where
    by_case : (b : Bool) → is_under k path ≡ b → name_in path k ≡ None
    by_case true h = elim (under_stands_behind path k h) as (λ _. name_in path k ≡ None) [
      | inl is ↦ no_entry_itself path k is
      | inr less ↦ absurd (never (is_lt (path_cmp path k)) (ap is_lt less) not_less)
    ]
    by_case false h = no_entry path k h

-- ---- the names of the entries among those of a map

abbrev pub names_among : Path → List (Path × Node) → List (List ℕ)
names_among path es = filter_map (name_in path) (keys_of es)

abbrev stands_behind : Path → Path × Node → Bool
stands_behind path e = is_lt (path_cmp path e.0) && not false

-- those that don't stand behind the directory give none
pub names_behind : (path : Path) (es : List (Path × Node)) → names_among path (filter (stands_behind path) es) ≡ names_among path es
names_behind path [] = refl
names_behind path (e ∷ es) = by_case (is_lt (path_cmp path e.0)) refl (names_behind path es)
  where
    by_case : (b : Bool) → is_lt (path_cmp path e.0) ≡ b → names_among path (filter (stands_behind path) es) ≡ names_among path es
        → names_among path (filter (stands_behind path) (e ∷ es)) ≡ names_among path (e ∷ es)
    by_case true h below = ap (λ b. names_among path (cond (b && not false) (e ∷ filter (stands_behind path) es) (filter (stands_behind path) es))) h
        ∙ ap (cons_option (name_in path e.0)) below
    by_case false h below = ap (λ b. names_among path (cond (b && not false) (e ∷ filter (stands_behind path) es) (filter (stands_behind path) es))) h
        ∙ below ∙ sym (ap (λ at. cons_option at (names_among path es)) (not_behind path e.0 h))

-- the paths rise, and all stand behind the directory
abbrev pub RiseBehind : Path → List (Path × Node) → Type 0
RiseBehind path es = IsStrictlySortedBy path_cmp (path ∷ keys_of es)

less_than : (o : Ordering) → is_lt o ≡ true → o ≡ Less
less_than Less h = refl
less_than Equal h = cc
less_than Greater h = cc

all_behind : (path : Path) (es : List (Path × Node)) → AllByRecursion (λ k. path_cmp path k ≡ Less) (keys_of (filter (stands_behind path) es))
all_behind path [] = tt
all_behind path (e ∷ es) = by_case (is_lt (path_cmp path e.0)) refl (all_behind path es)
  where
    by_case : (b : Bool) → is_lt (path_cmp path e.0) ≡ b → AllByRecursion (λ k. path_cmp path k ≡ Less) (keys_of (filter (stands_behind path) es))
        → AllByRecursion (λ k. path_cmp path k ≡ Less) (keys_of (filter (stands_behind path) (e ∷ es)))
    by_case true h below = subst (λ b. AllByRecursion (λ k. path_cmp path k ≡ Less) (keys_of (cond (b && not false) (e ∷ filter (stands_behind path) es) (filter (stands_behind path) es))))
        (sym h) (less_than (path_cmp path e.0) h, below)
    by_case false h below = subst (λ b. AllByRecursion (λ k. path_cmp path k ≡ Less) (keys_of (cond (b && not false) (e ∷ filter (stands_behind path) es) (filter (stands_behind path) es))))
        (sym h) below

keys_filtered : (p : Path → Bool) (es : List (Path × Node)) → keys_of (filter (λ e. p e.0) es) ≡ filter p (keys_of es)
keys_filtered p [] = refl
keys_filtered p (e ∷ es) = by_case (p e.0) (keys_filtered p es)
  where
    by_case : (b : Bool) → keys_of (filter (λ e. p e.0) es) ≡ filter p (keys_of es)
        → keys_of (cond b (e ∷ filter (λ e. p e.0) es) (filter (λ e. p e.0) es)) ≡ cond b (e.0 ∷ filter p (keys_of es)) (filter p (keys_of es))
    by_case true below = ap (λ ks. e.0 ∷ ks) below
    by_case false below = below

pub rise_behind : (path : Path) (es : List (Path × Node)) → IsStrictlySortedBy path_cmp (keys_of es) → RiseBehind path (filter (stands_behind path) es)
unfolding IsStrictlySortedBy
rise_behind path es sorted =
    let p : Path → Bool = λ k. is_lt (path_cmp path k) && not false in
    (all_behind path es, subst (IsStrictlySortedBy path_cmp) (sym (keys_filtered p es)) (IsStrictlySortedBy-filter path_cmp p (keys_of es) sorted))

pub rest_rises : (path : Path) (e : Path × Node) (es : List (Path × Node)) → RiseBehind path (e ∷ es) → RiseBehind path es
unfolding IsStrictlySortedBy
rest_rises path e es rise = (rise.0.1, rise.1.1)

none_behind : (path k : Path) (ks : List Path) → path_cmp path k ≡ Less → is_under k path ≡ false → AllByRecursion (λ later. path_cmp k later ≡ Less) ks → filter_map (name_in path) ks ≡ []
none_behind path k [] less out behind = refl
none_behind path k (later ∷ ks) less out behind =
    let away : is_under later path ≡ false = by_test (is_under later path) (nothing_behind path k later less out behind.0) in
    ap (λ at. cons_option at (filter_map (name_in path) ks)) (no_entry path later away) ∙ none_behind path k ks less out behind.1

-- from the first on that isn't under the directory there are none
pub none_left : (path : Path) (e : Path × Node) (es : List (Path × Node)) → RiseBehind path (e ∷ es) → is_under e.0 path ≡ false → names_among path (e ∷ es) ≡ []
unfolding IsStrictlySortedBy
none_left path e es rise out = ap (λ at. cons_option at (names_among path es)) (no_entry path e.0 out) ∙ none_behind path e.0 (keys_of es) rise.0.0 out rise.1.0

-- ---- the tree that a map's entries make

below_each : (k : Path) (es : List (Path × Node)) → AllByRecursion (λ later. path_cmp k later ≡ Less) (keys_of es) → below_all path_cmp k es ≡ true
below_each k [] all = refl
below_each k (e ∷ es) all = (λ i. is_lt (all.0 i) && below_each k es all.1 i)

rising : (es : List (Path × Node)) → IsStrictlySortedBy path_cmp (keys_of es) → is_sorted path_cmp es ≡ true
unfolding IsStrictlySortedBy
rising [] sorted = refl
rising (e ∷ es) sorted = (λ i. below_each e.0 es sorted.0 i && rising es sorted.1 i)

entries_again : (es : List (Path × Node)) → IsStrictlySortedBy path_cmp (keys_of es) → entries (from_entries {R = path_cmp} es) ≡ es
entries_again es sorted =
    let test : T (is_sorted path_cmp es) = subst T (sym (rising es sorted)) tt in
    let same : from_entries {R = path_cmp} es ≡ from_sorted es =
    same_map paths_total paths_exact (from_entries es) (from_sorted es) (λ q. get-from_entries paths_total es q ∙ sym (get-from_sorted path_cmp es q test)) in
    ap entries same ∙ entries-from_sorted path_cmp es test

-- the names in the tree are those among the entries
pub children_from : (path : Path) (es : List (Path × Node)) → IsStrictlySortedBy path_cmp (keys_of es) → children (from_entries {R = path_cmp} es) path ≡ names_among path es
children_from path es sorted = ap (λ es. names_among path es) (entries_again es sorted)

-- one name more
pub named_more : (names : List (List ℕ)) (name : List ℕ) → IsPath names → IsTrue (is_name name) → IsPath (names ++ name ∷ [])
named_more [] name named is = both_true is refl
named_more (first ∷ names) name named is = both_true (first_so (is_name first) _ named) (named_more names name (second_so (is_name first) _ named) is)

-- ---- one step of the search

module _ (path : Path) (names total : List (List ℕ)) (iter rest : List (Path × Node)) (e : Path × Node) (is : iter ≡ e ∷ rest) (so_far : names ++ names_among path iter ≡ total) where
  pub one_more : (name : List ℕ) → Some name ≡ name_in path e.0 → (names ++ name ∷ []) ++ names_among path rest ≡ total
  one_more name named = append_assoc names (name ∷ []) (names_among path rest) ∙ ap (λ at. names ++ cons_option at (names_among path rest)) named
      ∙ sym (ap (λ es. names ++ names_among path es) is) ∙ so_far

  pub none_here : None ≡ name_in path e.0 → names ++ names_among path rest ≡ total
  none_here unnamed = ap (λ at. names ++ cons_option at (names_among path rest)) unnamed ∙ sym (ap (λ es. names ++ names_among path es) is) ∙ so_far

-- all was found
pub all_found : (path : Path) (names total : List (List ℕ)) (iter : List (Path × Node)) → names ++ names_among path iter ≡ total → names_among path iter ≡ [] → names ≡ total
all_found path names total iter so_far none = sym (append-nil names) ∙ sym (ap (λ more. names ++ more) none) ∙ so_far

-- what was searched is the tree's
pub total_is : (path : Path) (tree : Tree) (es iter range : List (Path × Node)) → from_entries {R = path_cmp} es ≡ tree → IsStrictlySortedBy path_cmp (keys_of es)
    → iter ≡ range → range ≡ filter (stands_behind path) es → names_among path iter ≡ children tree path
total_is path tree es iter range view sorted begins between =
    ap (names_among path) (begins ∙ between) ∙ names_behind path es ∙ sym (children_from path es sorted) ∙ ap (λ t. children t path) view

one_rises : (node : Node) → IsStrictlySortedBy path_cmp (keys_of (([], node) ∷ []))
unfolding IsStrictlySortedBy
one_rises node = (tt, tt)

root_is_first : (path : Path) → is_lt (path_cmp path []) ≡ false
root_is_first [] = refl
root_is_first (name ∷ path) = refl

-- where something stands at the root alone nothing has an entry
pub alone_childless : (alone : Option Node) (es : List (Path × Node)) (now : Tree) (path : Path) → is_some alone ≡ true → tree_with alone es ≡ now → children now path ≡ []
alone_childless None es now path some view = let q : false ≡ true = some in cc
alone_childless (Some node) es now path some view =
    ap (λ tree. children tree path) (sym view) ∙ children_from path (([], node) ∷ []) (one_rises node) ∙ ap (λ at. cons_option at []) (not_behind path [] (root_is_first path))
