-- What stands below a directory, entry by entry.
use Rattle.std.proofs.Common.{◌≡◌, inr, ℕ, Bool, true, false, cond, ◌&&◌, ◌||◌, not, List, [], ◌∷◌, ◌++◌, length, drop, map, Option, Some, None, is_some, refl, sym, ap, ◌∙◌, subst, append_assoc, append-nil, T}
use Rattle.std.specs.Prelude.{bytes_eq, filter, flat_map, filter_map}
use Rattle.std.specs.List.{list_all, list_any, cons_option}
use Rattle.std.specs.FinMap.{keys, entries, entries_sorted, contains_key-keys}
use Rattle.std.specs.FinMap.Entries.{is_sorted, below_all}
use Rattle.std.specs.Ordering.{is_lt, ordering_then}
use Rattle.std.specs.Cmp.{first_so, second_so, tied_itself}
use Rattle.std.specs.Cmp.Derive.{both_true}
use Rattle.std.specs.Cmp.Lexicographic.{bytes_decides, nat_list_cmp_total}
use Rattle.std.proofs.lemmas.List.{map-append}
use Rattle.kb_world.specs.Path.{Path, path_cmp, child, is_under}
use Rattle.kb_world.specs.Roots.{is_below}
use Rattle.kb_world.specs.Tree.{Tree, node_at, is_dir, name_in, children, IsFormed}
use Rattle.kb_world.specs.TreeLaws.{same_path, same_path-true, same_path-refl}
use Rattle.kb_world.specs.declared.tree.Node.{Node}
use Rattle.kb_world.proofs.PathLaws.{under-append, under-beside, drop-front}
use Rattle.kb_world.proofs.DamageLaws.{under-split}
use Rattle.kb_world.proofs.FormedLaws.{dir_stands, dir_above}
use Rattle.kb_walk.specs.Walking.{paths_below}
use Rattle.kb_walk.proofs.OrderLaws.{untrue, rises, is_in, in_more, sole, is_beyond, beyond, heads, grouped, IsClosed, in_groups}
use Rattle.kb_world.proofs.PathLaws.{by_test}

-- ---- the paths of a tree rise

true_of : (b : Bool) → T b → b ≡ true
true_of true h = refl
true_of false h = absurd h

all_below : (path : Path) (es : List (Path × Node)) → below_all path_cmp path es ≡ true → list_all (λ other. is_lt (path_cmp path other)) (map (λ e. e.0) es) ≡ true
all_below path [] h = refl
all_below path (e ∷ es) h = both_true (first_so (is_lt (path_cmp path e.0)) (below_all path_cmp path es) h) (all_below path es (second_so (is_lt (path_cmp path e.0)) (below_all path_cmp path es) h))

rises_entries : (es : List (Path × Node)) → is_sorted path_cmp es ≡ true → rises (map (λ e. e.0) es) ≡ true
rises_entries [] h = refl
rises_entries (e ∷ es) h = both_true (all_below e.0 es (first_so (below_all path_cmp e.0 es) (is_sorted path_cmp es) h)) (rises_entries es (second_so (below_all path_cmp e.0 es) (is_sorted path_cmp es) h))

pub rises_keys : (tree : Tree) → rises (keys tree) ≡ true
rises_keys tree = rises_entries (entries tree) (true_of (is_sorted path_cmp (entries tree)) (entries_sorted tree))

-- ---- names below a directory

-- the names below a directory
abbrev strip : Path → Path → Option Path
strip d path = cond (is_below path d) (Some (drop (length d) path)) None

abbrev stripped : Path → List Path → List Path
stripped d paths = filter_map (strip d) paths

strip_is : (d path : Path) → is_below path d ≡ true → path ≡ d ++ drop (length d) path
strip_is d path h = under-split path d (first_so (is_under path d) (not (is_under d path)) h)

not_under_more : (d : Path) (name : List ℕ) (rest : Path) → is_under d (d ++ name ∷ rest) ≡ false
not_under_more d name rest = ap (λ p. is_under p (d ++ name ∷ rest)) (sym (append-nil d)) ∙ under-beside d [] (name ∷ rest)

pub below_more : (d : Path) (name : List ℕ) (rest : Path) → is_below (d ++ name ∷ rest) d ≡ true
below_more d name rest = both_true (under-append d (name ∷ rest)) (ap not (not_under_more d name rest))

strip-more : (d : Path) (name : List ℕ) (rest : Path) → strip d (d ++ name ∷ rest) ≡ Some (name ∷ rest)
strip-more d name rest = ap (λ b. cond b (Some (drop (length d) (d ++ name ∷ rest))) None) (below_more d name rest) ∙ ap Some (drop-front d (name ∷ rest))

pub cmp-append : (d a b : Path) → path_cmp (d ++ a) (d ++ b) ≡ path_cmp a b
cmp-append [] a b = refl
cmp-append (name ∷ d) a b = ap (λ o. ordering_then o (path_cmp (d ++ a) (d ++ b))) (tied_itself nat_list_cmp_total name) ∙ cmp-append d a b

strip_case : (d path : Path) (P : Option Path → Type 0) → (is_below path d ≡ true → P (Some (drop (length d) path))) → (is_below path d ≡ false → P None) → P (strip d path)
strip_case d path P yes_case no_case = by (is_below path d) refl
  where
    by : (b : Bool) → is_below path d ≡ b → P (cond b (Some (drop (length d) path)) None)
    by true e = yes_case e
    by false e = no_case e

all_strip : (d a : Path) (paths : List Path) → list_all (λ other. is_lt (path_cmp (d ++ a) other)) paths ≡ true → list_all (λ other. is_lt (path_cmp a other)) (stripped d paths) ≡ true
all_strip d a [] h = refl
all_strip d a (path ∷ paths) h =
    let later = all_strip d a paths (second_so (is_lt (path_cmp (d ++ a) path)) (list_all (λ other. is_lt (path_cmp (d ++ a) other)) paths) h) in
    strip_case d path (λ o. list_all (λ other. is_lt (path_cmp a other)) (cons_option o (stripped d paths)) ≡ true)
    (λ e. both_true (sym (ap (λ p. is_lt (path_cmp (d ++ a) p)) (strip_is d path e) ∙ ap is_lt (cmp-append d a (drop (length d) path))) ∙ first_so (is_lt (path_cmp (d ++ a) path)) (list_all (λ other. is_lt (path_cmp (d ++ a) other)) paths) h) later)
    (λ e. later)

rises_strip : (d : Path) (paths : List Path) → rises paths ≡ true → rises (stripped d paths) ≡ true
rises_strip d [] h = refl
rises_strip d (path ∷ paths) h =
    let later = rises_strip d paths (second_so (list_all (λ other. is_lt (path_cmp path other)) paths) (rises paths) h) in
    strip_case d path (λ o. rises (cons_option o (stripped d paths)) ≡ true)
    (λ e. both_true (all_strip d (drop (length d) path) paths (subst (λ p. list_all (λ other. is_lt (path_cmp p other)) paths ≡ true) (strip_is d path e) (first_so (list_all (λ other. is_lt (path_cmp path other)) paths) (rises paths) h))) later)
    (λ e. later)

in_unstrip : (d q : Path) (paths : List Path) → is_in q (stripped d paths) → is_in (d ++ q) paths
in_unstrip d q [] h = h
in_unstrip d q (path ∷ paths) h =
    strip_case d path (λ o. is_in q (cons_option o (stripped d paths)) → is_in (d ++ q) (path ∷ paths))
    (λ e here. by e (same_path q (drop (length d) path)) refl here (λ later. in_more (d ++ q) path paths (in_unstrip d q paths later)))
    (λ e here. in_more (d ++ q) path paths (in_unstrip d q paths here)) h
  where
    by : is_below path d ≡ true → (b : Bool) → same_path q (drop (length d) path) ≡ b → is_in q (drop (length d) path ∷ stripped d paths) → (is_in q (stripped d paths) → is_in (d ++ q) (path ∷ paths)) → is_in (d ++ q) (path ∷ paths)
    by e true s here rest =
        let is : d ++ q ≡ path = ap (λ r. d ++ r) (same_path-true q (drop (length d) path) s) ∙ sym (strip_is d path e) in
        ap (λ b. b || list_any (same_path (d ++ q)) paths) (ap (same_path (d ++ q)) (sym is) ∙ same_path-refl (d ++ q))
    by e false s here rest = rest (sym (ap (λ b. b || list_any (same_path q) (stripped d paths)) s) ∙ here)

in_strip : (d : Path) (name : List ℕ) (rest : Path) (paths : List Path) → is_in (d ++ name ∷ rest) paths → is_in (name ∷ rest) (stripped d paths)
in_strip d name rest [] h = h
in_strip d name rest (path ∷ paths) h = by (same_path (d ++ name ∷ rest) path) refl (λ later. strip_case d path (λ o. is_in (name ∷ rest) (cons_option o (stripped d paths)))
    (λ e. in_more (name ∷ rest) (drop (length d) path) (stripped d paths) (in_strip d name rest paths later)) (λ e. in_strip d name rest paths later))
  where
    by : (b : Bool) → same_path (d ++ name ∷ rest) path ≡ b → (is_in (d ++ name ∷ rest) paths → is_in (name ∷ rest) (stripped d (path ∷ paths))) → is_in (name ∷ rest) (stripped d (path ∷ paths))
    by true e later =
        let is = same_path-true (d ++ name ∷ rest) path e in
        ap (λ o. list_any (same_path (name ∷ rest)) (cons_option o (stripped d paths))) (ap (strip d) (sym is) ∙ strip-more d name rest)
        ∙ ap (λ b. b || list_any (same_path (name ∷ rest)) (stripped d paths)) (same_path-refl (name ∷ rest))
    by false e later = later (sym (ap (λ b. b || list_any (same_path (d ++ name ∷ rest)) paths) e) ∙ h)

no_empty : (d : Path) (paths : List Path) → is_in [] (stripped d paths) → ⊥
no_empty d [] h = untrue h
no_empty d (path ∷ paths) h =
    strip_case d path (λ o. is_in [] (cons_option o (stripped d paths)) → ⊥)
    (λ e here. by e (same_path [] (drop (length d) path)) refl here (λ later. no_empty d paths later)) (λ e here. no_empty d paths here) h
  where
    by : is_below path d ≡ true → (b : Bool) → same_path [] (drop (length d) path) ≡ b → is_in [] (drop (length d) path ∷ stripped d paths) → (is_in [] (stripped d paths) → ⊥) → ⊥
    by e true s here rest =
        let is : path ≡ d = strip_is d path e ∙ ap (λ r. d ++ r) (sym (same_path-true [] (drop (length d) path) s)) ∙ append-nil d in
        let itself : is_under d path ≡ true = ap (is_under d) (is ∙ sym (append-nil d)) ∙ ap (λ p. is_under p (d ++ [])) (sym (append-nil d)) ∙ under-beside d [] [] in
        untrue (sym (ap not itself) ∙ second_so (is_under path d) (not (is_under d path)) e)
    by e false s here rest = rest (sym (ap (λ b. b || list_any (same_path []) (stripped d paths)) s) ∙ here)

-- ---- what stands, stands in directories

pub standing : (tree : Tree) (q : Path) → is_some (node_at tree q) ≡ list_any (same_path q) (keys tree)
standing tree q = contains_key-keys tree q

module _ (tree : Tree) (formed : IsFormed tree) where
  closed : (d : Path) → IsClosed None (stripped d (keys tree))
  closed d = record {
    some = no_empty d (keys tree);
    heads_in = λ name next rest h.
        let stands = standing tree (d ++ name ∷ next ∷ rest) ∙ in_unstrip d (name ∷ next ∷ rest) (keys tree) h in
        let head = dir_stands (node_at tree (d ++ name ∷ [])) (dir_above tree formed (d ++ name ∷ []) next rest (ap (λ q. is_some (node_at tree q)) (append_assoc d (name ∷ []) (next ∷ rest)) ∙ stands)) in
        inr (in_strip d name [] (keys tree) (sym (standing tree (d ++ name ∷ [])) ∙ head));
  }

  grouped_below : (d : Path) → stripped d (keys tree) ≡ grouped (stripped d (keys tree)) (heads (stripped d (keys tree)))
  grouped_below d = in_groups None (stripped d (keys tree)) (rises_strip d (keys tree) (rises_keys tree)) (closed d) tt

-- ---- back to paths

add : {A : Type 0} (b : Bool) (x : A) (xs : List A) → List A
add b x xs = cond b (x ∷ xs) xs

unstrip : (d : Path) (paths : List Path) → map (λ r. d ++ r) (stripped d paths) ≡ filter (λ path. is_below path d) paths
unstrip d [] = refl
unstrip d (path ∷ paths) = by (is_below path d) refl (unstrip d paths)
  where
    by : (b : Bool) → is_below path d ≡ b → map (λ r. d ++ r) (stripped d paths) ≡ filter (λ path. is_below path d) paths
        → map (λ r. d ++ r) (cons_option (cond b (Some (drop (length d) path)) None) (stripped d paths)) ≡ cond b (path ∷ filter (λ path. is_below path d) paths) (filter (λ path. is_below path d) paths)
    by true e later = let is = strip_is d path e in λ i. sym is i ∷ later i
    by false e later = later

name_in-self : (d : Path) → name_in d (d ++ []) ≡ None
name_in-self d = rw (under-append d [], drop-front d []) refl

name_in-more : (d : Path) (name : List ℕ) (rest : Path) → name_in d (d ++ name ∷ rest) ≡ sole (name ∷ rest)
name_in-more d name [] = rw (under-append d (name ∷ []), drop-front d (name ∷ [])) refl
name_in-more d name (next ∷ rest) = rw (under-append d (name ∷ next ∷ rest), drop-front d (name ∷ next ∷ rest)) refl

-- the names of what is below are those of the entries
entry_names : (d : Path) (paths : List Path) → heads (stripped d paths) ≡ filter_map (name_in d) paths
entry_names d [] = refl
entry_names d (path ∷ paths) =
    let later = entry_names d paths in
    strip_case d path (λ o. heads (cons_option o (stripped d paths)) ≡ cons_option (name_in d path) (filter_map (name_in d) paths))
    (λ e. below_case e (drop (length d) path) refl later) (λ e. other_case e (is_under path d) refl later)
  where
    below_case : is_below path d ≡ true → (r : Path) → drop (length d) path ≡ r → heads (stripped d paths) ≡ filter_map (name_in d) paths → heads (drop (length d) path ∷ stripped d paths) ≡ cons_option (name_in d path) (filter_map (name_in d) paths)
    below_case e [] is later =
        let self : path ≡ d ++ [] = strip_is d path e ∙ ap (λ r. d ++ r) is in
        ap (λ r. heads (r ∷ stripped d paths)) is ∙ later ∙ sym (ap (λ o. cons_option o (filter_map (name_in d) paths)) (ap (name_in d) self ∙ name_in-self d))
    below_case e (name ∷ rest) is later =
        let more : path ≡ d ++ name ∷ rest = strip_is d path e ∙ ap (λ r. d ++ r) is in
        ap (λ r. heads (r ∷ stripped d paths)) is ∙ ap (λ l. cons_option (sole (name ∷ rest)) l) later
        ∙ sym (ap (λ o. cons_option o (filter_map (name_in d) paths)) (ap (name_in d) more ∙ name_in-more d name rest))

    none_at : (b : Bool) → is_under path d ≡ b → is_below path d ≡ false → name_in d path ≡ None
    none_at false u e = rw u refl
    none_at true u e = at_rest (drop (length d) path) (under-split path d u)
      where
        at_rest : (r : Path) → path ≡ d ++ r → name_in d path ≡ None
        at_rest [] is = ap (name_in d) is ∙ name_in-self d
        at_rest (name ∷ rest) is = absurd (untrue (sym e ∙ ap (λ p. is_below p d) is ∙ below_more d name rest))

    other_case : is_below path d ≡ false → (b : Bool) → is_under path d ≡ b → heads (stripped d paths) ≡ filter_map (name_in d) paths → heads (stripped d paths) ≡ cons_option (name_in d path) (filter_map (name_in d) paths)
    other_case e b u later = later ∙ sym (ap (λ o. cons_option o (filter_map (name_in d) paths)) (none_at b u e))

-- what is below an entry, by names and by paths
and_false : (a : Bool) → (a && false) ≡ false
and_false true = refl
and_false false = refl

and_true : (a : Bool) → (a && true) ≡ a
and_true true = refl
and_true false = refl

beyond-is : (d : Path) (name : List ℕ) (r : Path) → is_below (d ++ r) (child d name) ≡ is_beyond name r
beyond-is d name r = ap (λ b. b && not (is_under (d ++ name ∷ []) (d ++ r))) (under-beside d r (name ∷ [])) ∙ ap (λ b. is_under r (name ∷ []) && not b) (under-beside d (name ∷ []) r) ∙ by r
  where
    alone : (a : List ℕ) (b : Bool) → bytes_eq name a ≡ b → (bytes_eq name a && true && not (bytes_eq a name && true)) ≡ false
    alone a true e =
        let is = (bytes_decides name a).0 e in
        ap (λ b. bytes_eq name a && true && not (b && true)) ((bytes_decides a name).1 (sym is)) ∙ and_false (bytes_eq name a && true)
    alone a false e = ap (λ b. b && true && not (bytes_eq a name && true)) e

    by : (r : Path) → (is_under r (name ∷ []) && not (is_under (name ∷ []) r)) ≡ is_beyond name r
    by [] = refl
    by (a ∷ []) = alone a (bytes_eq name a) refl
    by (a ∷ next ∷ rest) = ap (λ b. bytes_eq name a && true && not b) (and_false (bytes_eq a name)) ∙ and_true (bytes_eq name a && true) ∙ and_true (bytes_eq name a)

-- and nothing else is
below_child : (d : Path) (name : List ℕ) (path : Path) → is_below path d ≡ false → is_below path (child d name) ≡ false
below_child d name path e = by_test (is_below path (child d name)) (λ h.
    let split = under-split path (child d name) (first_so (is_under path (child d name)) (not (is_under (child d name) path)) h) in
    let is : path ≡ d ++ name ∷ drop (length (child d name)) path = split ∙ append_assoc d (name ∷ []) (drop (length (child d name)) path) in
    untrue (sym e ∙ ap (λ p. is_below p d) is ∙ below_more d name (drop (length (child d name)) path)))

beyond_paths : (d : Path) (name : List ℕ) (paths : List Path) → map (λ r. d ++ r) (beyond name (stripped d paths)) ≡ filter (λ path. is_below path (child d name)) paths
beyond_paths d name [] = refl
beyond_paths d name (path ∷ paths) =
    let later = beyond_paths d name paths in
    strip_case d path (λ o. map (λ r. d ++ r) (beyond name (cons_option o (stripped d paths))) ≡ cond (is_below path (child d name)) (path ∷ filter (λ path. is_below path (child d name)) paths) (filter (λ path. is_below path (child d name)) paths))
    (λ e. here e (is_beyond name (drop (length d) path)) refl later)
    (λ e. later ∙ sym (ap (λ b. cond b (path ∷ filter (λ path. is_below path (child d name)) paths) (filter (λ path. is_below path (child d name)) paths)) (below_child d name path e)))
  where
    here : is_below path d ≡ true → (b : Bool) → is_beyond name (drop (length d) path) ≡ b → map (λ r. d ++ r) (beyond name (stripped d paths)) ≡ filter (λ path. is_below path (child d name)) paths
        → map (λ r. d ++ r) (cond (is_beyond name (drop (length d) path)) (drop (length d) path ∷ beyond name (stripped d paths)) (beyond name (stripped d paths)))
        ≡ cond (is_below path (child d name)) (path ∷ filter (λ path. is_below path (child d name)) paths) (filter (λ path. is_below path (child d name)) paths)
    here e b s later =
        let same_test : is_below path (child d name) ≡ b = ap (λ p. is_below p (child d name)) (strip_is d path e) ∙ beyond-is d name (drop (length d) path) ∙ s in
        ap (λ t. map (λ r. d ++ r) (cond t (drop (length d) path ∷ beyond name (stripped d paths)) (beyond name (stripped d paths)))) s
        ∙ by b ∙ sym (ap (λ t. cond t (path ∷ filter (λ path. is_below path (child d name)) paths) (filter (λ path. is_below path (child d name)) paths)) same_test)
      where
        by : (b : Bool) → map (λ r. d ++ r) (cond b (drop (length d) path ∷ beyond name (stripped d paths)) (beyond name (stripped d paths)))
            ≡ cond b (path ∷ filter (λ path. is_below path (child d name)) paths) (filter (λ path. is_below path (child d name)) paths)
        by true = let is = strip_is d path e in λ i. sym is i ∷ later i
        by false = later

map_groups : (d : Path) (paths : List Path) (names : List (List ℕ)) → map (λ r. d ++ r) (grouped (stripped d paths) names) ≡ flat_map (λ name. child d name ∷ filter (λ path. is_below path (child d name)) paths) names
map_groups d paths [] = refl
map_groups d paths (name ∷ names) =
    map-append (λ r. d ++ r) ((name ∷ []) ∷ beyond name (stripped d paths)) (grouped (stripped d paths) names)
    ∙ ap (λ b. (child d name ∷ b) ++ map (λ r. d ++ r) (grouped (stripped d paths) names)) (beyond_paths d name paths)
    ∙ ap (λ l. (child d name ∷ filter (λ path. is_below path (child d name)) paths) ++ l) (map_groups d paths names)

-- what is below a directory: each entry, and what is below it
pub below_entries : (tree : Tree) → IsFormed tree → (d : Path) → paths_below tree d ≡ flat_map (λ name. child d name ∷ paths_below tree (child d name)) (children tree d)
below_entries tree formed d =
    sym (unstrip d (keys tree)) ∙ ap (map (λ r. d ++ r)) (grouped_below tree formed d) ∙ map_groups d (keys tree) (heads (stripped d (keys tree)))
    ∙ ap (flat_map (λ name. child d name ∷ paths_below tree (child d name))) (entry_names d (keys tree))

-- below what is no directory there is nothing
pub below_leaf : (tree : Tree) → IsFormed tree → (d : Path) → is_dir (node_at tree d) ≡ false → paths_below tree d ≡ []
below_leaf tree formed d leaf = sym (unstrip d (keys tree)) ∙ ap (map (λ r. d ++ r)) (none (stripped d (keys tree)) refl)
  where
    none : (paths : List Path) → stripped d (keys tree) ≡ paths → stripped d (keys tree) ≡ []
    none [] e = e
    none ([] ∷ paths) e = absurd (no_empty d (keys tree) (ap (list_any (same_path [])) e))
    none ((name ∷ rest) ∷ paths) e =
        let here : is_in (name ∷ rest) (stripped d (keys tree)) = ap (list_any (same_path (name ∷ rest))) e ∙ ap (λ b. b || list_any (same_path (name ∷ rest)) paths) (same_path-refl (name ∷ rest)) in
        absurd (untrue (sym leaf ∙ dir_above tree formed d name rest (standing tree (d ++ name ∷ rest) ∙ in_unstrip d (name ∷ rest) (keys tree) here)))
