-- Paths in order, and directories that go once they are empty, the deepest first.
use Rattle.std.proofs.Common.{◌≡◌, Bool, true, false, cond, ◌&&◌, ◌||◌, not, List, [], ◌∷◌, ◌++◌, map, Option, Some, None, is_some, refl, sym, ap, ◌∙◌, subst}
use Rattle.std.proofs.lemmas.Grind.{reverse_onto}
use Rattle.std.specs.Prelude.{T, bytes_eq, reverse, filter, flat_map}
use Rattle.std.specs.declared.cmp.Ordering.{Ordering}
use Rattle.std.specs.declared.cmp.Ordering.TheVariants.{Less, Equal, Greater}
use Rattle.std.specs.Ordering.{is_lt, nat_cmp, ordering_then}
use Rattle.std.specs.List.{list_any, AllByRecursion}
use Rattle.std.specs.FinMap.{entries, entries_sorted, from_entries, keys, remove, contains_key-keys}
use Rattle.std.specs.FinMap.Entries.{is_sorted, below_all}
use Rattle.std.specs.Cmp.{first_so, second_so, tied_itself}
use Rattle.std.specs.Cmp.Lexicographic.{slice_cmp, bytes_decides, nat_list_cmp_total}
use Rattle.kb_world.specs.Path.{Path, path_cmp, is_under}
use Rattle.kb_world.specs.Tree.{Tree, node_at, is_dir}
use Rattle.kb_world.specs.TreeLaws.{paths_total, same_path, same_path-true, same_path-refl, node_at-remove}
use Rattle.kb_world.specs.Roots.{is_below}
use Rattle.kb_world.specs.declared.tree.Node.{Node}
use Rattle.kb_world.specs.declared.tree.Node.TheVariants as node
use Rattle.kb_world.specs.Patch.{Patch, above, emptied_of, in_order, patched, is_listed, tidied, all_tidied, come_at}
use Rattle.kb_world.specs.declared.roots.Roots.{Roots}
use Rattle.kb_world.proofs.AboveLaws.{all-append, each-listed}
use Rattle.kb_world.proofs.PatchLaws.{tidied-apart, all_tidied-apart, come, come-at}
use Rattle.kb_world.proofs.PathLaws.{by_test, under-self}

-- ---- what is in order rises

-- each path is before those after it
abbrev pub IsRising : List Path → Type 0
IsRising [] = Unit {0}
IsRising (path ∷ paths) = AllByRecursion (λ later. path_cmp path later ≡ Less) paths × IsRising paths

both_hold : (a b : Bool) → T (a && b) → (a ≡ true) × T b
both_hold true b h = (refl, h)
both_hold false b h = absurd h

less : (order : Ordering) → is_lt order ≡ true → order ≡ Less
less Less e = refl
less Equal e = let impossible : true ≡ false = sym e in absurd (cc)
less Greater e = let impossible : true ≡ false = sym e in absurd (cc)

all_above : (path : Path) (es : List (Path × Node)) → T (below_all path_cmp path es) → AllByRecursion (λ other. path_cmp path other ≡ Less) (map (λ e. e.0) es)
all_above path [] h = tt
all_above path (e ∷ es) h = let split = both_hold (is_lt (path_cmp path e.0)) (below_all path_cmp path es) h in (less (path_cmp path e.0) split.0, all_above path es split.1)

keys_rise : (es : List (Path × Node)) → T (is_sorted path_cmp es) → IsRising (map (λ e. e.0) es)
keys_rise [] h = tt
keys_rise (e ∷ es) h = (all_above e.0 es (both_true_so (below_all path_cmp e.0 es) (is_sorted path_cmp es) h), keys_rise es (both_hold (below_all path_cmp e.0 es) (is_sorted path_cmp es) h).1)
  where
    both_true_so : (a b : Bool) → T (a && b) → T a
    both_true_so true b h = tt
    both_true_so false b h = h

-- the paths of a tree rise
pub tree_rises : (tree : Tree) → IsRising (keys tree)
tree_rises tree = keys_rise (entries tree) (entries_sorted tree)

pub in_order_rises : (paths : List Path) → IsRising (in_order paths)
in_order_rises paths = let made : Tree = from_entries (map (λ path. (path, node.Dir)) paths) in tree_rises made

-- a path stands before those below it
pub below-rises : (path directory : Path) → is_below path directory ≡ true → path_cmp directory path ≡ Less
below-rises [] [] h = let impossible : true ≡ false = sym h in absurd (cc)
below-rises (m ∷ path) [] h = refl
below-rises [] (n ∷ directory) h = let impossible : true ≡ false = sym h in absurd (cc)
below-rises (m ∷ path) (n ∷ directory) h =
    let is : n ≡ m = (bytes_decides n m).0 (first_so (bytes_eq n m) (is_under path directory) (first_so (is_under (m ∷ path) (n ∷ directory)) _ h)) in
    let later : is_below path directory ≡ true =
    sym (ap (λ b. (b && is_under path directory) && not (bytes_eq m n && is_under directory path)) ((bytes_decides n m).1 is)
    ∙ ap (λ b. is_under path directory && not (b && is_under directory path)) ((bytes_decides m n).1 (sym is))) ∙ h in
    ap (λ o. ordering_then o (slice_cmp (slice_cmp nat_cmp) directory path)) (ap (slice_cmp nat_cmp n) (sym is) ∙ tied_itself nat_list_cmp_total n) ∙ below-rises path directory later

-- ---- the deepest first

-- each path is behind those after it
abbrev pub IsFalling : List Path → Type 0
IsFalling [] = Unit {0}
IsFalling (path ∷ paths) = AllByRecursion (λ later. path_cmp later path ≡ Less) paths × IsFalling paths

falling-append : (paths : List Path) (path : Path) → IsFalling paths → AllByRecursion (λ other. path_cmp path other ≡ Less) paths → IsFalling (paths ++ path ∷ [])
falling-append [] path f above = (tt, tt)
falling-append (other ∷ paths) path f above =
    (all-append (λ later. path_cmp later other ≡ Less) paths (path ∷ []) f.0 (above.0, tt), falling-append paths path f.1 above.1)

all_reversed : (P : Path → Type 0) (paths : List Path) → AllByRecursion P paths → AllByRecursion P (reverse paths)
all_reversed P [] p = tt
all_reversed P (path ∷ paths) p = subst (AllByRecursion P) (sym (reverse_onto paths path [])) (all-append P (reverse paths) (path ∷ []) (all_reversed P paths p.1) (p.0, tt))

pub reverse-falls : (paths : List Path) → IsRising paths → IsFalling (reverse paths)
reverse-falls [] s = tt
reverse-falls (path ∷ paths) s =
    subst IsFalling (sym (reverse_onto paths path [])) (falling-append (reverse paths) path (reverse-falls paths s.1) (all_reversed (λ other. path_cmp path other ≡ Less) paths s.0))

-- what is behind isn't before
pub less-once : (a b : Path) → path_cmp a b ≡ Less → path_cmp b a ≡ Less → ⊥
less-once a b one two = let none : path_cmp a a ≡ Less = paths_total.trans a b a one two in let impossible : Equal ≡ Less = sym (tied_itself paths_total a) ∙ none in cc

-- no path after it is that path, nor below it
pub later-apart : (path : Path) (paths : List Path) → AllByRecursion (λ later. path_cmp later path ≡ Less) paths → (other : Path) → (same_path other path || is_below other path) ≡ true → is_listed other paths ≡ false
later-apart path paths falls other near = by_test (is_listed other paths) (λ listed.
    let before = each-listed (λ later. path_cmp later path ≡ Less) paths falls other listed in by (same_path other path) refl near before)
  where
    by : (b : Bool) → same_path other path ≡ b → (b || is_below other path) ≡ true → path_cmp other path ≡ Less → ⊥
    by true s near before =
        let impossible : Equal ≡ Less = sym (tied_itself paths_total path) ∙ ap (λ p. path_cmp p path) (sym (same_path-true other path s)) ∙ before in cc
    by false s near before = less-once other path before (below-rises other path near)

-- ---- what is left below a path

or_right : (a b : Bool) → b ≡ true → (a || b) ≡ true
or_right true b e = refl
or_right false b e = e

pub any-found : (test : Path → Bool) (paths : List Path) → list_any test paths ≡ true → (path : Path) × (test path ≡ true) × (is_listed path paths ≡ true)
any-found test [] e = let impossible : true ≡ false = sym e in absurd (cc)
any-found test (p ∷ paths) e = by (test p) refl (λ later. any-found test paths later)
  where
    by : (b : Bool) → test p ≡ b → (list_any test paths ≡ true → (path : Path) × (test path ≡ true) × (is_listed path paths ≡ true)) → (path : Path) × (test path ≡ true) × (is_listed path (p ∷ paths) ≡ true)
    by true h more = (p, h, ap (λ b. b || is_listed p paths) (same_path-refl p))
    by false h more = let found = more (sym (ap (λ b. b || list_any test paths) h) ∙ e) in (found.0, found.1, or_right (same_path found.0 p) (is_listed found.0 paths) found.2)

pub any-of : (test : Path → Bool) (paths : List Path) (path : Path) → test path ≡ true → is_listed path paths ≡ true → list_any test paths ≡ true
any-of test [] path h e = let impossible : true ≡ false = sym e in absurd (cc)
any-of test (p ∷ paths) path h e = by (same_path path p) refl (λ later. any-of test paths path h later)
  where
    by : (b : Bool) → same_path path p ≡ b → (is_listed path paths ≡ true → list_any test paths ≡ true) → list_any test (p ∷ paths) ≡ true
    by true s more = ap (λ b. b || list_any test paths) (ap test (sym (same_path-true path p s)) ∙ h)
    by false s more = or_right (test p) (list_any test paths) (more (sym (ap (λ b. b || is_listed path paths) s) ∙ e))

-- trees at whose tested paths the same stands have such paths alike
pub same-any : (test : Path → Bool) (a b : Tree) → ((path : Path) → test path ≡ true → is_some (node_at a path) ≡ is_some (node_at b path)) → list_any test (keys a) ≡ list_any test (keys b)
same-any test a b alike = same_bool (list_any test (keys a)) (list_any test (keys b)) (one_way a b alike) (one_way b a (λ path h. sym (alike path h)))
  where
    one_way : (s t : Tree) → ((path : Path) → test path ≡ true → is_some (node_at s path) ≡ is_some (node_at t path)) → list_any test (keys s) ≡ true → list_any test (keys t) ≡ true
    one_way s t same e =
        let found = any-found test (keys s) e in
        any-of test (keys t) found.0 found.1 (sym (contains_key-keys t found.0) ∙ sym (same found.0 found.1) ∙ contains_key-keys s found.0 ∙ found.2)

    same_bool : (x y : Bool) → (x ≡ true → y ≡ true) → (y ≡ true → x ≡ true) → x ≡ y
    same_bool true y f g = sym (f refl)
    same_bool false true f g = g refl
    same_bool false false f g = refl

abbrev pub has_below : Path → Tree → Bool
has_below path tree = list_any (λ other. is_below other path) (keys tree)

pub below-other : (other path : Path) → is_below other path ≡ true → same_path other path ≡ false
below-other other path h = by_test (same_path other path) (λ s.
    let impossible : true ≡ false = sym (under-self path) ∙ ap (is_under path) (sym (same_path-true other path s)) ∙ not_true (is_under path other) (second_so (is_under other path) _ h) in cc)
  where
    not_true : (b : Bool) → not b ≡ true → b ≡ false
    not_true true e = let impossible : true ≡ false = sym e in absurd (cc)
    not_true false e = refl

-- a directory that is tidied stands afterwards where something is left in it
tidied-left : (path : Path) (tree : Tree) → is_dir (node_at tree path) ≡ true → is_some (node_at (tidied path tree) path) ≡ has_below path (tidied path tree)
tidied-left path tree dir =
    by (has_below path tree) (ap (λ b. is_some (node_at (cond (b && not (has_below path tree)) (remove tree path) tree) path)) dir)
    ∙ same-any (λ other. is_below other path) tree (tidied path tree) (λ other h. ap is_some (sym (tidied-apart path tree other (below-other other path h))))
  where
    stands : (at : Option Node) → is_dir at ≡ true → is_some at ≡ true
    stands None e = e
    stands (Some at) e = refl

    by : (any : Bool) → is_some (node_at (tidied path tree) path) ≡ is_some (node_at (cond (not any) (remove tree path) tree) path) → is_some (node_at (tidied path tree) path) ≡ any
    by true e = e ∙ stands (node_at tree path) dir
    by false e = e ∙ ap is_some (node_at-remove tree path path ∙ ap (λ b. cond b None (node_at tree path)) (same_path-refl path))

pub all_tidied-left : (paths : List Path) (tree : Tree) (path : Path) → IsFalling paths → is_listed path paths ≡ true → is_dir (node_at tree path) ≡ true → is_some (node_at (all_tidied paths tree) path) ≡ has_below path (all_tidied paths tree)
all_tidied-left [] tree path falls listed dir = let impossible : true ≡ false = sym listed in absurd (cc)
all_tidied-left (p ∷ paths) tree path falls listed dir = by (same_path path p) refl (λ later stays. all_tidied-left paths (tidied p tree) path falls.1 later stays)
  where
    by : (b : Bool) → same_path path p ≡ b
        → (is_listed path paths ≡ true → is_dir (node_at (tidied p tree) path) ≡ true → is_some (node_at (all_tidied paths (tidied p tree)) path) ≡ has_below path (all_tidied paths (tidied p tree)))
        → is_some (node_at (all_tidied paths (tidied p tree)) path) ≡ has_below path (all_tidied paths (tidied p tree))
    by false s more = more (sym (ap (λ b. b || is_listed path paths) s) ∙ listed) (ap is_dir (tidied-apart p tree path s) ∙ dir)
    by true s more =
        let is = same_path-true path p s in
        subst (λ q. is_some (node_at (all_tidied paths (tidied p tree)) q) ≡ has_below q (all_tidied paths (tidied p tree))) (sym is)
        (ap is_some (all_tidied-apart paths (tidied p tree) p (later-apart p paths falls.0 p (ap (λ b. b || is_below p p) (same_path-refl p))))
        ∙ tidied-left p tree (ap (λ q. is_dir (node_at tree q)) (sym is) ∙ dir)
        ∙ same-any (λ other. is_below other p) (tidied p tree) (all_tidied paths (tidied p tree))
        (λ other h. ap is_some (sym (all_tidied-apart paths (tidied p tree) other (later-apart p paths falls.0 other (or_right (same_path other p) (is_below other p) h))))))

-- of the directories that a patch would leave empty, those stand afterwards in which something is left
pub patched-empty : (roots : Roots) (patch : Patch) (tree : Tree) (path : Path) → is_listed path (emptied_of roots patch) ≡ true → is_dir (come_at roots patch tree path) ≡ true
    → is_some (node_at (patched roots patch tree) path) ≡ has_below path (patched roots patch tree)
unfolding patched
patched-empty roots patch tree path listed dir =
    all_tidied-left (emptied_of roots patch) (come roots patch tree) path (reverse-falls (in_order sources) (in_order_rises sources)) listed (ap is_dir (come-at roots patch tree path) ∙ dir)
  where
    sources : List Path
    sources = flat_map (above roots) (filter (λ path. is_under path roots.dkms) (patch.drops ++ patch.wipes))
