-- What stands at a path after a patch.
use Rattle.std.proofs.Common.{◌≡◌, ℕ, Bool, true, false, cond, ◌&&◌, ◌||◌, not, List, [], ◌∷◌, ◌++◌, Option, Some, None, is_some, refl, sym, ap, ◌∙◌}
use Rattle.std.specs.List.{list_any}
use Rattle.std.specs.Option.{option_or}
use Rattle.std.specs.FinMap.{keys, remove}
use Rattle.kb_world.specs.Path.{Path, is_under}
use Rattle.kb_world.specs.Tree.{Tree, node_at, with_node, without, is_leaf, is_dir}
use Rattle.kb_world.specs.TreeLaws.{same_path, same_path-true, node_at-with_node, node_at-remove, node_at-retain, same_tree}
use Rattle.kb_world.specs.Roots.{is_below}
use Rattle.kb_world.specs.declared.roots.Roots.{Roots}
use Rattle.kb_world.specs.declared.tree.Node.{Node}
use Rattle.kb_world.specs.declared.tree.Node.TheVariants as node
use Rattle.kb_world.specs.Patch.{Patch, dirs_of, emptied_of, dropped, wiped, with_directory, tidied, all_dropped, all_wiped, with_directories, with_nodes, all_tidied, patched, is_listed, put_at, touches, left_at, come_at}
use Rattle.kb_world.specs.Index.{index_paths, indexing}
use Rattle.kb_world.proofs.ListedLaws.{or_first, or_second, listed-append}

-- ---- what goes

pub dropped-at : (p : Path) (tree : Tree) (q : Path) → node_at (dropped p tree) q ≡ cond (same_path q p && is_leaf (node_at tree q)) None (node_at tree q)
dropped-at p tree q = by (same_path q p) (is_leaf (node_at tree p)) refl refl
  where
    by : (s l : Bool) → same_path q p ≡ s → is_leaf (node_at tree p) ≡ l → node_at (dropped p tree) q ≡ cond (same_path q p && is_leaf (node_at tree q)) None (node_at tree q)
    by true l s h =
        let here : is_leaf (node_at tree q) ≡ l = ap (λ x. is_leaf (node_at tree x)) (same_path-true q p s) ∙ h in
        ap (λ b. node_at (cond b (without p tree) tree) q) h ∙ at l ∙ sym (ap (λ b. cond (b && is_leaf (node_at tree q)) None (node_at tree q)) s ∙ ap (λ b. cond b None (node_at tree q)) here)
      where
        at : (b : Bool) → node_at (cond b (without p tree) tree) q ≡ cond b None (node_at tree q)
        at true = node_at-remove tree p q ∙ ap (λ b. cond b None (node_at tree q)) s
        at false = refl
    by false l s h = at (is_leaf (node_at tree p)) ∙ sym (ap (λ b. cond (b && is_leaf (node_at tree q)) None (node_at tree q)) s)
      where
        at : (b : Bool) → node_at (cond b (without p tree) tree) q ≡ node_at tree q
        at true = node_at-remove tree p q ∙ ap (λ b. cond b None (node_at tree q)) s
        at false = refl

pub all_dropped-at : (paths : List Path) (tree : Tree) (q : Path) → node_at (all_dropped paths tree) q ≡ cond (is_listed q paths && is_leaf (node_at tree q)) None (node_at tree q)
all_dropped-at [] tree q = refl
all_dropped-at (p ∷ paths) tree q =
    all_dropped-at paths (dropped p tree) q ∙ ap (λ at. cond (is_listed q paths && is_leaf at) None at) (dropped-at p tree q) ∙ join (same_path q p) (is_listed q paths) (node_at tree q) (is_leaf (node_at tree q)) refl
  where
    join : (a b : Bool) (at : Option Node) (l : Bool) → is_leaf at ≡ l → cond (b && is_leaf (cond (a && is_leaf at) None at)) None (cond (a && is_leaf at) None at) ≡ cond ((a || b) && is_leaf at) None at
    join false b at l e = refl
    join true false at l e = refl
    join true true at true e =
        ap (λ x. cond (is_leaf (cond x None at)) None (cond x None at)) e ∙ sym (ap (λ x. cond x None at) e)
    join true true at false e =
        ap (λ x. cond (is_leaf (cond x None at)) None (cond x None at)) e

pub all_wiped-at : (paths : List Path) (tree : Tree) (q : Path) → node_at (all_wiped paths tree) q ≡ cond (list_any (is_under q) paths) None (node_at tree q)
all_wiped-at [] tree q = refl
all_wiped-at (p ∷ paths) tree q =
    all_wiped-at paths (wiped p tree) q ∙ ap (λ at. cond (list_any (is_under q) paths) None at) (node_at-retain tree (λ other. not (is_under other p)) q)
    ∙ join (is_under q p) (list_any (is_under q) paths)
  where
    join : (a b : Bool) → cond b None (cond (not a) (node_at tree q) None) ≡ cond (a || b) None (node_at tree q)
    join true true = refl
    join true false = refl
    join false b = refl

-- ---- what comes

pub directory-at : (p : Path) (tree : Tree) (q : Path) → node_at (with_directory p tree) q ≡ option_or (node_at tree q) (cond (same_path q p) (Some node.Dir) None)
directory-at p tree q = by (same_path q p) (node_at tree p) refl refl
  where
    by : (s : Bool) (at : Option Node) → same_path q p ≡ s → node_at tree p ≡ at → node_at (with_directory p tree) q ≡ option_or (node_at tree q) (cond (same_path q p) (Some node.Dir) None)
    by true None s h =
        let here : node_at tree q ≡ None = ap (node_at tree) (same_path-true q p s) ∙ h in
        ap (λ o. node_at (cond (is_some o) tree (with_node p node.Dir tree)) q) h ∙ node_at-with_node tree p node.Dir q ∙ ap (λ b. cond b (Some node.Dir) (node_at tree q)) s
        ∙ sym (ap (λ o. option_or o (cond (same_path q p) (Some node.Dir) None)) here ∙ ap (λ b. cond b (Some node.Dir) None) s)
    by true (Some n) s h =
        let here : node_at tree q ≡ Some n = ap (node_at tree) (same_path-true q p s) ∙ h in
        ap (λ o. node_at (cond (is_some o) tree (with_node p node.Dir tree)) q) h ∙ here ∙ sym (ap (λ o. option_or o (cond (same_path q p) (Some node.Dir) None)) here)
    by false at s h = apart (is_some (node_at tree p)) ∙ sym (ap (λ b. option_or (node_at tree q) (cond b (Some node.Dir) None)) s ∙ or_none (node_at tree q))
      where
        apart : (b : Bool) → node_at (cond b tree (with_node p node.Dir tree)) q ≡ node_at tree q
        apart true = refl
        apart false = node_at-with_node tree p node.Dir q ∙ ap (λ b. cond b (Some node.Dir) (node_at tree q)) s

        or_none : (o : Option Node) → option_or o None ≡ o
        or_none None = refl
        or_none (Some n) = refl

pub with_directories-at : (paths : List Path) (tree : Tree) (q : Path) → node_at (with_directories paths tree) q ≡ option_or (node_at tree q) (cond (is_listed q paths) (Some node.Dir) None)
with_directories-at [] tree q = as_it_is (node_at tree q)
  where
    as_it_is : (o : Option Node) → o ≡ option_or o None
    as_it_is None = refl
    as_it_is (Some n) = refl
with_directories-at (p ∷ paths) tree q =
    with_directories-at paths (with_directory p tree) q ∙ ap (λ o. option_or o (cond (is_listed q paths) (Some node.Dir) None)) (directory-at p tree q) ∙ join (same_path q p) (is_listed q paths) (node_at tree q)
  where
    join : (a b : Bool) (at : Option Node) → option_or (option_or at (cond a (Some node.Dir) None)) (cond b (Some node.Dir) None) ≡ option_or at (cond (a || b) (Some node.Dir) None)
    join a b (Some n) = refl
    join true b None = refl
    join false b None = refl

-- the order of directories, and how often each is listed, is no matter
pub with_directories-same : (a b : List Path) (tree : Tree) → ((q : Path) → is_listed q a ≡ is_listed q b) → with_directories a tree ≡ with_directories b tree
with_directories-same a b tree alike =
    same_tree (with_directories a tree) (with_directories b tree) (λ q.
    with_directories-at a tree q ∙ ap (λ l. option_or (node_at tree q) (cond l (Some node.Dir) None)) (alike q) ∙ sym (with_directories-at b tree q))

pub with_nodes-at : (puts : List (Path × Node)) (tree : Tree) (q : Path) → node_at (with_nodes puts tree) q ≡ option_or (put_at q puts) (node_at tree q)
with_nodes-at [] tree q = refl
with_nodes-at (put ∷ puts) tree q =
    with_nodes-at puts (with_node put.0 put.1 tree) q ∙ ap (λ o. option_or (put_at q puts) o) (node_at-with_node tree put.0 put.1 q) ∙ join (same_path q put.0) (put_at q puts)
  where
    join : (a : Bool) (o : Option Node) → option_or o (cond a (Some put.1) (node_at tree q)) ≡ option_or (option_or o (cond a (Some put.1) None)) (node_at tree q)
    join a (Some n) = refl
    join true None = refl
    join false None = refl

-- ---- what goes once it is empty

pub tidied-apart : (p : Path) (tree : Tree) (q : Path) → same_path q p ≡ false → node_at (tidied p tree) q ≡ node_at tree q
tidied-apart p tree q apart = by (is_dir (node_at tree p) && not (list_any (λ other. is_below other p) (keys tree)))
  where
    by : (b : Bool) → node_at (cond b (remove tree p) tree) q ≡ node_at tree q
    by true = node_at-remove tree p q ∙ ap (λ b. cond b None (node_at tree q)) apart
    by false = refl

pub all_tidied-apart : (paths : List Path) (tree : Tree) (q : Path) → is_listed q paths ≡ false → node_at (all_tidied paths tree) q ≡ node_at tree q
all_tidied-apart [] tree q e = refl
all_tidied-apart (p ∷ paths) tree q e = all_tidied-apart paths (tidied p tree) q (or_second _ _ e) ∙ tidied-apart p tree q (or_first _ (is_listed q paths) e)

-- only a directory goes
pub tidied-firm : (p : Path) (tree : Tree) (q : Path) → is_dir (node_at tree q) ≡ false → node_at (tidied p tree) q ≡ node_at tree q
tidied-firm p tree q firm = by (same_path q p) refl
  where
    by : (s : Bool) → same_path q p ≡ s → node_at (tidied p tree) q ≡ node_at tree q
    by true s =
        ap (λ b. node_at (cond (b && not (list_any (λ other. is_below other p) (keys tree))) (remove tree p) tree) q) (ap (λ x. is_dir (node_at tree x)) (sym (same_path-true q p s)) ∙ firm)
    by false s = tidied-apart p tree q s

pub all_tidied-firm : (paths : List Path) (tree : Tree) (q : Path) → is_dir (node_at tree q) ≡ false → node_at (all_tidied paths tree) q ≡ node_at tree q
all_tidied-firm [] tree q firm = refl
all_tidied-firm (p ∷ paths) tree q firm =
    let here = tidied-firm p tree q firm in
    all_tidied-firm paths (tidied p tree) q (ap is_dir here ∙ firm) ∙ here

-- ---- the whole

-- the tree before the directories that are left empty go
abbrev pub come : Roots → Patch → Tree → Tree
come roots patch tree = with_nodes patch.puts (with_directories (dirs_of roots patch) (all_wiped patch.wipes (all_dropped patch.drops tree)))

pub gone-at : (patch : Patch) (tree : Tree) (q : Path) → node_at (all_wiped patch.wipes (all_dropped patch.drops tree)) q ≡ left_at patch tree q
gone-at patch tree q =
    all_wiped-at patch.wipes (all_dropped patch.drops tree) q ∙ ap (λ at. cond (list_any (is_under q) patch.wipes) None at) (all_dropped-at patch.drops tree q)
    ∙ join (list_any (is_under q) patch.wipes) (is_listed q patch.drops && is_leaf (node_at tree q))
  where
    join : (a b : Bool) → cond a None (cond b None (node_at tree q)) ≡ cond (a || b) None (node_at tree q)
    join true b = refl
    join false b = refl

pub come-at : (roots : Roots) (patch : Patch) (tree : Tree) (q : Path) → node_at (come roots patch tree) q ≡ come_at roots patch tree q
come-at roots patch tree q =
    with_nodes-at patch.puts _ q
    ∙ ap (λ o. option_or (put_at q patch.puts) o) (with_directories-at (dirs_of roots patch) _ q ∙ ap (λ o. option_or o (cond (is_listed q (dirs_of roots patch)) (Some node.Dir) None)) (gone-at patch tree q))

pub patched-come : (roots : Roots) (patch : Patch) (tree : Tree) (q : Path) → is_listed q (emptied_of roots patch) ≡ false → node_at (patched roots patch tree) q ≡ come_at roots patch tree q
unfolding patched
patched-come roots patch tree q e = all_tidied-apart (emptied_of roots patch) (come roots patch tree) q e ∙ come-at roots patch tree q

pub patched-firm : (roots : Roots) (patch : Patch) (tree : Tree) (q : Path) → is_dir (come_at roots patch tree q) ≡ false → node_at (patched roots patch tree) q ≡ come_at roots patch tree q
unfolding patched
patched-firm roots patch tree q firm =
    let is = come-at roots patch tree q in
    all_tidied-firm (emptied_of roots patch) (come roots patch tree) q (ap is_dir is ∙ firm) ∙ is

no_put : (o : Option Node) → is_some o ≡ false → o ≡ None
no_put None e = refl
no_put (Some n) e = let impossible : true ≡ false = e in absurd (cc)

-- what the patch doesn't name stands as it stood
pub patched-apart : (roots : Roots) (patch : Patch) (tree : Tree) (q : Path) → touches roots patch q ≡ false → node_at (patched roots patch tree) q ≡ node_at tree q
patched-apart roots patch tree q e =
    let e1 = or_second (is_listed q patch.drops) _ e in
    let e2 = or_second (list_any (is_under q) patch.wipes) _ e1 in
    let e3 = or_second (is_listed q (dirs_of roots patch)) _ e2 in
    let none = no_put (put_at q patch.puts) (or_first _ (is_listed q (emptied_of roots patch)) e3) in
    patched-come roots patch tree q (or_second (is_some (put_at q patch.puts)) _ e3)
    ∙ ap (λ o. option_or o (option_or (left_at patch tree q) (cond (is_listed q (dirs_of roots patch)) (Some node.Dir) None))) none
    ∙ ap (λ b. option_or (left_at patch tree q) (cond b (Some node.Dir) None)) (or_first (is_listed q (dirs_of roots patch)) _ e2)
    ∙ ap (λ b. option_or (cond (b || is_listed q patch.drops && is_leaf (node_at tree q)) None (node_at tree q)) None) (or_first (list_any (is_under q) patch.wipes) _ e1)
    ∙ ap (λ b. option_or (cond (b && is_leaf (node_at tree q)) None (node_at tree q)) None) (or_first (is_listed q patch.drops) _ e)
    ∙ as_it_is (node_at tree q)
  where
    as_it_is : (o : Option Node) → option_or o None ≡ o
    as_it_is None = refl
    as_it_is (Some n) = refl

-- what the patch puts stands
pub patched-put : (roots : Roots) (patch : Patch) (tree : Tree) (q : Path) (at : Node) → put_at q patch.puts ≡ Some at → is_leaf (Some at) ≡ true → node_at (patched roots patch tree) q ≡ Some at
patched-put roots patch tree q at put leaf =
    let is : come_at roots patch tree q ≡ Some at = ap (λ o. option_or o (option_or (left_at patch tree q) (cond (is_listed q (dirs_of roots patch)) (Some node.Dir) None))) put in
    patched-firm roots patch tree q (ap is_dir is ∙ firm (is_dir (Some at)) leaf) ∙ is
  where
    firm : (d : Bool) → (true && not d) ≡ true → d ≡ false
    firm true e = let impossible : true ≡ false = sym e in absurd (cc)
    firm false e = refl

-- where nothing is left and nothing comes, nothing stands
pub patched-gone : (roots : Roots) (patch : Patch) (tree : Tree) (q : Path) → left_at patch tree q ≡ None → put_at q patch.puts ≡ None → is_listed q (dirs_of roots patch) ≡ false → node_at (patched roots patch tree) q ≡ None
patched-gone roots patch tree q gone put dir =
    let is : come_at roots patch tree q ≡ None =
    ap (λ o. option_or o (option_or (left_at patch tree q) (cond (is_listed q (dirs_of roots patch)) (Some node.Dir) None))) put
    ∙ ap (λ o. option_or o (cond (is_listed q (dirs_of roots patch)) (Some node.Dir) None)) gone ∙ ap (λ b. cond b (Some node.Dir) None) dir in
    patched-firm roots patch tree q (ap is_dir is) ∙ is

-- a directory that is made stands, where no file or link is in its way
pub patched-dir : (roots : Roots) (patch : Patch) (tree : Tree) (q : Path) → is_listed q (dirs_of roots patch) ≡ true → is_leaf (left_at patch tree q) ≡ false → put_at q patch.puts ≡ None
    → is_listed q (emptied_of roots patch) ≡ false → node_at (patched roots patch tree) q ≡ Some node.Dir
patched-dir roots patch tree q dir free put stays =
    patched-come roots patch tree q stays
    ∙ ap (λ o. option_or o (option_or (left_at patch tree q) (cond (is_listed q (dirs_of roots patch)) (Some node.Dir) None))) put
    ∙ ap (λ b. option_or (left_at patch tree q) (cond b (Some node.Dir) None)) dir ∙ by (left_at patch tree q) free
  where
    by : (at : Option Node) → is_leaf at ≡ false → option_or at (Some node.Dir) ≡ Some node.Dir
    by None e = refl
    by (Some node.Dir) e = refl
    by (Some (node.File bytes exec)) e = let impossible : true ≡ false = e in absurd (cc)
    by (Some (node.Link text)) e = let impossible : true ≡ false = e in absurd (cc)

-- ---- an index

-- where no file or link stands, none stands once a directory is tidied
all_tidied-leafless : (paths : List Path) (tree : Tree) (q : Path) → is_leaf (node_at tree q) ≡ false → is_leaf (node_at (all_tidied paths tree) q) ≡ false
all_tidied-leafless [] tree q none = none
all_tidied-leafless (p ∷ paths) tree q none = all_tidied-leafless paths (tidied p tree) q (by (is_dir (node_at tree p) && not (list_any (λ other. is_below other p) (keys tree))) (same_path q p) refl)
  where
    by : (b s : Bool) → same_path q p ≡ s → is_leaf (node_at (cond b (remove tree p) tree) q) ≡ false
    by false s e = none
    by true true e = ap is_leaf (node_at-remove tree p q ∙ ap (λ b. cond b None (node_at tree q)) e)
    by true false e = ap is_leaf (node_at-remove tree p q ∙ ap (λ b. cond b None (node_at tree q)) e) ∙ none

-- no index file of a kernel is left
pub indexing-leaves : (roots : Roots) (kernel : List ℕ) (patch : Patch) (tree : Tree) (q : Path) → is_listed q (index_paths roots kernel) ≡ true → put_at q patch.puts ≡ None
    → is_leaf (node_at (patched roots (indexing roots kernel patch) tree) q) ≡ false
unfolding patched
indexing-leaves roots kernel patch tree q index none =
    all_tidied-leafless (emptied_of roots new) (come roots new tree) q
    (ap is_leaf (come-at roots new tree q) ∙ ap (λ o. is_leaf (option_or o (option_or (left_at new tree q) (cond (is_listed q (dirs_of roots new)) (Some node.Dir) None)))) none
    ∙ ap (λ b. is_leaf (option_or (cond (list_any (is_under q) patch.wipes || b && is_leaf (node_at tree q)) None (node_at tree q)) (cond (is_listed q (dirs_of roots new)) (Some node.Dir) None))) dropped_too
    ∙ by (list_any (is_under q) patch.wipes) (node_at tree q) (is_listed q (dirs_of roots new)))
  where
    new : Patch
    new = indexing roots kernel patch

    dropped_too : is_listed q (patch.drops ++ index_paths roots kernel) ≡ true
    dropped_too = listed-append q patch.drops (index_paths roots kernel) ∙ ap (λ b. is_listed q patch.drops || b) index ∙ or_true (is_listed q patch.drops)
      where
        or_true : (b : Bool) → (b || true) ≡ true
        or_true true = refl
        or_true false = refl

    dir_or_none : (b : Bool) → is_leaf (cond b (Some node.Dir) None) ≡ false
    dir_or_none true = refl
    dir_or_none false = refl

    by : (w : Bool) (at : Option Node) (dir : Bool) → is_leaf (option_or (cond (w || true && is_leaf at) None at) (cond dir (Some node.Dir) None)) ≡ false
    by true at dir = dir_or_none dir
    by false None dir = dir_or_none dir
    by false (Some node.Dir) dir = refl
    by false (Some (node.File bytes exec)) dir = dir_or_none dir
    by false (Some (node.Link text)) dir = dir_or_none dir
