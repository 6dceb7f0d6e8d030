-- Moves and removals of nodes: what they make of a tree, and that they keep it formed.
use Rattle.std.proofs.Common.{◌≡◌, ◌≢◌, ℕ, Bool, true, false, cond, ◌||◌, not, List, [], ◌∷◌, length, drop, Option, Some, None, is_some, Result, Ok, Err, OnOk, OnErr, IsTrue, refl, sym, ap, subst, ◌∙◌}
use Rattle.std.specs.Prelude.{filter_map, bytes_eq, nat_eq}
use Rattle.std.specs.Cmp.Lexicographic.{pointwise, bytes_decides, lists_equiv, nat_list_eq_equiv}
use Rattle.std.specs.List.{list_any, cons_option}
use Rattle.std.specs.Cmp.{first_so, second_so}
use Rattle.std.specs.FinMap.{keys, contains_key-keys}
use Rattle.kb_world.specs.Path.{Path, parent, child}
use Rattle.kb_world.specs.Moves.{CanMove}
use Rattle.kb_world.specs.Tree.{Tree, node_at, with_node, without, moved, edited, is_dir, is_leaf, sole, name_in, children, IsFormed, IsEmptyDir}
use Rattle.kb_world.specs.TreeLaws.{same_path, same_path-true, same_path-false, same_path-refl, node_at-with_node, node_at-remove, same_tree}
use Rattle.kb_world.specs.declared.roots.Roots.{Roots}
use Rattle.kb_world.specs.declared.tree.Node.{Node}
use Rattle.kb_world.specs.declared.tree.Node.TheVariants as node
use Rattle.kb_world.proofs.PathLaws.{under-append, drop-front}
use Rattle.kb_world.proofs.StepLaws.{parent-child}
use Rattle.kb_disk.specs.Edits.{CanPlace}
use Rattle.kb_disk.proofs.EditLaws.{edited-formed}

-- to move a node to its own path changes nothing
pub moved_nowhere : (tree : Tree) (path : Path) → moved path path tree ≡ tree
moved_nowhere tree path = by_node (node_at tree path) refl
  where
    at_path : (at : Option Node) → node_at tree path ≡ at → (q : Path) (b : Bool) → same_path q path ≡ b → cond b at (cond b None (node_at tree q)) ≡ node_at tree q
    at_path at is q true same = sym is ∙ ap (node_at tree) (sym (same_path-true q path same))
    at_path at is q false same = refl

    by_node : (at : Option Node) → node_at tree path ≡ at → edited path at (without path tree) ≡ tree
    by_node None is = same_tree _ _ (λ q. node_at-remove (without path tree) path q ∙ ap (cond (same_path q path) None) (node_at-remove tree path q) ∙ at_path None is q (same_path q path) refl)
    by_node (Some at) is = same_tree _ _ (λ q. node_at-with_node (without path tree) path at q ∙ ap (cond (same_path q path) (Some at)) (node_at-remove tree path q) ∙ at_path (Some at) is q (same_path q path) refl)

-- a node may be put at its new path first
pub moved_later : (tree : Tree) (from to : Path) (at : Node) → from ≢ to → node_at tree from ≡ Some at → without from (with_node to at tree) ≡ moved from to tree
moved_later tree from to at apart is = same_tree _ _ (λ q.
    node_at-remove (with_node to at tree) from q ∙ ap (cond (same_path q from) None) (node_at-with_node tree to at q)
    ∙ swap q (same_path q from) (same_path q to) refl refl
    ∙ sym (ap (λ n. node_at (edited to n (without from tree)) q) is ∙ node_at-with_node (without from tree) to at q ∙ ap (cond (same_path q to) (Some at)) (node_at-remove tree from q)))
  where
    swap : (q : Path) (a b : Bool) → same_path q from ≡ a → same_path q to ≡ b → cond a None (cond b (Some at) (node_at tree q)) ≡ cond b (Some at) (cond a None (node_at tree q))
    swap q true true ha hb = absurd (apart (sym (same_path-true q from ha) ∙ same_path-true q to hb))
    swap q true false ha hb = refl
    swap q false true ha hb = refl
    swap q false false ha hb = refl

no : (b : Bool) → b ≡ true → b ≡ false → ⊥
no b t f = let q : true ≡ false = sym t ∙ f in cc

-- what has no entries can be taken away
pub without-formed : (tree : Tree) (path : Path) → IsFormed tree → ((q : Path) → parent q ≡ path → same_path q path ≡ false → node_at tree q ≡ None) → IsFormed (without path tree)
without-formed tree path formed empty q some = by_test (same_path q path) refl
  where
    after : (q : Path) → node_at (without path tree) q ≡ cond (same_path q path) None (node_at tree q)
    after q = node_at-remove tree path q

    by_parent : (was : IsTrue (is_some (node_at tree q))) → same_path q path ≡ false → (b : Bool) → same_path (parent q) path ≡ b → IsTrue (is_dir (node_at (without path tree) (parent q)))
    by_parent was apart true same = let none : node_at tree q ≡ None = empty q (same_path-true (parent q) path same) apart in let h : IsTrue false = subst (λ at. IsTrue (is_some at)) none was in cc
    by_parent was apart false same = subst (λ at. IsTrue (is_dir at)) (sym (after (parent q) ∙ ap (λ b. cond b None (node_at tree (parent q))) same)) (formed q was)

    by_test : (b : Bool) → same_path q path ≡ b → IsTrue (is_dir (node_at (without path tree) (parent q)))
    by_test true same = let h : IsTrue false = subst (λ at. IsTrue (is_some at)) (after q ∙ ap (λ b. cond b None (node_at tree q)) same) some in cc
    by_test false apart = by_parent (subst (λ at. IsTrue (is_some at)) (after q ∙ ap (λ b. cond b None (node_at tree q)) apart) some) apart (same_path (parent q) path) refl

leaf_not_dir : (at : Option Node) → IsTrue (is_leaf at) → IsTrue (is_dir at) → ⊥
leaf_not_dir None leaf dir = let h : false ≡ true = dir in cc
leaf_not_dir (Some node.Dir) leaf dir = let h : false ≡ true = leaf in cc
leaf_not_dir (Some (node.File bytes exec)) leaf dir = let h : false ≡ true = dir in cc
leaf_not_dir (Some (node.Link text)) leaf dir = let h : false ≡ true = dir in cc

-- below a file or a link there is nothing
pub leaf_is_bare : (tree : Tree) (path : Path) → IsFormed tree → IsTrue (is_leaf (node_at tree path)) → (q : Path) → parent q ≡ path → node_at tree q ≡ None
leaf_is_bare tree path formed leaf q below = by_node (node_at tree q) refl
  where
    by_node : (at : Option Node) → node_at tree q ≡ at → node_at tree q ≡ None
    by_node None is = is
    by_node (Some at) is =
        let directory : IsTrue (is_dir (node_at tree path)) = subst (λ p. IsTrue (is_dir (node_at tree p))) below (formed q (subst (λ n. IsTrue (is_some n)) (sym is) refl)) in
        absurd (leaf_not_dir (node_at tree path) leaf directory)

pub unlink-formed : (tree after : Tree) (path : Path) → after ≡ without path tree → IsFormed tree → IsTrue (is_leaf (node_at tree path)) → IsFormed after
unlink-formed tree after path is formed leaf = subst IsFormed (sym is) (without-formed tree path formed (λ q below apart. leaf_is_bare tree path formed leaf q below))

-- a path below the root ends with a name
pub record EndsWith (path : Path) : Type 0 where
  pub front : Path
  pub last : List ℕ
  pub is : path ≡ child front last

ends_with : (name : List ℕ) (path : Path) → EndsWith (name ∷ path)
ends_with name [] = record { front = []; last = name; is = refl }
ends_with name (next ∷ path) = let below = ends_with next path in record { front = name ∷ below.front; last = below.last; is = ap (λ p. name ∷ p) below.is }

-- a path in a directory is named by its last name
named_child : (path : Path) (name : List ℕ) → name_in path (child path name) ≡ Some name
named_child path name = ap (λ b. cond b (sole (drop (length path) (child path name))) None) (under-append path (name ∷ [])) ∙ ap sole (drop-front path (name ∷ []))

named_in : (path q : Path) → parent q ≡ path → same_path q path ≡ false → is_some (name_in path q) ≡ true
named_in path [] below apart = absurd (no (same_path [] path) (subst (λ p. same_path [] p ≡ true) below (same_path-refl [])) apart)
named_in path (name ∷ q) below apart =
    let split = ends_with name q in
    let front_is : split.front ≡ path = sym (parent-child split.front split.last) ∙ sym (ap parent split.is) ∙ below in
    ap (λ p. is_some (name_in path p)) (split.is ∙ ap (λ p. child p split.last) front_is) ∙ ap is_some (named_child path split.last)

nothing_listed : (path q : Path) (ks : List Path) → is_some (name_in path q) ≡ true → filter_map (name_in path) ks ≡ [] → list_any (same_path q) ks ≡ false
nothing_listed path q [] named none = refl
nothing_listed path q (k ∷ ks) named none = by_name (name_in path k) refl (nothing_listed path q ks named)
  where
    by_name : (at : Option (List ℕ)) → name_in path k ≡ at → (filter_map (name_in path) ks ≡ [] → list_any (same_path q) ks ≡ false) → list_any (same_path q) (k ∷ ks) ≡ false
    by_name (Some name) is below =
        let full : name ∷ filter_map (name_in path) ks ≡ [] = sym (ap (λ at. cons_option at (filter_map (name_in path) ks)) is) ∙ none in cc
    by_name None is below =
        let tail : filter_map (name_in path) ks ≡ [] = sym (ap (λ at. cons_option at (filter_map (name_in path) ks)) is) ∙ none in
        by_test (same_path q k) refl (below tail)
      where
        by_test : (b : Bool) → same_path q k ≡ b → list_any (same_path q) ks ≡ false → list_any (same_path q) (k ∷ ks) ≡ false
        by_test true same rest = absurd (no (is_some (name_in path q)) named (ap (λ p. is_some (name_in path p)) (same_path-true q k same) ∙ ap is_some is))
        by_test false same rest = ap (λ b. b || list_any (same_path q) ks) same ∙ rest

-- below an empty directory there is nothing
pub empty_is_bare : (tree : Tree) (path : Path) → children tree path ≡ [] → (q : Path) → parent q ≡ path → same_path q path ≡ false → node_at tree q ≡ None
empty_is_bare tree path none q below apart = absent (node_at tree q) (contains_key-keys tree q ∙ nothing_listed path q (keys tree) (named_in path q below apart) none)
  where
    absent : (at : Option Node) → is_some at ≡ false → at ≡ None
    absent None h = refl
    absent (Some at) h = let q : true ≡ false = h in cc

pub remove_dir-formed : (tree after : Tree) (path : Path) → after ≡ without path tree → IsFormed tree → IsEmptyDir tree path → IsFormed after
remove_dir-formed tree after path is formed empty = subst IsFormed (sym is) (without-formed tree path formed (empty_is_bare tree path empty.empty))

-- what stands where after a removal
without-here : (tree : Tree) (path q : Path) (b : Bool) → same_path q path ≡ b → node_at (without path tree) q ≡ cond b None (node_at tree q)
without-here tree path q b same = node_at-remove tree path q ∙ ap (λ b. cond b None (node_at tree q)) same

-- a file or a link can be put where no directory stands, in a directory
pub rename-formed : (roots : Roots) (tree after : Tree) (from to : Path) → after ≡ moved from to tree → IsFormed tree → CanMove roots tree from to → IsFormed after
rename-formed roots tree after from to is formed can = subst IsFormed (sym is) (edited-formed gone to (node_at tree from) gone_formed place)
  where
    gone : Tree
    gone = without from tree

    gone_formed : IsFormed gone
    gone_formed = without-formed tree from formed (λ q below apart. leaf_is_bare tree from formed can.source q below)

    no_dir : (at : Option Node) → IsTrue (is_dir at) → IsTrue (not (is_dir at)) → ⊥
    no_dir at dir none = let q : false ≡ true = sym (ap not dir) ∙ none in cc

    in_directory : (b : Bool) → same_path (parent to) from ≡ b → IsTrue (is_dir (node_at gone (parent to)))
    in_directory true same = absurd (leaf_not_dir (node_at tree from) can.source (subst (λ p. IsTrue (is_dir (node_at tree p))) (same_path-true (parent to) from same) can.in_directory))
    in_directory false apart = subst (λ at. IsTrue (is_dir at)) (sym (without-here tree from (parent to) false apart)) can.in_directory

    not_there : (b : Bool) → same_path to from ≡ b → IsTrue (is_dir (node_at gone to)) → ⊥
    not_there true same dir = let h : IsTrue false = subst (λ at. IsTrue (is_dir at)) (without-here tree from to true same) dir in let q : false ≡ true = h in cc
    not_there false apart dir = no_dir (node_at tree to) (subst (λ at. IsTrue (is_dir at)) (without-here tree from to false apart) dir) can.no_directory

    place : CanPlace gone to
    place = record {
      below_root = λ is_root. no_dir (node_at tree to) (subst (λ p. IsTrue (is_dir (node_at tree p))) (ap parent is_root ∙ sym is_root) can.in_directory) can.no_directory;
      in_directory = in_directory (same_path (parent to) from) refl;
      empty = λ dir. absurd (not_there (same_path to from) refl dir);
    }

-- also where memory ran out
pub rename_either-formed : {T E : Type 0} (result : Result T E) (roots : Roots) (old new : Tree) (from to : Path) → OnOk result (new ≡ moved from to old) → OnErr result (new ≡ old)
    → IsFormed old → CanMove roots old from to → IsFormed new
rename_either-formed (Ok value) roots old new from to ok err formed can = rename-formed roots old new from to ok formed can
rename_either-formed (Err error) roots old new from to ok err formed can = subst IsFormed (sym err) formed

-- ---- paths that are told to be the same

pub same_paths : (a b : Path) → pointwise (pointwise nat_eq) a b ≡ true → a ≡ b
same_paths [] [] h = refl
same_paths [] (y ∷ b) h = let q : false ≡ true = h in cc
same_paths (x ∷ a) [] h = let q : false ≡ true = h in cc
same_paths (x ∷ a) (y ∷ b) h =
    let heads : x ≡ y = (bytes_decides x y).0 (first_so (bytes_eq x y) _ h) in
    let tails : a ≡ b = same_paths a b (second_so (bytes_eq x y) _ h) in
    λ i. heads i ∷ tails i

pub moved_to_itself : (tree : Tree) (from to : Path) → pointwise (pointwise nat_eq) from to ≡ true → tree ≡ moved from to tree
moved_to_itself tree from to h = sym (moved_nowhere tree from) ∙ ap (λ p. moved from p tree) (same_paths from to h)

pub other_paths : (a b : Path) → pointwise (pointwise nat_eq) a b ≡ false → a ≢ b
other_paths a b h is = no (pointwise (pointwise nat_eq) a b) (subst (λ p. pointwise (pointwise nat_eq) a p ≡ true) is ((lists_equiv nat_list_eq_equiv).refl a)) h

-- the two tests of paths are one
pub same_path_told : (a b : Path) → pointwise (pointwise nat_eq) a b ≡ same_path a b
same_path_told a b = by_test (pointwise (pointwise nat_eq) a b) refl
  where
    by_test : (test : Bool) → pointwise (pointwise nat_eq) a b ≡ test → pointwise (pointwise nat_eq) a b ≡ same_path a b
    by_test true h = h ∙ sym (ap (same_path a) (sym (same_paths a b h)) ∙ same_path-refl a)
    by_test false h = h ∙ sym (same_path-false a b (other_paths a b h))
