-- The tree that a map's entries make.
use Rattle.std.proofs.Common.{◌≡◌, ℕ, suc, List, [], ◌∷◌, length, Option, Some, None, Bool, true, false, cond, refl, sym, ap, ◌∙◌, arith}
use Rattle.std.proofs.lemmas.Bool.Decides.{nat_tests}
use Rattle.std.specs.Prelude.{◌==◌}
use Rattle.std.specs.Cmp.{eq_by_cmp_equiv}
use Rattle.std.specs.FinMap.{find, empty, remove, get-from_entries}
use Rattle.std.specs.Map.{lookup}
use Rattle.std.specs.BTreeMap.{is_at}
use Rattle.kb_world.specs.Path.{Path, path_cmp}
use Rattle.kb_world.specs.Tree.{Tree, node_at, with_node}
use Rattle.kb_world.specs.TreeLaws.{paths_total, same_path, same_tree, node_at-with_node, node_at-remove, node_at-empty}
use Rattle.kb_world.specs.declared.tree.Node.{Node}
use Rattle.kb_disk.specs.Edits.{tree_from, tree_with}

-- what the map has at a path
abbrev pub entry_at : List (Path × Node) → Path → Option Node
entry_at es q = lookup (is_at (path_cmp q)) es

find_entry : (es : List (Path × Node)) (q : Path) → find path_cmp q es ≡ entry_at es q
find_entry [] q = refl
find_entry (e ∷ es) q = ap (cond (is_at (path_cmp q) e.0) (Some e.1)) (find_entry es q)

-- the tree has at each path what the map has there
pub node_at-tree_from : (es : List (Path × Node)) (q : Path) → node_at (tree_from es) q ≡ entry_at es q
node_at-tree_from es q = get-from_entries paths_total es q ∙ find_entry es q

-- the test of a path turns round
turned : (path q : Path) → same_path path q ≡ same_path q path
turned path q = (eq_by_cmp_equiv paths_total).symm path q

-- a map with a node more at one path makes the tree with it there
pub with_node_from : (es fs : List (Path × Node)) (path : Path) (node : Node) → ((q : Path) → entry_at fs q ≡ cond (is_at (path_cmp path) q) (Some node) (entry_at es q)) → tree_from fs ≡ with_node path node (tree_from es)
with_node_from es fs path node h = same_tree _ _ (λ q.
    node_at-tree_from fs q ∙ h q ∙ ap (λ test. cond test (Some node) (entry_at es q)) (turned path q)
    ∙ sym (node_at-with_node (tree_from es) path node q ∙ ap (cond (same_path q path) (Some node)) (node_at-tree_from es q)))

-- a map without the node at one path makes the tree without it
pub remove_from : (es fs : List (Path × Node)) (path : Path) → ((q : Path) → entry_at fs q ≡ cond (is_at (path_cmp path) q) None (entry_at es q)) → tree_from fs ≡ remove (tree_from es) path
remove_from es fs path h = same_tree _ _ (λ q.
    node_at-tree_from fs q ∙ h q ∙ ap (λ test. cond test None (entry_at es q)) (turned path q)
    ∙ sym (node_at-remove (tree_from es) path q ∙ ap (cond (same_path q path) None) (node_at-tree_from es q)))

-- what stands at a path where something stands at the root alone
pub alone_at : (node : Node) (path : Path) (here : Bool) → same_path path [] ≡ here → node_at (with_node [] node empty) path ≡ cond here (Some node) None
alone_at node path true is = node_at-with_node empty [] node path ∙ ap (λ b. cond b (Some node) (node_at empty path)) is
alone_at node path false is = node_at-with_node empty [] node path ∙ ap (λ b. cond b (Some node) (node_at empty path)) is ∙ node_at-empty path

some_length : (n : ℕ) → (suc n == 0) ≡ false
some_length n = grind (arith, nat_tests)

is_root : (path : Path) → (length path == 0) ≡ same_path path []
is_root [] = refl
is_root (name ∷ path) = some_length (length path)

-- what stands there then, as a look at it tells
pub stands_alone : (alone : Option Node) (es : List (Path × Node)) (now : Tree) (node : Node) (path names : Path) (here : Bool)
    → alone ≡ Some node → tree_with alone es ≡ now → names ≡ path → here ≡ (length names == 0) → cond here (Some node) None ≡ node_at now path
stands_alone alone es now node path names here is view all test =
    sym (alone_at node path here (sym (is_root path) ∙ sym (test ∙ ap (λ p. length p == 0) all)))
    ∙ ap (λ a. node_at (tree_with a es) path) (sym is) ∙ ap (λ tree. node_at tree path) view

-- what stands there where the map has all
pub stands_in_map : (alone : Option Node) (es : List (Path × Node)) (now : Tree) (path : Path) → alone ≡ None → tree_with alone es ≡ now → entry_at es path ≡ node_at now path
stands_in_map alone es now path none view =
    sym (node_at-tree_from es path) ∙ ap (λ a. node_at (tree_with a es) path) (sym none) ∙ ap (λ tree. node_at tree path) view
