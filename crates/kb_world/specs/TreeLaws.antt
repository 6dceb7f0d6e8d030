-- Laws of trees: what stands at a path after an edit, and when two trees are one.
use Rattle.std.specs.Prelude.{◌≡◌, ◌≢◌, Bool, true, false, cond, Some, None, refl}
use Rattle.std.specs.declared.cmp.Ordering.{Ordering}
use Rattle.std.specs.declared.cmp.Ordering.TheVariants.{Less, Equal, Greater}
use Rattle.std.specs.Ordering.{eq_by_cmp, is_eq}
use Rattle.std.specs.Cmp.{IsTotalOrder, eq_by_cmp_equiv}
use Rattle.std.specs.Cmp.Lexicographic.{lists_total, nat_list_cmp_total}
use Rattle.std.specs.FinMap.{remove, empty, get-empty, get-insert, get-remove, get-retain_keys, retain_keys, same_map, slice_cmp-IsAntisymmetric, nat_cmp-IsAntisymmetric}
use Rattle.std.proofs.Common.{◌∙◌, ap, sym}
use Rattle.kb_world.specs.Path.{Path, path_cmp}
use Rattle.kb_world.specs.Tree.{Tree, node_at, with_node}
use Rattle.kb_world.specs.declared.tree.Node.{Node}

pub paths_total : IsTotalOrder path_cmp
paths_total = lists_total nat_list_cmp_total

-- paths that compare alike are one
pub paths_exact : (a b : Path) → path_cmp a b ≡ Equal → a ≡ b
paths_exact = slice_cmp-IsAntisymmetric (slice_cmp-IsAntisymmetric nat_cmp-IsAntisymmetric)

-- the test by which a tree looks up a path
abbrev pub same_path : Path → Path → Bool
same_path a b = eq_by_cmp path_cmp a b

is_equal : (order : Ordering) → is_eq order ≡ true → order ≡ Equal
is_equal Less e = cc
is_equal Equal e = refl
is_equal Greater e = cc

pub same_path-true : (a b : Path) → same_path a b ≡ true → a ≡ b
same_path-true a b same = paths_exact a b (is_equal (path_cmp a b) same)

pub same_path-refl : (a : Path) → same_path a a ≡ true
same_path-refl a = (eq_by_cmp_equiv paths_total).refl a

pub same_path-false : (a b : Path) → a ≢ b → same_path a b ≡ false
same_path-false a b apart = by_test (same_path a b) refl
  where
    by_test : (test : Bool) → same_path a b ≡ test → same_path a b ≡ false
    by_test true same = absurd (apart (same_path-true a b same))
    by_test false same = same

-- ---- a tree with one node more
pub node_at-with_node : (tree : Tree) (path : Path) (node : Node) (q : Path) → node_at (with_node path node tree) q ≡ cond (same_path q path) (Some node) (node_at tree q)
node_at-with_node tree path node q = get-insert paths_total tree path node q

pub with_node-here : (tree : Tree) (path : Path) (node : Node) → node_at (with_node path node tree) path ≡ Some node
with_node-here tree path node = node_at-with_node tree path node path ∙ ap (λ test. cond test (Some node) (node_at tree path)) (same_path-refl path)

pub with_node-apart : (tree : Tree) (path : Path) (node : Node) (q : Path) → q ≢ path → node_at (with_node path node tree) q ≡ node_at tree q
with_node-apart tree path node q apart = node_at-with_node tree path node q ∙ ap (λ test. cond test (Some node) (node_at tree q)) (same_path-false q path apart)

-- ---- a tree with one node less
pub node_at-remove : (tree : Tree) (path : Path) (q : Path) → node_at (remove tree path) q ≡ cond (same_path q path) None (node_at tree q)
node_at-remove tree path q = get-remove paths_total tree path q

pub remove-here : (tree : Tree) (path : Path) → node_at (remove tree path) path ≡ None
remove-here tree path = node_at-remove tree path path ∙ ap (λ test. cond test None (node_at tree path)) (same_path-refl path)

pub remove-apart : (tree : Tree) (path : Path) (q : Path) → q ≢ path → node_at (remove tree path) q ≡ node_at tree q
remove-apart tree path q apart = node_at-remove tree path q ∙ ap (λ test. cond test None (node_at tree q)) (same_path-false q path apart)

-- ---- a part of a tree
pub node_at-retain : (tree : Tree) (keeps : Path → Bool) (q : Path) → node_at (retain_keys tree keeps) q ≡ cond (keeps q) (node_at tree q) None
node_at-retain tree keeps q = get-retain_keys tree keeps q (λ x tied. ap keeps (sym (paths_exact q x tied)))

-- ---- whole trees
pub node_at-empty : (q : Path) → node_at empty q ≡ None
node_at-empty q = get-empty path_cmp q

-- trees at whose paths the same stands are one
pub same_tree : (a b : Tree) → ((q : Path) → node_at a q ≡ node_at b q) → a ≡ b
same_tree a b alike = same_map paths_total paths_exact a b alike
