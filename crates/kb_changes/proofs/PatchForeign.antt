-- The changes of a patch leave the foreign tree.
use Rattle.std.proofs.Common.{◌≡◌, Bool, true, false, cond, ◌&&◌, not, List, [], ◌∷◌, Option, Some, None, is_some, refl, sym, ap, ◌∙◌}
use Rattle.std.specs.List.{list_any, AllByRecursion}
use Rattle.std.specs.FinMap.{keys, remove}
use Rattle.kb_world.specs.Path.{Path, is_under}
use Rattle.kb_world.specs.Tree.{Tree, node_at, with_node, without, edited, moved, is_leaf, is_dir}
use Rattle.kb_world.specs.TreeLaws.{same_path, same_path-true, same_tree, node_at-remove, node_at-retain}
use Rattle.kb_world.specs.Roots.{is_below}
use Rattle.kb_world.specs.Public.{IsAlwaysPublic, IsNeverForeign, is_public, is_private, foreign_tree}
use Rattle.kb_world.specs.Patch.{with_directory, dropped, wiped, tidied, all_dropped, all_wiped, with_directories, all_tidied}
use Rattle.kb_world.specs.declared.roots.Roots.{Roots}
use Rattle.kb_world.specs.declared.tree.Node.{Node}
use Rattle.kb_world.specs.declared.tree.Node.TheVariants as node
use Rattle.kb_world.proofs.PublicLaws.{node_at-foreign_tree, foreign_tree-with_node}

pub public-own : (roots : Roots) (path : Path) → IsAlwaysPublic roots path → IsNeverForeign roots path
public-own roots path opens at = ap (λ b. not b && not (is_private roots path)) (opens at)

pub private-own : (roots : Roots) (path : Path) → is_private roots path ≡ true → IsNeverForeign roots path
private-own roots path private at = ap (λ b. not (is_public roots path at) && not b) private ∙ and_false (not (is_public roots path at))
  where
    and_false : (a : Bool) → (a && false) ≡ false
    and_false true = refl
    and_false false = refl

module _ (roots : Roots) where
  abbrev at_foreign : Path → Option Node → Option Node
  at_foreign q at = cond (not (is_public roots q at) && not (is_private roots q)) at None

  -- trees that differ at such paths alone have one foreign tree
  foreign-same : (a b : Tree) → ((q : Path) → at_foreign q (node_at a q) ≡ at_foreign q (node_at b q)) → foreign_tree roots a ≡ foreign_tree roots b
  foreign-same a b alike = same_tree _ _ (λ q. node_at-foreign_tree roots a q ∙ alike q ∙ sym (node_at-foreign_tree roots b q))

  own : (q : Path) → IsNeverForeign roots q → (a b : Option Node) → at_foreign q a ≡ at_foreign q b
  own q never a b = ap (λ t. cond t a None) (never a) ∙ sym (ap (λ t. cond t b None) (never b))

  pub foreign-remove : (path : Path) (tree : Tree) → IsNeverForeign roots path → foreign_tree roots (remove tree path) ≡ foreign_tree roots tree
  foreign-remove path tree never = foreign-same (remove tree path) tree (λ q. by q (same_path q path) refl)
    where
      by : (q : Path) (b : Bool) → same_path q path ≡ b → at_foreign q (node_at (remove tree path) q) ≡ at_foreign q (node_at tree q)
      by q true e = own q (λ at. ap (λ p. not (is_public roots p at) && not (is_private roots p)) (same_path-true q path e) ∙ never at) (node_at (remove tree path) q) (node_at tree q)
      by q false e = ap (at_foreign q) (node_at-remove tree path q ∙ ap (λ b. cond b None (node_at tree q)) e)

  foreign-wiped : (path : Path) (tree : Tree) → ((q : Path) → is_under q path ≡ true → IsNeverForeign roots q) → foreign_tree roots (wiped path tree) ≡ foreign_tree roots tree
  foreign-wiped path tree never = foreign-same (wiped path tree) tree (λ q. by q (is_under q path) refl)
    where
      by : (q : Path) (b : Bool) → is_under q path ≡ b → at_foreign q (node_at (wiped path tree) q) ≡ at_foreign q (node_at tree q)
      by q true e = own q (never q e) (node_at (wiped path tree) q) (node_at tree q)
      by q false e = ap (at_foreign q) (node_at-retain tree (λ other. not (is_under other path)) q ∙ ap (λ b. cond (not b) (node_at tree q) None) e)

  foreign-dropped : (path : Path) (tree : Tree) → IsAlwaysPublic roots path → foreign_tree roots (dropped path tree) ≡ foreign_tree roots tree
  foreign-dropped path tree opens = by (is_leaf (node_at tree path))
    where
      by : (b : Bool) → foreign_tree roots (cond b (without path tree) tree) ≡ foreign_tree roots tree
      by true = foreign-remove path tree (public-own roots path opens)
      by false = refl

  foreign-directory : (path : Path) (tree : Tree) → IsAlwaysPublic roots path → foreign_tree roots (with_directory path tree) ≡ foreign_tree roots tree
  foreign-directory path tree opens = by (is_some (node_at tree path))
    where
      by : (b : Bool) → foreign_tree roots (cond b tree (with_node path node.Dir tree)) ≡ foreign_tree roots tree
      by true = refl
      by false = foreign_tree-with_node roots tree path node.Dir opens

  foreign-tidied : (path : Path) (tree : Tree) → IsAlwaysPublic roots path → foreign_tree roots (tidied path tree) ≡ foreign_tree roots tree
  foreign-tidied path tree opens = by (is_dir (node_at tree path) && not (list_any (λ other. is_below other path) (keys tree)))
    where
      by : (b : Bool) → foreign_tree roots (cond b (remove tree path) tree) ≡ foreign_tree roots tree
      by true = foreign-remove path tree (public-own roots path opens)
      by false = refl

  pub foreign-moved : (staged target : Path) (at : Node) (tree : Tree) → node_at tree staged ≡ Some at → is_private roots staged ≡ true → IsAlwaysPublic roots target
      → foreign_tree roots (moved staged target tree) ≡ foreign_tree roots tree
  foreign-moved staged target at tree is private opens =
      ap (λ n. foreign_tree roots (edited target n (without staged tree))) is
      ∙ foreign_tree-with_node roots (without staged tree) target at opens ∙ foreign-remove staged tree (private-own roots staged private)

  -- ---- groups

  pub all_dropped-foreign : (paths : List Path) (tree : Tree) → AllByRecursion (IsAlwaysPublic roots) paths → foreign_tree roots (all_dropped paths tree) ≡ foreign_tree roots tree
  all_dropped-foreign [] tree opens = refl
  all_dropped-foreign (path ∷ paths) tree opens = all_dropped-foreign paths (dropped path tree) opens.1 ∙ foreign-dropped path tree opens.0

  pub all_wiped-foreign : (paths : List Path) (tree : Tree) → AllByRecursion (λ path. (q : Path) → is_under q path ≡ true → IsNeverForeign roots q) paths → foreign_tree roots (all_wiped paths tree) ≡ foreign_tree roots tree
  all_wiped-foreign [] tree own = refl
  all_wiped-foreign (path ∷ paths) tree own = all_wiped-foreign paths (wiped path tree) own.1 ∙ foreign-wiped path tree own.0

  pub with_directories-foreign : (paths : List Path) (tree : Tree) → AllByRecursion (IsAlwaysPublic roots) paths → foreign_tree roots (with_directories paths tree) ≡ foreign_tree roots tree
  with_directories-foreign [] tree opens = refl
  with_directories-foreign (path ∷ paths) tree opens = with_directories-foreign paths (with_directory path tree) opens.1 ∙ foreign-directory path tree opens.0

  pub all_tidied-foreign : (paths : List Path) (tree : Tree) → AllByRecursion (IsAlwaysPublic roots) paths → foreign_tree roots (all_tidied paths tree) ≡ foreign_tree roots tree
  all_tidied-foreign [] tree opens = refl
  all_tidied-foreign (path ∷ paths) tree opens = all_tidied-foreign paths (tidied path tree) opens.1 ∙ foreign-tidied path tree opens.0
