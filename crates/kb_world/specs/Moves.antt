-- When a file or a link can be moved. This project's own disk rules.
use Rattle.std.specs.Prelude.{not, IsTrue}
use Rattle.kb_world.specs.Path.{Path, parent}
use Rattle.kb_world.specs.Roots.{share_root}
use Rattle.kb_world.specs.Tree.{Tree, node_at, is_dir, is_leaf}
use Rattle.kb_world.specs.declared.roots.Roots.{Roots}

-- A file or a link is moved within one root, to where no directory stands, in a directory. What stands there goes.
pub record CanMove (roots : Roots) (tree : Tree) (from to : Path) : Type 0 where
  pub source : IsTrue (is_leaf (node_at tree from))
  pub no_directory : IsTrue (not (is_dir (node_at tree to)))
  pub in_directory : IsTrue (is_dir (node_at tree (parent to)))
  pub in_one_root : IsTrue (share_root roots from to)
