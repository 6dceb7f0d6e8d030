-- Edits of a tree at one path. This project's own.
use Rattle.std.specs.Prelude.{◌≡◌, ◌≢◌, List, [], Option, Some, None, IsTrue}
use Rattle.std.specs.FinMap.{empty, from_entries}
use Rattle.kb_world.specs.Path.{Path, path_cmp, parent}
use Rattle.kb_world.specs.Tree.{Tree, node_at, with_node, is_dir}
use Rattle.kb_world.specs.declared.tree.Node.{Node}
use Rattle.kb_world.specs.declared.tree.Node.TheVariants.{Dir}

-- the root directory and nothing below it
abbrev pub root_alone : Tree
root_alone = with_node [] Dir empty

-- the tree of a map's entries
abbrev pub tree_from : List (Path × Node) → Tree
tree_from es = from_entries {R = path_cmp} es

-- the tree in which this node stands at the root, and nothing else; where none is named, that of a map's entries
abbrev pub tree_with : Option Node → List (Path × Node) → Tree
tree_with None es = tree_from es
tree_with (Some node) es = with_node [] node empty

-- Any node may be placed there, or none: the path's parent is a directory, and a directory at the path is empty.
pub record CanPlace (tree : Tree) (path : Path) : Type 0 where
  pub below_root : path ≢ []
  pub in_directory : IsTrue (is_dir (node_at tree (parent path)))
  pub empty : IsTrue (is_dir (node_at tree path)) → (entry : Path) → parent entry ≡ path → node_at tree entry ≡ None
