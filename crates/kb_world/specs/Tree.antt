-- The tree: a finite map from paths to directories, files and links. This project's own.
use Rattle.std.specs.Prelude.{◌≡◌, ℕ, Bool, true, false, ◌&&◌, not, cond, List, [], ◌∷◌, length, drop, Option, Some, None, is_some, IsTrue, filter_map}
use Rattle.std.specs.FinMap.{FinMap, get, insert, remove, keys}
use Rattle.kb_world.specs.Path.{Path, path_cmp, parent, is_under}
use Rattle.kb_world.specs.declared.tree.Node.{Node}
use Rattle.kb_world.specs.declared.tree.Node.TheVariants as node
use Rattle.kb_world.specs.declared.tree.Kind.{Kind}
use Rattle.kb_world.specs.declared.tree.Kind.TheVariants as kind

abbrev pub Tree : Type 0
Tree = FinMap path_cmp Node

-- what stands at the path, if anything
abbrev pub node_at : Tree → Path → Option Node
node_at tree path = get tree path

-- the tree with this node at the path, and nothing else changed
abbrev pub with_node : Path → Node → Tree → Tree
with_node path at tree = insert tree path at

-- the tree with nothing at the path, and nothing else changed
abbrev pub without : Path → Tree → Tree
without path tree = remove tree path

-- the tree with this node at the path, or with none there
abbrev pub edited : Path → Option Node → Tree → Tree
edited path None tree = without path tree
edited path (Some at) tree = with_node path at tree

-- the tree in which what stood at the first path stands at the second
abbrev pub moved : Path → Path → Tree → Tree
moved from to tree = edited to (node_at tree from) (without from tree)

-- what a look tells of it
abbrev pub kind_of : Option Node → Kind
kind_of None = kind.Absent
kind_of (Some node.Dir) = kind.Dir
kind_of (Some (node.File bytes exec)) = kind.File (length bytes) exec
kind_of (Some (node.Link text)) = kind.Link

abbrev pub is_dir : Option Node → Bool
is_dir (Some node.Dir) = true
is_dir (Some (node.File bytes exec)) = false
is_dir (Some (node.Link text)) = false
is_dir None = false

abbrev pub is_file : Option Node → Bool
is_file (Some (node.File bytes exec)) = true
is_file (Some node.Dir) = false
is_file (Some (node.Link text)) = false
is_file None = false

-- what a link says
abbrev pub link_text : Option Node → Option (List ℕ)
link_text (Some (node.Link text)) = Some text
link_text (Some node.Dir) = None
link_text (Some (node.File bytes exec)) = None
link_text None = None

-- what a file holds
abbrev pub file_bytes : Option Node → Option (List ℕ)
file_bytes (Some (node.File bytes exec)) = Some bytes
file_bytes (Some node.Dir) = None
file_bytes (Some (node.Link text)) = None
file_bytes None = None

-- a file or a link
abbrev pub is_leaf : Option Node → Bool
is_leaf at = is_some at && not (is_dir at)

-- the name, where it is the only one
abbrev pub sole : List (List ℕ) → Option (List ℕ)
sole (name ∷ []) = Some name
sole (name ∷ more ∷ rest) = None
sole [] = None

-- the name of an entry of the directory, if the path is that of one
abbrev pub name_in : Path → Path → Option (List ℕ)
name_in directory path = cond (is_under path directory) (sole (drop (length directory) path)) None

-- the names of the directory's entries, each once, by bytes, since the paths of a tree are in order
abbrev pub children : Tree → Path → List (List ℕ)
children tree directory = filter_map (name_in directory) (keys tree)

-- whatever stands in the tree stands in a directory; the root's is the root itself
abbrev pub IsFormed : Tree → Type 0
IsFormed tree = (path : Path) → IsTrue (is_some (node_at tree path)) → IsTrue (is_dir (node_at tree (parent path)))

-- something can be made there: nothing stands at the path, and its parent is a directory
pub record CanMake (tree : Tree) (path : Path) : Type 0 where
  pub free : node_at tree path ≡ None
  pub in_directory : IsTrue (is_dir (node_at tree (parent path)))

-- a directory without entries
pub record IsEmptyDir (tree : Tree) (path : Path) : Type 0 where
  pub directory : IsTrue (is_dir (node_at tree path))
  pub empty : children tree path ≡ []
