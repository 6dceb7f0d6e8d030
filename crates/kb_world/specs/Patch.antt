-- What a transaction takes away and what it brings, and what a tree is afterwards. This project's own.
use Rattle.std.specs.Prelude.{Bool, ◌&&◌, ◌||◌, not, cond, List, [], ◌∷◌, ◌++◌, length, drop, map, filter, flat_map, reverse, fold, Option, Some, None, is_some}
use Rattle.std.specs.List.{list_any}
use Rattle.std.specs.Option.{option_or}
use Rattle.std.specs.FinMap.{keys, remove, retain_keys, from_entries}
use Rattle.kb_world.specs.Path.{Path, child, is_under}
use Rattle.kb_world.specs.Tree.{Tree, node_at, with_node, without, is_dir, is_leaf}
use Rattle.kb_world.specs.TreeLaws.{same_path}
use Rattle.kb_world.specs.Roots.{is_below}
use Rattle.kb_world.specs.declared.roots.Roots.{Roots}
use Rattle.kb_world.specs.declared.tree.Node.{Node}
use Rattle.kb_world.specs.declared.tree.Node.TheVariants as node

pub record Patch : Type 0 where
  -- files and links that go
  pub drops : List Path
  -- what goes with all below it
  pub wipes : List Path
  -- directories that come of themselves
  pub dirs : List Path
  -- files and links that come
  pub puts : List (Path × Node)

-- ---- which directories come and go with them

-- the directories between the base and a path below it
abbrev pub directories_to : Path → Path → List Path
directories_to base [] = []
directories_to base (name ∷ []) = []
directories_to base (name ∷ next ∷ rest) = child base name ∷ directories_to (child base name) (next ∷ rest)

-- the directories above a path, below the first of the roots that it is in
abbrev pub above_in : List Path → Path → List Path
above_in [] path = []
above_in (root ∷ roots) path = cond (is_under path root) (directories_to root (drop (length root) path)) (above_in roots path)

abbrev pub above : Roots → Path → List Path
above roots path = above_in (roots.dkms ∷ roots.src ∷ roots.modules ∷ roots.boot ∷ []) path

-- rising and each once, so that a path stands before those below it
abbrev pub in_order : List Path → List Path
in_order paths = let made : Tree = from_entries (map (λ path. (path, node.Dir)) paths) in keys made

-- the directories above what comes are made, and those that come of themselves
abbrev pub dirs_of : Roots → Patch → List Path
dirs_of roots patch = in_order (flat_map (above roots) (patch.dirs ++ map (λ put. put.0) patch.puts) ++ patch.dirs)

-- The directories below the dkms root above what goes: each goes too where nothing is left in it, the deepest first.
abbrev pub emptied_of : Roots → Patch → List Path
emptied_of roots patch = reverse (in_order (flat_map (above roots) (filter (λ path. is_under path roots.dkms) (patch.drops ++ patch.wipes))))

-- ---- the tree afterwards

-- a file or a link goes
abbrev pub dropped : Path → Tree → Tree
dropped path tree = cond (is_leaf (node_at tree path)) (without path tree) tree

-- without what passes the test
abbrev pub cleared : (Path → Bool) → Tree → Tree
cleared test tree = retain_keys tree (λ path. not (test path))

-- a path goes with all below it
abbrev pub wiped : Path → Tree → Tree
wiped path tree = cleared (λ other. is_under other path) tree

-- a directory comes where nothing stands
abbrev pub with_directory : Path → Tree → Tree
with_directory path tree = cond (is_some (node_at tree path)) tree (with_node path node.Dir tree)

-- a directory goes where nothing is left in it
abbrev pub tidied : Path → Tree → Tree
tidied path tree = cond (is_dir (node_at tree path) && not (list_any (λ other. is_below other path) (keys tree))) (remove tree path) tree

abbrev pub all_dropped : List Path → Tree → Tree
all_dropped paths tree = fold (λ t path. dropped path t) tree paths

abbrev pub all_wiped : List Path → Tree → Tree
all_wiped paths tree = fold (λ t path. wiped path t) tree paths

abbrev pub with_directories : List Path → Tree → Tree
with_directories paths tree = fold (λ t path. with_directory path t) tree paths

abbrev pub with_nodes : List (Path × Node) → Tree → Tree
with_nodes puts tree = fold (λ t put. with_node put.0 put.1 t) tree puts

abbrev pub all_tidied : List Path → Tree → Tree
all_tidied paths tree = fold (λ t path. tidied path t) tree paths

-- the tree after a patch
unfoldable pub patched : Roots → Patch → Tree → Tree
patched roots patch tree =
    all_tidied (emptied_of roots patch) (with_nodes patch.puts (with_directories (dirs_of roots patch) (all_wiped patch.wipes (all_dropped patch.drops tree))))

-- ---- what stands at a path afterwards

abbrev pub is_listed : Path → List Path → Bool
is_listed path paths = list_any (same_path path) paths

-- the node of the last put at a path
abbrev pub put_at : Path → List (Path × Node) → Option Node
put_at path [] = None
put_at path (put ∷ puts) = option_or (put_at path puts) (cond (same_path path put.0) (Some put.1) None)

-- the path is one of those that the patch names
abbrev pub touches : Roots → Patch → Path → Bool
touches roots patch path =
    is_listed path patch.drops || (list_any (is_under path) patch.wipes || (is_listed path (dirs_of roots patch) || (is_some (put_at path patch.puts) || is_listed path (emptied_of roots patch))))

-- what is left there of what stood there
abbrev pub left_at : Patch → Tree → Path → Option Node
left_at patch tree path = cond (list_any (is_under path) patch.wipes || is_listed path patch.drops && is_leaf (node_at tree path)) None (node_at tree path)

-- what stands there once all has come
abbrev pub come_at : Roots → Patch → Tree → Path → Option Node
come_at roots patch tree path = option_or (put_at path patch.puts) (option_or (left_at patch tree path) (cond (is_listed path (dirs_of roots patch)) (Some node.Dir) None))
