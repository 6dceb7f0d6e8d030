-- What a child program may change, and what is left where one is cut off. This project's own disk rules.
use Rattle.std.specs.Prelude.{◌≡◌, ◌⊎◌, ℕ, Bool, true, false, ◌&&◌, not, List, Option, Some, None, bytes_eq}
use Rattle.std.specs.List.{list_any, list_all}
use Rattle.kb_world.specs.Path.{Path, is_under}
use Rattle.kb_world.specs.TreeLaws.{same_path}
use Rattle.kb_world.specs.Tree.{Tree, node_at, is_dir, name_in, IsFormed}
use Rattle.kb_world.specs.declared.tree.Node.{Node}
use Rattle.kb_world.specs.declared.child.Area.{Area}
use Rattle.kb_world.specs.declared.child.Area.TheVariants as areas

abbrev pub is_among : List (List ℕ) → Option (List ℕ) → Bool
is_among names (Some name) = list_any (bytes_eq name) names
is_among names None = false

-- the path is that of one of these names in the directory
abbrev pub is_named : Path → List (List ℕ) → Path → Bool
is_named directory names path = is_among names (name_in directory path)

-- The path is in the area: a directory with all below it, or a path of one of the names where no directory stands.
abbrev pub holds : Area → Tree → Path → Bool
holds areas.Nothing tree path = false
holds (areas.Under directory) tree path = is_under path directory
holds (areas.Names directory names) tree path = is_named directory names path && not (is_dir (node_at tree path))

-- What stands at a path may be left as something else, in the area: in a list of names files and links alone change.
abbrev pub lets_differ : Area → Path → Option Node → Option Node → Bool
lets_differ areas.Nothing path was left = false
lets_differ (areas.Under directory) path was left = is_under path directory
lets_differ (areas.Names directory names) path was left = is_named directory names path && not (is_dir was) && not (is_dir left)

-- some area of these lets what stands there be left so
abbrev pub is_soft_at : List Area → Path → Option Node → Option Node → Bool
is_soft_at soft path was left = list_any (λ area. lets_differ area path was left) soft

-- A tree that equals the one before outside of the areas. A crash leaves one, and so does a child that is cut off.
pub record IsLeft (soft : List Area) (before after : Tree) : Type 0 where
  pub each : (path : Path) → (node_at after path ≡ node_at before path) ⊎ (is_soft_at soft path (node_at before path) (node_at after path) ≡ true)
  pub formed : IsFormed after

-- Once the first area is settled the other is no longer soft: it is it, or a part of it.
abbrev pub is_settled_by : Area → Area → Bool
is_settled_by area areas.Nothing = true
is_settled_by areas.Nothing (areas.Under directory) = false
is_settled_by (areas.Under outer) (areas.Under directory) = is_under directory outer
is_settled_by (areas.Names outer names) (areas.Under directory) = false
is_settled_by areas.Nothing (areas.Names directory others) = false
is_settled_by (areas.Under outer) (areas.Names directory others) = is_under directory outer
is_settled_by (areas.Names outer names) (areas.Names directory others) = same_path outer directory && list_all (λ name. list_any (bytes_eq name) names) others
