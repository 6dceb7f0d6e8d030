-- The union of trees. The parts of a store, and its layout, which is their union. After the tool dkms, and this project's own.
use Rattle.std.specs.Prelude.{Bool, false, ◌||◌, not, ◌++◌, Option, Some, is_some}
use Rattle.std.specs.FinMap.{entries, from_entries, retain_keys}
use Rattle.kb_world.specs.Path.{Path}
use Rattle.kb_world.specs.StorePath.{store_path}
use Rattle.kb_world.specs.Tree.{Tree, node_at, is_dir}
use Rattle.kb_world.specs.Store.{added_at}
use Rattle.kb_world.specs.Boxes.{boxed, installed, chest_path}
use Rattle.kb_world.specs.Public.{public_tree, foreign_tree}
use Rattle.kb_world.specs.declared.roots.Roots.{Roots}
use Rattle.kb_world.specs.declared.store_path.StorePath.{StorePath}
use Rattle.kb_world.specs.declared.store_path.StorePath.TheVariants.{Targets, InBox, KernelLink, InChest}

-- what stands in the first tree, and else in the second
abbrev pub united : Tree → Tree → Tree
united a b = from_entries (entries a ++ entries b)

-- the public and the foreign tree together: all that isn't private
abbrev pub whole_tree : Roots → Tree → Tree
whole_tree roots tree = united (public_tree roots tree) (foreign_tree roots tree)

-- ---- which part of a store a path belongs to

-- the link that says that a version is added
abbrev pub is_source_link : Roots → Tree → Path → Bool
is_source_link roots store path = is_some (added_at roots store path)

-- in the directory of a build of an added version that has all its files
abbrev pub is_box_part : Roots → Tree → Option StorePath → Bool
is_box_part roots store (Some (Targets key spot)) = is_some (boxed roots store key spot)
is_box_part roots store (Some (InBox key spot rest)) = is_some (boxed roots store key spot)
is_box_part roots store other = false

abbrev pub is_in_box : Roots → Tree → Path → Bool
is_in_box roots store path = is_box_part roots store (store_path roots path)

-- the link that says which version is installed for a spot
abbrev pub links_installed : Roots → Tree → Option StorePath → Bool
links_installed roots store (Some (KernelLink word spot)) = is_some (installed roots store word spot)
links_installed roots store other = false

abbrev pub is_kernel_link : Roots → Tree → Path → Bool
is_kernel_link roots store path = links_installed roots store (store_path roots path)

-- in the directory with the files that a module displaced for a spot
abbrev pub is_chest_part : Roots → Tree → Option StorePath → Bool
is_chest_part roots store (Some (InChest word spot rest)) = is_dir (node_at store (chest_path roots word spot))
is_chest_part roots store other = false

abbrev pub is_in_chest : Roots → Tree → Path → Bool
is_in_chest roots store path = is_chest_part roots store (store_path roots path)

-- at none of these
abbrev pub is_in_rest : Roots → Tree → Path → Bool
is_in_rest roots store path = not (is_source_link roots store path || is_in_box roots store path || is_kernel_link roots store path || is_in_chest roots store path)

-- ---- the parts

abbrev pub source_links : Roots → Tree → Tree
source_links roots store = retain_keys store (is_source_link roots store)

abbrev pub boxes : Roots → Tree → Tree
boxes roots store = retain_keys store (is_in_box roots store)

abbrev pub kernel_links : Roots → Tree → Tree
kernel_links roots store = retain_keys store (is_kernel_link roots store)

abbrev pub chests : Roots → Tree → Tree
chests roots store = retain_keys store (is_in_chest roots store)

-- the rest: what stands at all other public paths, among it what is damaged, and directories
abbrev pub rest : Roots → Tree → Tree
rest roots store = retain_keys store (is_in_rest roots store)

-- the layout of a store: the union of its parts
unfoldable pub layout : Roots → Tree → Tree
layout roots store = united (source_links roots store) (united (boxes roots store) (united (kernel_links roots store) (united (chests roots store) (rest roots store))))
