-- The steps: what one transaction makes of a store. After dkms(8), and this project's own.
use Rattle.std.specs.Prelude.{ℕ, Bool, true, false, ◌&&◌, not, cond, List, [], ◌∷◌, ◌++◌, length, drop, map, filter, flat_map, Option, Some, None, is_some, unwrap_or, codes, bytes_eq, option_and_then}
use Rattle.std.specs.List.{list_any}
use Rattle.std.specs.Option.{option_or}
use Rattle.std.specs.FinMap.{keys}
use Rattle.kb_world.specs.Path.{Path, is_under}
use Rattle.kb_world.specs.StorePath.{store_path, path_of}
use Rattle.kb_world.specs.Tree.{Tree, node_at, is_dir, is_file, is_leaf, file_bytes}
use Rattle.kb_world.specs.TreeLaws.{same_path}
use Rattle.kb_world.specs.Roots.{is_below}
use Rattle.kb_world.specs.View.{is_index}
use Rattle.kb_world.specs.Store.{module_path, version_path, link_path, source_path, source_text, says}
use Rattle.kb_world.specs.Targets.{last_name, targets_text}
use Rattle.kb_world.specs.Boxes.{in_box, log_path, targets_path, module_file, places_at, boxed, kernel_link_path, kernel_link_text, installed, key_of, chest_path}
use Rattle.kb_world.specs.Damage.{least}
use Rattle.kb_world.specs.Patch.{Patch, above, patched}
use Rattle.kb_world.specs.declared.roots.Roots.{Roots}
use Rattle.kb_world.specs.declared.job.Key.{Key}
use Rattle.kb_world.specs.declared.job.Spot.{Spot}
use Rattle.kb_world.specs.declared.store_path.StorePath.{StorePath}
use Rattle.kb_world.specs.declared.store_path.StorePath.TheVariants.{KernelLink, InChest}
use Rattle.kb_world.specs.declared.tree.Node.{Node}
use Rattle.kb_world.specs.declared.tree.Node.TheVariants as node
pub use Rattle.kb_world.specs.Patch.{with_directory, cleared, tidied}

-- ---- what blocks a step

-- a file or a link stands where a step needs a directory
abbrev pub blocking : Path → Tree → Option Path
blocking path tree = cond (is_some (node_at tree path)) (cond (is_dir (node_at tree path)) None (Some path)) None

-- the paths at which a file or a link stands in the way of a directory
abbrev pub in_way : Tree → List Path → List Path
in_way tree paths = filter (λ path. is_some (node_at tree path) && not (is_dir (node_at tree path))) paths

-- what stands at paths below a directory, by the names below it
abbrev pub below : Tree → Path → List Path → List (Path × Node)
below store base paths = map (λ path. (drop (length base) path, unwrap_or (node_at store path) node.Dir)) paths

-- ---- Add

-- Add: the version's link comes to stand.
abbrev pub add_patch : Roots → Key → Patch
add_patch roots key = record { drops = []; wipes = []; dirs = []; puts = (link_path roots key, node.Link (source_text roots key)) ∷ [] }

unfoldable pub add_step : Roots → Key → Tree → Tree
add_step roots key store = patched roots (add_patch roots key) store

-- the first path that blocks Add
abbrev pub add_blocked : Roots → Key → Tree → Option Path
add_blocked roots key store = option_or (blocking (module_path roots key) store) (blocking (version_path roots key) store)

-- what stands below a directory of the whole tree, each at its place below the version's source
abbrev pub source_copy : Roots → Key → Path → Tree → List (Path × Node)
source_copy roots key from whole = map (λ item. (source_path roots key ++ item.0, item.1)) (below whole from (filter (λ path. is_below path from) (keys whole)))

-- Add of a directory: the version's source becomes a copy of it and of all below it, then Add.
abbrev pub add_tree_patch : Roots → Key → Path → Tree → Patch
add_tree_patch roots key from whole = record {
  drops = [];
  wipes = [];
  dirs = source_path roots key ∷ map (λ item. item.0) (filter (λ item. is_dir (Some item.1)) (source_copy roots key from whole));
  puts = filter (λ item. is_leaf (Some item.1)) (source_copy roots key from whole) ++ (link_path roots key, node.Link (source_text roots key)) ∷ [];
}

unfoldable pub add_tree_step : Roots → Key → Path → Tree → Tree → Tree
add_tree_step roots key from whole store = patched roots (add_tree_patch roots key from whole) store

-- ---- Build

-- a built module: the place it is for, and its bytes
abbrev pub Module : Type 0
Module = Path × List ℕ

-- Build: the box comes to stand, where nothing stands before: what make wrote, the modules, and their places.
abbrev pub build_patch : Roots → Key → Spot → List Module → List ℕ → Patch
build_patch roots key spot modules log = record {
  drops = [];
  wipes = [];
  dirs = [];
  puts = (log_path roots key spot, node.File log false)
      ∷ map (λ built. (module_file roots key spot built.0, node.File built.1 false)) modules
      ++ (targets_path roots key spot, node.File (targets_text (map (λ built. built.0) modules)) false) ∷ [];
}

unfoldable pub build_step : Roots → Key → Spot → List Module → List ℕ → Tree → Tree
build_step roots key spot modules log store = patched roots (build_patch roots key spot modules log) store

-- the first path that blocks Build
abbrev pub build_blocked : Roots → Key → Spot → Tree → Option Path
build_blocked roots key spot store =
    let box : Path = in_box roots key spot [] in
    least (in_way store (above roots box) ++ cond (is_some (node_at store box)) (box ∷ []) [])

-- ---- Install

-- below the directory of a kernel in the root of modules
abbrev pub in_kernel : Roots → List ℕ → Path → Path
in_kernel roots kernel names = roots.modules ++ kernel ∷ names

-- where the modules of the version stand that is installed of a module for a spot
abbrev pub installed_places : Roots → Tree → List ℕ → Spot → List Path
installed_places roots store word spot = map (in_kernel roots spot.kernel) (unwrap_or (option_and_then (λ version. boxed roots store (key_of word version) spot) (installed roots store word spot)) [])

-- the same of the link that stands at such a path
abbrev pub places_by : Roots → Tree → Option StorePath → List Path
places_by roots store (Some (KernelLink word spot)) = installed_places roots store word spot
places_by roots store other = []

-- every installed place
abbrev pub all_installed_places : Roots → Tree → List Path
all_installed_places roots store = flat_map (λ path. places_by roots store (store_path roots path)) (keys store)

-- a regular file below the kernel's directory that has the last name of a place and isn't an installed place
abbrev pub is_displaced : Roots → Tree → List ℕ → List Path → Path → Bool
is_displaced roots store kernel places path =
    is_under path (in_kernel roots kernel []) && is_file (node_at store path) && not (is_under path (in_kernel roots kernel (codes "build" ∷ [])))
    && not (is_under path (in_kernel roots kernel (codes "source" ∷ []))) && list_any (λ place. bytes_eq (last_name place) (last_name path)) places
    && not (list_any (same_path path) (all_installed_places roots store))

-- the displaced files
abbrev pub displaced_paths : Roots → Tree → List ℕ → List Path → List Path
displaced_paths roots store kernel places = filter (is_displaced roots store kernel places) (keys store)

-- the same, by their names below the kernel's directory, with what they are
abbrev pub displaced : Roots → Tree → List ℕ → List Path → List (Path × Node)
displaced roots store kernel places = below store (in_kernel roots kernel []) (displaced_paths roots store kernel places)

-- the places of a version's build, where it is built
abbrev pub build_places : Roots → Key → Spot → Tree → List Path
build_places roots key spot store = unwrap_or (places_at roots store key spot) []

-- each displaced file in the chest: its path, its bytes and its execute bit stay
abbrev pub copies : Roots → Key → Spot → Tree → List (Path × Node)
copies roots key spot store =
    map (λ item. (path_of roots (InChest key.module spot item.0), item.1)) (displaced roots store spot.kernel (build_places roots key spot store))

-- each module of the build at its place
abbrev pub modules_at_places : Roots → Key → Spot → Tree → List (Path × Node)
modules_at_places roots key spot store =
    map (λ place. (in_kernel roots spot.kernel place, node.File (unwrap_or (file_bytes (node_at store (module_file roots key spot place))) []) false)) (build_places roots key spot store)

-- Install, without what depmod then writes: the modules of the version that was installed go, the displaced files move
-- into the chest, the modules come to stand at their places, and the link says the version.
abbrev pub install_patch : Roots → Key → Spot → Tree → Patch
install_patch roots key spot store = record {
  drops = installed_places roots store key.module spot ++ displaced_paths roots store spot.kernel (build_places roots key spot store);
  wipes = [];
  dirs = [];
  puts = copies roots key spot store ++ (modules_at_places roots key spot store ++ (kernel_link_path roots key.module spot, node.Link (kernel_link_text key.version spot)) ∷ []);
}

unfoldable pub install_step : Roots → Key → Spot → Tree → Tree
install_step roots key spot store = patched roots (install_patch roots key spot store) store

-- the first path that blocks Install
abbrev pub install_blocked : Roots → Key → Spot → Tree → Option Path
install_blocked roots key spot store =
    let places = map (λ copy. copy.0) (copies roots key spot store) in
    least (in_way store (flat_map (above roots) places) ++ filter (λ path. is_some (node_at store path) && not (is_file (node_at store path))) places)

-- ---- Drop and Unadd

-- the kept files of a chest, by their names below it, where its directory is there
abbrev pub kept_files : Roots → Tree → List ℕ → Spot → List (Path × Node)
kept_files roots store word spot =
    let chest = chest_path roots word spot in
    cond (is_dir (node_at store chest)) (below store chest (filter (λ path. is_below path chest && is_file (node_at store path)) (keys store))) []

-- each kept file at its place again; what stands at an index file's path is depmod's to say
abbrev pub put_back : Roots → List ℕ → Spot → Tree → List (Path × Node)
put_back roots word spot store = filter (λ put. not (is_index roots put.0)) (map (λ item. (in_kernel roots spot.kernel item.0, item.1)) (kept_files roots store word spot))

-- a chest, where it is a directory
abbrev pub chest_there : Roots → List ℕ → Spot → Tree → List Path
chest_there roots word spot store = cond (is_dir (node_at store (chest_path roots word spot))) (chest_path roots word spot ∷ []) []

-- Drop of an installed version, without what depmod then writes: its link and its chest go, and where the kernel's
-- directory is there its modules go too, and each kept file stands at its place again.
abbrev pub uninstall_patch : Roots → Key → Spot → Tree → Patch
uninstall_patch roots key spot store =
    let there = is_dir (node_at store (in_kernel roots spot.kernel [])) in record {
      drops = kernel_link_path roots key.module spot ∷ cond there (installed_places roots store key.module spot) [];
      wipes = chest_there roots key.module spot store;
      dirs = [];
      puts = cond there (put_back roots key.module spot store) [];
    }

abbrev pub is_installed : Roots → Key → Spot → Tree → Bool
is_installed roots key spot store = says key.version (installed roots store key.module spot)

-- Drop: nothing of this where the version isn't installed; and where the build goes too, its box goes.
abbrev pub drop_patch : Roots → Key → Spot → Bool → Tree → Patch
drop_patch roots key spot build_too store =
    let installed_too = cond (is_installed roots key spot store) (uninstall_patch roots key spot store) (record { drops = []; wipes = []; dirs = []; puts = [] }) in
    record installed_too { wipes = installed_too.wipes ++ cond build_too (in_box roots key spot [] ∷ []) [] }

unfoldable pub uninstall_step : Roots → Key → Spot → Tree → Tree
uninstall_step roots key spot store = patched roots (drop_patch roots key spot false store) store

unfoldable pub unbuild_step : Roots → Key → Spot → Tree → Tree
unbuild_step roots key spot store = patched roots (drop_patch roots key spot true store) store

-- Unadd: the version's link goes.
abbrev pub unadd_patch : Roots → Key → Patch
unadd_patch roots key = record { drops = link_path roots key ∷ []; wipes = []; dirs = []; puts = [] }

unfoldable pub unadd_step : Roots → Key → Tree → Tree
unadd_step roots key store = patched roots (unadd_patch roots key) store
