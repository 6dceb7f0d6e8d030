-- The builds, the installed versions and the kept files of a store. After the tool dkms, and this project's own.
use Rattle.std.specs.Prelude.{ℕ, ◌-◌, Bool, ◌&&◌, cond, List, [], ◌∷◌, ◌++◌, length, take, Option, Some, None, is_some, codes, bytes_eq, option_and_then}
use Rattle.std.specs.List.{list_all}
use Rattle.std.specs.FinMap.{retain_keys}
use Rattle.kb_world.specs.Names.{is_version}
use Rattle.kb_world.specs.Path.{Path, is_under}
use Rattle.kb_world.specs.StorePath.{path_of}
use Rattle.kb_world.specs.Tree.{Tree, node_at, is_file, link_text, file_bytes}
use Rattle.kb_world.specs.Store.{is_added}
use Rattle.kb_world.specs.Targets.{last_name, targets_of}
use Rattle.kb_world.specs.declared.roots.Roots.{Roots}
use Rattle.kb_world.specs.declared.job.Key.{Key}
use Rattle.kb_world.specs.declared.job.Spot.{Spot}
use Rattle.kb_world.specs.declared.store_path.StorePath.TheVariants.{Targets, InBox, KernelLink, InChest}
pub use Rattle.kb_world.specs.StorePath.{key_of, spot_of, is_spot, kernel_link_name, cut_with, cut_at_dash, spot_if, spot_of_link}

-- ---- builds

-- below the directory of a version's build for a spot
abbrev pub in_box : Roots → Key → Spot → Path → Path
in_box roots key spot names = path_of roots (InBox key spot names)

abbrev pub targets_path : Roots → Key → Spot → Path
targets_path roots key spot = path_of roots (Targets key spot)

-- the built module for a place
abbrev pub module_file : Roots → Key → Spot → Path → Path
module_file roots key spot place = in_box roots key spot (codes "module" ∷ last_name place ∷ [])

-- what make wrote
abbrev pub log_path : Roots → Key → Spot → Path
log_path roots key spot = in_box roots key spot (codes "log" ∷ codes "make.log" ∷ [])

-- the places of a build, which is there exactly where its file `targets` is one
abbrev pub places_at : Roots → Tree → Key → Spot → Option (List Path)
places_at roots store key spot = option_and_then targets_of (file_bytes (node_at store (targets_path roots key spot)))

abbrev pub is_built : Roots → Tree → Key → Spot → Bool
is_built roots store key spot = is_some (places_at roots store key spot)

-- each module's file is there
abbrev pub has_files : Roots → Tree → Key → Spot → List Path → Bool
has_files roots store key spot places = list_all (λ place. is_file (node_at store (module_file roots key spot place))) places

-- the places of a build of an added version that has all its files
abbrev pub boxed : Roots → Tree → Key → Spot → Option (List Path)
boxed roots store key spot = cond (is_added roots key store) (option_and_then (λ places. cond (has_files roots store key spot places) (Some places) None) (places_at roots store key spot)) None

-- the box of a build: its directory and all below it
abbrev pub box : Roots → Tree → Key → Spot → Tree
box roots store key spot = retain_keys store (λ path. is_under path (in_box roots key spot []))

-- ---- installed versions

abbrev pub kernel_link_path : Roots → List ℕ → Spot → Path
kernel_link_path roots word spot = path_of roots (KernelLink word spot)

-- `/K/A`
abbrev pub spot_tail : Spot → List ℕ
spot_tail spot = codes "/" ++ spot.kernel ++ codes "/" ++ spot.arch

-- `V/K/A`
abbrev pub kernel_link_text : List ℕ → Spot → List ℕ
kernel_link_text version spot = version ++ spot_tail spot

-- the version that such a text is of
abbrev pub version_of : Spot → List ℕ → Option (List ℕ)
version_of spot text = by (take (length text - length (spot_tail spot)) text)
  where
    by : List ℕ → Option (List ℕ)
    by version = cond (bytes_eq text (kernel_link_text version spot) && is_version version) (Some version) None

-- the version that a link says, where that is built for the spot
abbrev pub linked_at : Roots → Tree → Path → List ℕ → Spot → Option (List ℕ)
linked_at roots store path word spot =
    option_and_then (λ version. cond (is_built roots store (key_of word version) spot) (Some version) None) (option_and_then (version_of spot) (link_text (node_at store path)))

-- the version of a module that is installed for a spot
abbrev pub installed : Roots → Tree → List ℕ → Spot → Option (List ℕ)
installed roots store word spot =
    option_and_then (λ version. cond (is_some (boxed roots store (key_of word version) spot)) (Some version) None) (linked_at roots store (kernel_link_path roots word spot) word spot)

-- ---- kept files

-- the directory with the files that a module displaced for a spot
abbrev pub chest_path : Roots → List ℕ → Spot → Path
chest_path roots word spot = path_of roots (InChest word spot [])
