-- What a store holds, as lists in the order of paths. After the tool dkms, and this project's own.
use Rattle.std.specs.Prelude.{ℕ, cond, List, [], map, Option, Some, None, filter_map, option_and_then}
use Rattle.std.specs.Option.{option_map}
use Rattle.std.specs.FinMap.{keys}
use Rattle.kb_world.specs.Path.{Path}
use Rattle.kb_world.specs.StorePath.{store_path}
use Rattle.kb_world.specs.Tree.{Tree, node_at, is_dir}
use Rattle.kb_world.specs.Store.{added}
use Rattle.kb_world.specs.Boxes.{boxed, installed, chest_path}
use Rattle.kb_world.specs.Steps.{kept_files}
use Rattle.kb_world.specs.declared.roots.Roots.{Roots}
use Rattle.kb_world.specs.declared.job.Key.{Key}
use Rattle.kb_world.specs.declared.job.Spot.{Spot}
use Rattle.kb_world.specs.declared.store_path.StorePath.{StorePath}
use Rattle.kb_world.specs.declared.store_path.StorePath.TheVariants.{Targets, KernelLink, InChest}
use Rattle.kb_store.specs.declared.store.Build.{Build}
use Rattle.kb_store.specs.declared.store.Installation.{Installation}
use Rattle.kb_store.specs.declared.store.Chest.{Chest}
use Rattle.kb_store.specs.declared.store.Store.{Store}

-- what a path gives, by what it is for
abbrev pub at_place : {T : Type 0} → Roots → (StorePath → Option T) → Path → Option T
at_place roots by path = option_and_then by (store_path roots path)

-- ---- builds

abbrev pub build_of : Key → Spot → List Path → Build
build_of key spot places = record { key = key; spot = spot; targets = places }

-- the build whose file `targets` would stand there, where it has these places
abbrev pub build_by : (Key → Spot → Option (List Path)) → StorePath → Option Build
build_by places (Targets key spot) = option_map (build_of key spot) (places key spot)
build_by places other = None

-- the builds of added versions that have all their files
abbrev pub builds : Roots → Tree → List Build
builds roots store = filter_map (at_place roots (build_by (boxed roots store))) (keys store)

-- ---- installed versions

abbrev pub installation_of : List ℕ → Spot → List ℕ → Installation
installation_of word spot version = record { «module» = word; spot = spot; version = version }

-- the installation whose link would stand there, where it says this version
abbrev pub installation_by : (List ℕ → Spot → Option (List ℕ)) → StorePath → Option Installation
installation_by version (KernelLink word spot) = option_map (installation_of word spot) (version word spot)
installation_by version other = None

abbrev pub installations : Roots → Tree → List Installation
installations roots store = filter_map (at_place roots (installation_by (installed roots store))) (keys store)

-- ---- kept files

abbrev pub chest_of : List ℕ → Spot → List Path → Chest
chest_of word spot paths = record { «module» = word; spot = spot; files = paths }

-- the chest whose directory would stand there, where it has these files
abbrev pub chest_by : (List ℕ → Spot → Option (List Path)) → StorePath → Option Chest
chest_by files (InChest word spot []) = option_map (chest_of word spot) (files word spot)
chest_by files other = None

-- the paths of the kept files below the kernel's directory
abbrev pub kept_paths : Roots → Tree → List ℕ → Spot → List Path
kept_paths roots store word spot = map (λ item. item.0) (kept_files roots store word spot)

-- the kept files of a chest, where its directory is there
abbrev pub chest_files : Roots → Tree → List ℕ → Spot → Option (List Path)
chest_files roots store word spot = cond (is_dir (node_at store (chest_path roots word spot))) (Some (kept_paths roots store word spot)) None

abbrev pub chest_list : Roots → Tree → List Chest
chest_list roots store = filter_map (at_place roots (chest_by (chest_files roots store))) (keys store)

-- ---- the order

-- ---- all of it

-- what the store of a public tree holds
unfoldable pub store_of : Roots → Tree → Store
store_of roots store = record {
  added = added roots store;
  builds = builds roots store;
  installed = installations roots store;
  chests = chest_list roots store;
}
