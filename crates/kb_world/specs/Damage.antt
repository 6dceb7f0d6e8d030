-- What is damaged in a store, and which damaged path is answered. This project's own.
use Rattle.std.specs.Prelude.{ℕ, Bool, not, cond, List, [], ◌∷◌, ◌++◌, map, filter, flat_map, Option, Some, None, is_some}
use Rattle.std.specs.FinMap.{keys}
use Rattle.std.specs.Ordering.{is_lt}
use Rattle.kb_world.specs.Path.{Path, path_cmp}
use Rattle.kb_world.specs.StorePath.{store_path}
use Rattle.kb_world.specs.Tree.{Tree, node_at, is_file}
use Rattle.kb_world.specs.Store.{is_added, link_path}
use Rattle.kb_world.specs.Boxes.{targets_path, module_file, places_at, kernel_link_path, linked_at}
use Rattle.kb_world.specs.declared.roots.Roots.{Roots}
use Rattle.kb_world.specs.declared.job.Key.{Key}
use Rattle.kb_world.specs.declared.job.Spot.{Spot}
use Rattle.kb_world.specs.declared.store_path.StorePath.{StorePath}
use Rattle.kb_world.specs.declared.store_path.StorePath.TheVariants.{SourceLink, Targets, KernelLink}

-- the path, unless the test holds
abbrev pub unless_sound : Bool → Path → List Path
unless_sound sound path = cond sound [] (path ∷ [])

-- of what stands at a version's link: it is damaged where it isn't the link that says that the version is added
abbrev pub source_harm : Roots → Tree → Key → List Path
source_harm roots store key = unless_sound (is_added roots key store) (link_path roots key)

-- `targets` is damaged where it isn't in its format, and a module's file where it is no file
abbrev pub files_harm : Roots → Tree → Key → Spot → Option (List Path) → List Path
files_harm roots store key spot None = targets_path roots key spot ∷ []
files_harm roots store key spot (Some places) = filter (λ file. not (is_file (node_at store file))) (map (module_file roots key spot) places)

-- of what stands at a build's `targets`: the version's link is damaged too, where there is none
abbrev pub box_harm : Roots → Tree → Key → Spot → List Path
box_harm roots store key spot =
    unless_sound (is_some (node_at store (link_path roots key))) (link_path roots key) ++ files_harm roots store key spot (places_at roots store key spot)

-- of what stands at a spot's link: it is damaged where it isn't a link to a build of its module for that spot
abbrev pub link_harm : Roots → Tree → List ℕ → Spot → List Path
link_harm roots store word spot = unless_sound (is_some (linked_at roots store (kernel_link_path roots word spot) word spot)) (kernel_link_path roots word spot)

-- the damaged paths that what stands at such a path tells of
abbrev pub harm_by : Roots → Tree → StorePath → List Path
harm_by roots store (SourceLink key) = source_harm roots store key
harm_by roots store (Targets key spot) = box_harm roots store key spot
harm_by roots store (KernelLink word spot) = link_harm roots store word spot
harm_by roots store other = []

abbrev pub harm_of : Roots → Tree → Option StorePath → List Path
harm_of roots store None = []
harm_of roots store (Some place) = harm_by roots store place

abbrev pub harm_at : Roots → Tree → Path → List Path
harm_at roots store path = harm_of roots store (store_path roots path)

-- the least path
abbrev pub least : List Path → Option Path
least [] = None
least (path ∷ paths) = Some (lesser (least paths))
  where
    lesser : Option Path → Path
    lesser None = path
    lesser (Some other) = cond (is_lt (path_cmp other path)) other path

-- the damaged paths
abbrev pub harms : Roots → Tree → List Path
harms roots store = flat_map (harm_at roots store) (keys store)

-- the first damaged path in the order of paths
unfoldable pub hurt : Roots → Tree → Option Path
hurt roots store = least (harms roots store)
