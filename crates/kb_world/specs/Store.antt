-- The store: what stands below the dkms root. The layout is after the tool dkms, and this project's own.
use Rattle.std.specs.Prelude.{ℕ, Bool, false, ◌&&◌, cond, List, [], ◌∷◌, ◌++◌, Option, Some, None, codes, bytes_eq, filter_map, option_and_then}
use Rattle.std.specs.FinMap.{keys}
use Rattle.kb_world.specs.Path.{Path, child, path_text}
use Rattle.kb_world.specs.StorePath.{store_path, path_of}
use Rattle.kb_world.specs.Tree.{Tree, node_at, link_text}
use Rattle.kb_world.specs.declared.roots.Roots.{Roots}
use Rattle.kb_world.specs.declared.job.Key.{Key}
use Rattle.kb_world.specs.declared.store_path.StorePath.{StorePath}
use Rattle.kb_world.specs.declared.store_path.StorePath.TheVariants.{SourceLink}
pub use Rattle.kb_world.specs.StorePath.{is_key}

abbrev pub module_path : Roots → Key → Path
module_path roots key = child roots.dkms key.module

abbrev pub version_path : Roots → Key → Path
version_path roots key = roots.dkms ++ key.module ∷ key.version ∷ []

-- the link that says that a version is added
abbrev pub link_path : Roots → Key → Path
link_path roots key = path_of roots (SourceLink key)

-- where a version's source stands: MODULE-VERSION in the root of sources
abbrev pub source_path : Roots → Key → Path
source_path roots key = child roots.src (key.module ++ codes "-" ++ key.version)

abbrev pub conf_path : Roots → Key → Path
conf_path roots key = child (source_path roots key) (codes "dkms.conf")

-- what the link says
abbrev pub source_text : Roots → Key → List ℕ
source_text roots key = path_text (source_path roots key)

abbrev pub says : List ℕ → Option (List ℕ) → Bool
says text None = false
says text (Some told) = bytes_eq told text

-- a version is added exactly where its link stands
abbrev pub is_added : Roots → Key → Tree → Bool
is_added roots key store = says (source_text roots key) (link_text (node_at store (link_path roots key)))

-- the package that is added by what stands at such a path
abbrev pub added_by : Roots → Tree → StorePath → Option Key
added_by roots store (SourceLink key) = cond (is_added roots key store) (Some key) None
added_by roots store other = None

abbrev pub added_at : Roots → Tree → Path → Option Key
added_at roots store path = option_and_then (added_by roots store) (store_path roots path)

-- the added packages, by the order of their paths
abbrev pub added : Roots → Tree → List Key
added roots store = filter_map (added_at roots store) (keys store)

-- the same module and version
abbrev pub same_key : Key → Key → Bool
same_key a b = bytes_eq a.module b.module && bytes_eq a.version b.version
