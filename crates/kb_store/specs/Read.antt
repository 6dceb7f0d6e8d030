-- What a reading of the store answers. This project's own.
use Rattle.std.specs.Prelude.{◌≡◌, ◌+◌, Bool, ◌&&◌, nat_lt, length, slice_get, cond, List, [], ◌++◌, map, filter_map, Option, Some, None, Result, Ok, Err}
use Rattle.std.specs.List.{find}
use Rattle.std.specs.Ordering.{is_lt}
use Rattle.kb_world.specs.Path.{Path, path_cmp}
use Rattle.kb_world.specs.Tree.{Tree, node_at, is_dir}
use Rattle.kb_world.specs.Public.{is_private}
use Rattle.kb_world.specs.Damage.{hurt}
use Rattle.kb_world.specs.declared.roots.Roots.{Roots}
use Rattle.kb_world.specs.declared.refusal.Refusal.{Refusal}
use Rattle.kb_world.specs.declared.refusal.Refusal.TheVariants as refusal
use Rattle.kb_world.specs.Store.{added_at}
use Rattle.kb_walk.specs.Walking.{walked, LIMITS, entries, met_at}
use Rattle.kb_store.specs.Notes.{first_of_two, notes_of, told_build, told_installation, version_entries}
use Rattle.kb_store.specs.Contents.{store_of}
use Rattle.kb_store.specs.declared.notes.Notes.{Notes}
use Rattle.kb_store.specs.declared.read.Reading.{Reading}
use Rattle.kb_store.specs.declared.store.Store.{Store}
use Rattle.kb_walk.specs.declared.walking.Met.{Met}

-- the entries of the dkms root in the order of paths, without private ones
abbrev pub store_entries : Roots → Tree → List Path
store_entries roots store = entries store (is_private roots) roots.dkms

-- a directory more than 64 names below the dkms root
abbrev pub is_too_deep : Roots → Tree → Path → Bool
is_too_deep roots store path = nat_lt (length roots.dkms + 64) (length path) && is_dir (node_at store path)

-- what passes a limit: the entry with the number 65,537 or the first directory that is too deep, whichever stands first
abbrev pub over : Roots → Tree → Option Path
over roots store = first_of_two (slice_get (store_entries roots store) 65536) (find (is_too_deep roots store) (store_entries roots store))

-- The refusal whose path stands first, of the first damaged path and the one that passes a limit. At one path it is
-- the limit.
abbrev pub first_refusal : Option Path → Option Path → Option Refusal
first_refusal None None = None
first_refusal (Some harm) None = Some (refusal.Damaged harm)
first_refusal None (Some far) = Some (refusal.TooMany far)
first_refusal (Some harm) (Some far) = Some (cond (is_lt (path_cmp harm far)) (refusal.Damaged harm) (refusal.TooMany far))

abbrev pub store_refusal : Roots → Tree → Option Refusal
store_refusal roots store = first_refusal (hurt roots store) (over roots store)

abbrev pub store_unless : Option Refusal → Store → Result Store Refusal
store_unless None store = Ok store
store_unless (Some why) store = Err why

-- the store of a public tree, or its refusal
unfoldable pub read_of : Roots → Tree → Result Store Refusal
read_of roots store = store_unless (store_refusal roots store) (store_of roots store)

-- ---- what a reading is of

-- the paths below the version that the walk ended in, where it ended at a limit
abbrev pub entries_over : Roots → Tree → Option Path → List Path
entries_over roots tree None = []
entries_over roots tree (Some far) = version_entries roots tree far

abbrev pub paths_met : List Met → List Path
paths_met met = map (λ m. m.path) met

-- The walk of the store, and the notes of what it met and of the version that it ended in.
pub record IsReading (roots : Roots) (tree : Tree) (reading : Reading) : Type 0 where
  pub walk : reading.walk ≡ walked LIMITS tree (is_private roots) roots.dkms
  pub notes : reading.notes ≡ notes_of roots tree (paths_met reading.walk.met ++ entries_over roots tree reading.walk.over)

-- Every entry, and the notes of it.
pub record IsWholeReading (roots : Roots) (tree : Tree) (met : List Met) (notes : Notes) : Type 0 where
  pub all : met ≡ map (met_at tree) (entries tree (is_private roots) roots.dkms)
  pub added : notes.added ≡ filter_map (added_at roots tree) (paths_met met)
  pub builds : notes.builds ≡ filter_map (told_build roots tree) (paths_met met)
  pub installed : notes.installed ≡ filter_map (told_installation roots tree) (paths_met met)
