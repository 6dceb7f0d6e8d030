-- What each path below the dkms root tells of a store without damage, and which damaged paths it tells of. This
-- project's own.
use Rattle.std.specs.Prelude.{◌≡◌, ℕ, Bool, ◌&&◌, ◌||◌, nat_lt, cond, not, List, [], ◌∷◌, ◌++◌, length, drop, map, filter, flat_map, filter_map, Option, Some, None, is_some, fold}
use Rattle.std.specs.Ordering.{is_lt}
use Rattle.kb_world.specs.Path.{Path, path_cmp, is_under}
use Rattle.kb_world.specs.Tree.{Tree, node_at, kind_of, is_file}
use Rattle.kb_world.specs.Public.{is_private}
use Rattle.kb_world.specs.Store.{added_at, is_added, link_path}
use Rattle.kb_world.specs.Boxes.{places_at, kernel_link_path, linked_at, targets_path, module_file}
use Rattle.kb_world.specs.Damage.{least, harm_at, unless_sound}
use Rattle.kb_world.specs.declared.roots.Roots.{Roots}
use Rattle.kb_world.specs.declared.job.Key.{Key}
use Rattle.kb_world.specs.declared.job.Spot.{Spot}
use Rattle.kb_world.specs.declared.store_path.StorePath.{StorePath}
use Rattle.kb_world.specs.declared.store_path.StorePath.TheVariants.{SourceLink, Targets, KernelLink}
use Rattle.kb_store.specs.Contents.{at_place, build_by, build_of, installation_by, installation_of}
use Rattle.kb_walk.specs.Walking.{entries}
use Rattle.kb_walk.specs.declared.walking.Met.{Met}
use Rattle.kb_store.specs.declared.store.Build.{Build}
use Rattle.kb_store.specs.declared.store.Installation.{Installation}
use Rattle.kb_store.specs.declared.notes.Notes.{Notes}

-- the build whose `targets` stands at the path, wherever that is in its format
abbrev pub told_build : Roots → Tree → Path → Option Build
told_build roots tree = at_place roots (build_by (places_at roots tree))

-- the version that a module's link for a spot says, where that is built
abbrev pub linked : Roots → Tree → List ℕ → Spot → Option (List ℕ)
linked roots tree word spot = linked_at roots tree (kernel_link_path roots word spot) word spot

-- the installation whose link stands at the path, wherever that is a link to a build
abbrev pub told_installation : Roots → Tree → Path → Option Installation
told_installation roots tree = at_place roots (installation_by (linked roots tree))

abbrev pub list_of : {A : Type 0} → Option A → List A
list_of None = []
list_of (Some x) = x ∷ []

-- the first of two paths, of which either may be absent
abbrev pub first_of_two : Option Path → Option Path → Option Path
first_of_two None later = later
first_of_two (Some path) None = Some path
first_of_two (Some path) (Some other) = Some (cond (is_lt (path_cmp other path)) other path)

-- what is noted at a path
abbrev pub noted : Roots → Tree → Notes → Path → Notes
noted roots tree notes path = record {
  added = notes.added ++ list_of (added_at roots tree path);
  builds = notes.builds ++ list_of (told_build roots tree path);
  installed = notes.installed ++ list_of (told_installation roots tree path);
  hurt = first_of_two notes.hurt (least (harm_at roots tree path));
}

-- what is noted at these paths, in order
abbrev pub noted_all : Roots → Tree → Notes → List Path → Notes
noted_all roots tree notes paths = fold (noted roots tree) notes paths

-- what the notes of these paths are
abbrev pub notes_of : Roots → Tree → List Path → Notes
notes_of roots tree paths = record {
  added = filter_map (added_at roots tree) paths;
  builds = filter_map (told_build roots tree) paths;
  installed = filter_map (told_installation roots tree) paths;
  hurt = least (flat_map (harm_at roots tree) paths);
}

-- of names below the dkms root, MODULE/VERSION where there are more behind it
abbrev pub version_within : Roots → Path → Option Path
version_within roots (word ∷ version ∷ name ∷ rest) = Some (roots.dkms ++ word ∷ version ∷ [])
version_within roots (word ∷ version ∷ []) = None
version_within roots (word ∷ []) = None
version_within roots [] = None

-- the path MODULE/VERSION below the dkms root that the path lies below, whatever its names are
abbrev pub version_above : Roots → Path → Option Path
version_above roots path = cond (is_under path roots.dkms) (version_within roots (drop (length roots.dkms) path)) None

-- more than three names below a directory
abbrev pub is_deep : Path → Path → Bool
is_deep directory path = is_under path directory && nat_lt 3 (length (drop (length directory) path))

-- private, or deeper below a version than anything that tells of a store
abbrev pub is_far : Roots → Path → Path → Bool
is_far roots directory path = is_private roots path || is_deep directory path

-- the paths up to three names below a directory that aren't private, where there is one
abbrev pub entries_if : Roots → Tree → Option Path → List Path
entries_if roots tree None = []
entries_if roots tree (Some directory) = entries tree (is_far roots directory) directory

-- those of the version that the path lies below
abbrev pub version_entries : Roots → Tree → Path → List Path
version_entries roots tree path = entries_if roots tree (version_above roots path)

-- ---- what a walk met

-- the entry has the kind of what stands at its path
abbrev pub IsKindOf : Tree → Met → Type 0
IsKindOf tree entry = entry.kind ≡ kind_of (node_at tree entry.path)

abbrev pub AreKinds : Tree → List Met → Type 0
AreKinds tree [] = Unit {0}
AreKinds tree (entry ∷ met) = IsKindOf tree entry × AreKinds tree met

-- ---- by the kind of entry

abbrev pub no_notes : Notes
no_notes = record { added = []; builds = []; installed = []; hurt = None }

-- these paths are damaged
abbrev pub harmed : Notes → List Path → Notes
harmed notes paths = record notes { hurt = first_of_two notes.hurt (least paths) }

-- what stands at a version's link is noted
abbrev pub source_noted : Roots → Tree → Notes → Key → Notes
source_noted roots tree notes key = cond (is_added roots key tree) (record notes { added = notes.added ++ key ∷ [] }) (harmed notes (link_path roots key ∷ []))

-- what stands at a spot's link is noted, where it says this version
abbrev pub version_noted : Roots → Notes → List ℕ → Spot → Option (List ℕ) → Notes
version_noted roots notes word spot None = harmed notes (kernel_link_path roots word spot ∷ [])
version_noted roots notes word spot (Some version) = record notes { installed = notes.installed ++ installation_of word spot version ∷ [] }

abbrev pub link_noted : Roots → Tree → Notes → List ℕ → Spot → Notes
link_noted roots tree notes word spot = version_noted roots notes word spot (linked roots tree word spot)

-- the modules' files that are no files are noted
abbrev pub files_noted : Roots → Tree → Notes → Key → Spot → List Path → Notes
files_noted roots tree notes key spot places = harmed notes (filter (λ file. not (is_file (node_at tree file))) (map (module_file roots key spot) places))

-- a file `targets` that has these places is noted, and the modules' files
abbrev pub places_noted : Roots → Tree → Notes → Key → Spot → Option (List Path) → Notes
places_noted roots tree notes key spot None = harmed notes (targets_path roots key spot ∷ [])
places_noted roots tree notes key spot (Some places) = by (files_noted roots tree notes key spot places)
  where
    by : Notes → Notes
    by marked = record marked { builds = marked.builds ++ build_of key spot places ∷ [] }

-- a version's link is noted, where there is none
abbrev pub absence_noted : Roots → Tree → Notes → Key → Notes
absence_noted roots tree notes key = harmed notes (unless_sound (is_some (node_at tree (link_path roots key))) (link_path roots key))

-- what stands at a build's `targets` is noted
abbrev pub box_noted : Roots → Tree → Notes → Key → Spot → Notes
box_noted roots tree notes key spot = places_noted roots tree (absence_noted roots tree notes key) key spot (places_at roots tree key spot)

-- what stands at the path that is for this is noted
abbrev pub place_noted : Roots → Tree → Notes → StorePath → Notes
place_noted roots tree notes (SourceLink key) = source_noted roots tree notes key
place_noted roots tree notes (Targets key spot) = box_noted roots tree notes key spot
place_noted roots tree notes (KernelLink word spot) = link_noted roots tree notes word spot
place_noted roots tree notes other = notes
