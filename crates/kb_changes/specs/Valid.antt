-- When the changes of a transaction are valid: then doing them twice is doing them once. This project's own.
use Rattle.std.specs.Prelude.{◌≡◌, ℕ, Bool, true, false, ◌&&◌, ◌||◌, not, cond, List, [], ◌∷◌, length, drop, nat_eq, nat_le, codes, bytes_eq, Option, Some, None}
use Rattle.std.specs.List.{list_all, list_any, starts_with}
use Rattle.std.specs.Cmp.Lexicographic.{pointwise}
use Rattle.kb_world.specs.Names.{is_word, is_version, is_kernel}
use Rattle.kb_world.specs.Path.{Path, child, is_under}
use Rattle.kb_world.specs.Public.{intent_path, staging_path}
use Rattle.kb_world.specs.Roots.{is_below}
use Rattle.kb_world.specs.Tree.{name_in}
use Rattle.kb_world.specs.TreeLaws.{same_path}
use Rattle.kb_world.specs.View.{index_names}
use Rattle.kb_world.specs.declared.child.Area.{Area}
use Rattle.kb_world.specs.declared.child.Area.TheVariants as areas
use Rattle.kb_world.specs.declared.child.Request.{Request}
use Rattle.kb_world.specs.declared.roots.Roots.{Roots}
use Rattle.kb_changes.specs.Change.{root_path}
use Rattle.kb_changes.specs.Groups.{drops_in, wipes_in, drop_dirs_in, first_drop_dirs, second_drop_dirs, dirs_in, targets_in, staged_in, runs_in}
use Rattle.kb_changes.specs.declared.change.Change.{Change}
use Rattle.kb_changes.specs.declared.change.Change.TheVariants.{Dir, Put, Drop, DropDir, Wipe, Run}

-- ---- the order: Drops, Wipes, DropDirs, Dirs, Puts, DropDirs, Runs

-- the group of a change that stands behind one of this group
abbrev pub group_after : ℕ → Change → ℕ
group_after at (Drop path) = 0
group_after at (Wipe path) = 1
group_after at (DropDir path) = cond (nat_le at 2) 2 5
group_after at (Dir path) = 3
group_after at (Put _ number target) = 4
group_after at (Run request) = 6

-- no group falls
abbrev pub are_in_order : ℕ → List Change → Bool
are_in_order at [] = true
are_in_order at (change ∷ changes) = nat_le at (group_after at change) && are_in_order (group_after at change) changes

-- a path stands before the paths above it
abbrev pub deepest_first : List Path → Bool
deepest_first [] = true
deepest_first (path ∷ paths) = list_all (λ later. not (is_below later path)) paths && deepest_first paths

-- a path stands before the paths below it
abbrev pub deepest_last : List Path → Bool
deepest_last [] = true
deepest_last (path ∷ paths) = list_all (λ later. not (is_below path later)) paths && deepest_last paths

abbrev pub are_ordered : List Change → Bool
are_ordered changes =
    are_in_order 0 changes && deepest_first (first_drop_dirs changes) && deepest_first (second_drop_dirs changes) && deepest_last (dirs_in changes)

-- ---- one group against another

abbrev pub is_among_paths : List Path → Path → Bool
is_among_paths paths path = list_any (same_path path) paths

-- they are lists of the same paths
abbrev pub HoldSame : List Path → List Path → Type 0
HoldSame a b = (path : Path) → is_among_paths a path ≡ is_among_paths b path

-- none of the paths is one of the others
abbrev pub none_among : List Path → List Path → Bool
none_among others paths = list_all (λ path. not (is_among_paths others path)) paths

-- none of the paths is at or under one of the directories
abbrev pub none_under : List Path → List Path → Bool
none_under directories paths = list_all (λ path. not (list_any (is_under path) directories)) paths

-- none of the paths is below one of the directories
abbrev pub none_below : List Path → List Path → Bool
none_below directories paths = list_all (λ path. not (list_any (is_below path) directories)) paths

abbrev pub all_differ : List Path → Bool
all_differ [] = true
all_differ (path ∷ paths) = not (is_among_paths paths path) && all_differ paths

-- the names of a module and of a version
abbrev pub are_version_names : List (List ℕ) → Bool
are_version_names (word ∷ version ∷ []) = is_word word && is_version version
are_version_names (word ∷ version ∷ more ∷ rest) = false
are_version_names (word ∷ []) = false
are_version_names [] = false

-- the path of a package's version, in which its scratch tree stands
abbrev pub is_version_dir : Roots → Path → Bool
is_version_dir roots path = is_under path roots.dkms && are_version_names (drop (length roots.dkms) path)

-- where it is a version's, its scratch tree is wiped
abbrev pub is_scratch_wiped : Roots → List Path → Path → Bool
is_scratch_wiped roots wipes path = not (is_version_dir roots path) || is_among_paths wipes (child path (codes "build"))

-- no target is wiped, dropped or a DropDir behind it; targets differ, and so do staged places
abbrev pub are_targets_kept : Roots → List Change → Bool
are_targets_kept roots changes =
    none_under (wipes_in changes) (targets_in changes) && none_among (drops_in changes) (targets_in changes)
    && none_among (second_drop_dirs changes) (targets_in changes) && all_differ (targets_in changes) && all_differ (staged_in roots changes)

-- no Dir is wiped; no second DropDir is below a first one; and a version's directory goes only with its scratch tree
abbrev pub are_dirs_kept : Roots → List Change → Bool
are_dirs_kept roots changes =
    none_under (wipes_in changes) (dirs_in changes) && none_below (first_drop_dirs changes) (second_drop_dirs changes)
    && list_all (is_scratch_wiped roots (wipes_in changes)) (drop_dirs_in changes)

-- ---- where changes are made

-- the roots that are written; the others are only read
abbrev pub written_roots : Roots → List Path
written_roots roots = roots.dkms ∷ roots.src ∷ roots.modules ∷ roots.boot ∷ []

abbrev pub new_intent_path : Roots → Path
new_intent_path roots = child roots.dkms (codes ".intent.new")

-- the journal, and what is staged
abbrev pub kept_out_paths : Roots → List Path
kept_out_paths roots =
    intent_path roots ∷ staging_path roots.dkms ∷ staging_path roots.src ∷ staging_path roots.modules ∷ staging_path roots.boot ∷ []

abbrev pub is_kept_out : Roots → Path → Bool
is_kept_out roots path = list_any (is_under path) (kept_out_paths roots)

abbrev pub is_initrd_name : Option (List ℕ) → Bool
is_initrd_name (Some name) = starts_with nat_eq name (codes "initrd.img-")
is_initrd_name None = false

-- directly in the boot root, with the name of an initrd
abbrev pub is_initrd : Roots → Path → Bool
is_initrd roots path = is_initrd_name (name_in roots.boot path)

-- a path that a change may speak of
abbrev pub is_changeable : Roots → Path → Bool
is_changeable roots path =
    list_any (is_below path) (written_roots roots) && not (is_kept_out roots path) && not (is_under path (new_intent_path roots)) && not (is_initrd roots path)

-- the path of a change is such a one, and a target is below the root that it is put in
abbrev pub is_well_placed : Roots → Change → Bool
is_well_placed roots (Dir path) = is_changeable roots path
is_well_placed roots (Put root number target) = is_changeable roots target && is_below target (root_path roots root)
is_well_placed roots (Drop path) = is_changeable roots path
is_well_placed roots (DropDir path) = is_changeable roots path
is_well_placed roots (Wipe path) = is_changeable roots path
is_well_placed roots (Run request) = true

abbrev pub are_well_placed : Roots → List Change → Bool
are_well_placed roots changes = list_all (is_well_placed roots) changes

-- ---- what a child may change

abbrev pub same_paths : List Path → List Path → Bool
same_paths a b = pointwise same_path a b

abbrev pub is_kernel_name : Option (List ℕ) → Bool
is_kernel_name (Some name) = is_kernel name
is_kernel_name None = false

-- A child may change nothing; or, as depmod does, the index files of a kernel: it then runs in the base, sees that
-- kernel's directory alone, and each of these files is dropped before.
abbrev pub is_fit_area : Roots → List Path → Request → Area → Bool
is_fit_area roots drops request areas.Nothing = true
is_fit_area roots drops request (areas.Under directory) = false
is_fit_area roots drops request (areas.Names directory names) =
    is_kernel_name (name_in roots.modules directory) && pointwise bytes_eq names index_names && same_path request.dir roots.base
    && same_paths request.seen (directory ∷ []) && list_all (λ name. is_among_paths drops (child directory name)) index_names

abbrev pub is_fit_run : Roots → List Path → Request → Bool
is_fit_run roots drops request = is_fit_area roots drops request request.area

abbrev pub are_fit_runs : Roots → List Change → Bool
are_fit_runs roots changes = list_all (is_fit_run roots (drops_in changes)) (runs_in changes)

-- ---- all of it

abbrev pub is_valid : Roots → List Change → Bool
is_valid roots changes =
    are_ordered changes && are_targets_kept roots changes && are_dirs_kept roots changes && are_well_placed roots changes && are_fit_runs roots changes
