-- The groups of a transaction's changes. This project's own.
use Rattle.std.specs.Prelude.{Bool, true, false, cond, List, [], ◌∷◌, Option, Some, None, filter_map}
use Rattle.std.specs.List.{cons_option}
use Rattle.kb_world.specs.Path.{Path}
use Rattle.kb_world.specs.declared.child.Request.{Request}
use Rattle.kb_world.specs.declared.roots.Roots.{Roots}
use Rattle.kb_changes.specs.Change.{staged_path}
use Rattle.kb_changes.specs.declared.change.Change.{Change}
use Rattle.kb_changes.specs.declared.change.Change.TheVariants.{Dir, Put, Drop, DropDir, Wipe, Run}
use Rattle.kb_changes.specs.declared.group.Group.{Group}
use Rattle.kb_changes.specs.declared.group.Group.TheVariants as group

-- the path that a Drop takes away; likewise each that follows, of its kind
abbrev pub drop_of : Change → Option Path
drop_of (Drop path) = Some path
drop_of other = None

abbrev pub wipe_of : Change → Option Path
wipe_of (Wipe path) = Some path
wipe_of other = None

abbrev pub drop_dir_of : Change → Option Path
drop_dir_of (DropDir path) = Some path
drop_dir_of other = None

abbrev pub dir_of : Change → Option Path
dir_of (Dir path) = Some path
dir_of other = None

-- where a Put puts
abbrev pub target_of : Change → Option Path
target_of (Put _ number target) = Some target
target_of other = None

-- the staged place that a Put moves away
abbrev pub staged_of : Roots → Change → Option Path
staged_of roots (Put root number target) = Some (staged_path roots root number)
staged_of roots other = None

abbrev pub run_of : Change → Option Request
run_of (Run request) = Some request
run_of other = None

-- a Dir or a Put, which stands between the two groups of DropDirs
abbrev pub makes : Change → Bool
makes (Dir path) = true
makes (Put _ number target) = true
makes (Drop path) = false
makes (DropDir path) = false
makes (Wipe path) = false
makes (Run request) = false

abbrev pub drops_in : List Change → List Path
drops_in changes = filter_map drop_of changes

abbrev pub wipes_in : List Change → List Path
wipes_in changes = filter_map wipe_of changes

abbrev pub drop_dirs_in : List Change → List Path
drop_dirs_in changes = filter_map drop_dir_of changes

-- the DropDirs before the first Dir or Put
abbrev pub first_drop_dirs : List Change → List Path
first_drop_dirs [] = []
first_drop_dirs (change ∷ changes) = cond (makes change) [] (cons_option (drop_dir_of change) (first_drop_dirs changes))

-- the DropDirs behind the first Dir or Put
abbrev pub second_drop_dirs : List Change → List Path
second_drop_dirs [] = []
second_drop_dirs (change ∷ changes) = cond (makes change) (drop_dirs_in changes) (second_drop_dirs changes)

abbrev pub dirs_in : List Change → List Path
dirs_in changes = filter_map dir_of changes

abbrev pub targets_in : List Change → List Path
targets_in changes = filter_map target_of changes

abbrev pub staged_in : Roots → List Change → List Path
staged_in roots changes = filter_map (staged_of roots) changes

abbrev pub runs_in : List Change → List Request
runs_in changes = filter_map run_of changes

-- the path of a change that is of this group
abbrev pub path_in : Group → Change → Option Path
path_in group.Drops change = drop_of change
path_in group.Wipes change = wipe_of change
path_in group.DropDirs change = drop_dir_of change
path_in group.Dirs change = dir_of change
path_in group.Targets change = target_of change
