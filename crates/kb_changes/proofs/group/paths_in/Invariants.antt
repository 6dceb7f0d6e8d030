-- The paths so far, and those that are to come.
use Rattle.std.proofs.Common.{◌≡◌, ◌++◌, drop, filter_map}
use Rattle.kb_changes.specs.Groups as groups
use Rattle.kb_changes.proofs.group.paths_in.Given as goal

abbrev pub invariant-loop-change : goal.invariant-loop-change
invariant-loop-change l =
    l.paths.items ++ filter_map (groups.path_in l.group) (drop l.change-index l.changes) ≡ filter_map (groups.path_in l.group) l.changes
