-- The paths so far, and those that are to come.
use Rattle.std.proofs.Common.{◌≡◌, ◌++◌, drop}
use Rattle.kb_changes.specs.Groups as groups
use Rattle.kb_changes.proofs.group.staged_in.Given as goal

abbrev pub invariant-loop-change : goal.invariant-loop-change
invariant-loop-change l = l.paths.items ++ groups.staged_in l.roots (drop l.change-index l.changes) ≡ groups.staged_in l.roots l.changes
