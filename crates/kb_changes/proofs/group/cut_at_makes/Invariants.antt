-- No change so far is a Dir or a Put.
use Rattle.std.proofs.Common.{◌≡◌, ◌++◌, drop, take}
use Rattle.kb_changes.specs.Groups as groups
use Rattle.kb_changes.proofs.group.cut_at_makes.Given as goal

abbrev pub invariant-loop-i : goal.invariant-loop-i
invariant-loop-i l =
    (groups.drop_dirs_in (take l.i l.changes) ++ groups.first_drop_dirs (drop l.i l.changes) ≡ groups.first_drop_dirs l.changes)
    × (groups.second_drop_dirs (drop l.i l.changes) ≡ groups.second_drop_dirs l.changes)
