-- The path is the one so many names above; none between the two is in the set.
use Rattle.std.proofs.Common.{◌≡◌, ◌-◌, take, length}
use Rattle.kb_changes.proofs.SetLaws.{NoneBetween}
use Rattle.kb_changes.proofs.path_set.PathSet.has_above.Given as goal

abbrev pub invariant-loop : goal.invariant-loop
invariant-loop l = (l.above ≡ take (length l.path - l.counter) l.path) × NoneBetween l.self l.path (length l.path - l.counter)
