-- The words that are left.
use Rattle.std.proofs.Common.{length}
use Rattle.scenarios.proofs.entry.entries_of.Given as goal

abbrev pub decreases-entries : goal.decreases-entries
decreases-entries l = length l.rest
