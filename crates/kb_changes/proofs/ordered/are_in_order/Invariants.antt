-- What is left decides.
use Rattle.std.proofs.Common.{◌≡◌, drop}
use Rattle.kb_changes.specs.Valid as rule
use Rattle.kb_changes.proofs.ordered.are_in_order.Given as goal

abbrev pub invariant-loop-change : goal.invariant-loop-change
invariant-loop-change l = rule.are_in_order 0 l.changes ≡ rule.are_in_order l.at (drop l.change-index l.changes)
