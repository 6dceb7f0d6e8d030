use Rattle.std.proofs.Common.{◌≡◌, ◌≤◌, length}
use Rattle.kb_version.specs.Items.{items}
use Rattle.kb_version.proofs.piece.next_piece.Given as goal

-- what was skipped so far gives no item
abbrev pub invariant-loop-rest : goal.invariant-loop-rest
invariant-loop-rest l = record { same : items l.rest ≡ items l.text; within : length l.rest ≤ length l.text }

abbrev pub decreases-loop-rest : goal.decreases-loop-rest
decreases-loop-rest l = length l.rest
