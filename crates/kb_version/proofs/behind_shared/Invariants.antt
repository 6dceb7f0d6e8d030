use Rattle.std.proofs.Common.{◌≡◌, ◌≤◌, length}
use Rattle.kb_version.specs.Order.{items_order}
use Rattle.kb_version.proofs.Shared.{Shares}
use Rattle.kb_version.proofs.behind_shared.Given as goal

-- the rests decide, and the texts are the same from where they begin up to where the walk is
abbrev pub invariant-loop-left_rest : goal.invariant-loop-left_rest
invariant-loop-left_rest l = record {
  same : items_order l.left l.right ≡ items_order l.a l.b;
  shared : Shares l.left l.right l.left_rest l.right_rest;
  shorter : length l.left ≤ length l.a;
  within : length l.left_rest ≤ length l.left;
}

abbrev pub decreases-loop-left_rest : goal.decreases-loop-left_rest
decreases-loop-left_rest l = length l.left_rest
