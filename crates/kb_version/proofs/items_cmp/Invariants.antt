use Rattle.std.proofs.Common.{◌≡◌, length}
use Rattle.kb_version.specs.Order.{items_order}
use Rattle.kb_version.proofs.items_cmp.Given as goal

-- the items so far are equal
abbrev pub invariant-items : goal.invariant-items
invariant-items l = items_order l.left l.right ≡ items_order l.a l.b

abbrev pub decreases-items : goal.decreases-items
decreases-items l = length l.left
