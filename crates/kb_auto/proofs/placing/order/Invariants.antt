use Rattle.std.proofs.Common.{◌≡◌, ◌-◌, vec_len, length}
use Rattle.kb_auto.specs.Order.{placed, modules_in_order}
use Rattle.kb_auto.proofs.OrderLaws.{Going}
use Rattle.kb_auto.proofs.placing.order.Given as goal

abbrev pub invariant-loop : goal.invariant-loop
invariant-loop l = record {
  len : vec_len l.turns.waits ≡ length l.list;
  going : Going l.list l.turns.waits.items l.turns.queue l.placed.items;
  ahead : placed (length l.list - l.counter) l.list l.placed.items ≡ modules_in_order l.list;
}
