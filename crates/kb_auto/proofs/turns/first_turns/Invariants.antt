use Rattle.std.proofs.Common.{nat_lt}
use Rattle.kb_auto.specs.Queue.{Queues}
use Rattle.kb_auto.proofs.turns.first_turns.Given as goal

abbrev pub invariant-loop-place : goal.invariant-loop-place
invariant-loop-place l = Queues l.list l.waits (λ k. nat_lt k l.place) l.queue
