use Rattle.std.proofs.Common.{◌≡◌, ℕ, Bool, ◌+◌, length, vec_len, get_or, take}
use Rattle.kb_auto.specs.Queue.{Queues, occurs}
use Rattle.kb_auto.proofs.turns.release.Given as goal

abbrev pub invariant-loop-place : goal.invariant-loop-place
invariant-loop-place l = record {
  len : vec_len l.turns.waits ≡ length l.list;
  waits : (k : ℕ) → get_or l.turns.waits.items k 0 + occurs k (take l.place-index l.row) ≡ get_or l.initial.turns.waits.items k 0;
  queue : (left : ℕ → Bool) → Queues l.list l.initial.turns.waits.items left l.initial.turns.queue → Queues l.list l.turns.waits.items left l.turns.queue;
}
