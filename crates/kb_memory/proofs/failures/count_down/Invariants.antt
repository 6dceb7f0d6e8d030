use Rattle.std.proofs.Common.{◌≡◌, ◌++◌, take, drop}
use Rattle.kb_memory.specs.Plan.{after_call}
use Rattle.kb_memory.proofs.failures.count_down.Given as goal

-- the numbers so far are counted down, and the others are as they were
abbrev pub invariant-loop-number : goal.invariant-loop-number
invariant-loop-number l = l.number-items ≡ after_call (take l.number-index l.fn.due.items) ++ drop l.number-index l.fn.due.items
