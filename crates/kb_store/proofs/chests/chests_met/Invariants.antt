use Rattle.std.proofs.Common.{◌≡◌, ◌++◌, drop}
use Rattle.kb_store.specs.Chests as told
use Rattle.kb_store.proofs.chests.chests_met.Given as goal

abbrev pub invariant-loop-i : goal.invariant-loop-i
invariant-loop-i l = told.chests_met l.roots l.met ≡ l.chests ++ told.chests_met l.roots (drop l.i l.met)
