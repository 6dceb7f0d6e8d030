use Rattle.std.proofs.Common.{take, Ok}
use Rattle.kb_dkms.specs.Copying.{StagesMet}
use Rattle.kb_dkms.proofs.staging.stage_all_met.Given as goal

abbrev pub invariant-loop-entry : goal.invariant-loop-entry
invariant-loop-entry g l = StagesMet (take l.entry-index l.met) l.initial.txn l.txn {T = Unit {0}} (g.W.World.state l.initial.world) (g.W.World.state l.world) (Ok tt)
