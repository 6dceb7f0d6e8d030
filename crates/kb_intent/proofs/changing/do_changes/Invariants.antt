use Rattle.std.proofs.Common.{take}
use Rattle.kb_intent.proofs.ChangesLaws.{HasDone}
use Rattle.kb_intent.proofs.changing.do_changes.Given as goal

abbrev pub invariant-loop-change : goal.invariant-loop-change
invariant-loop-change g l = HasDone l.fn.roots (take l.change-index l.changes) l.changes (g.W.World.state l.initial.world) (g.W.World.state l.world) l.ran
