use Rattle.std.proofs.Common.{take, Ok}
use Rattle.kb_again.specs.Sparing.{areas_of}
use Rattle.kb_intent.specs.Clearing.{SettlesAll}
use Rattle.kb_intent.proofs.finishing.settle_all.Given as goal

abbrev pub invariant-loop-change : goal.invariant-loop-change
invariant-loop-change g l = SettlesAll (areas_of (take l.change-index l.changes)) {T = Unit {0}} (g.W.World.state l.initial.world) (g.W.World.state l.world) (Ok tt)
