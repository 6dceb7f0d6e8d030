use Rattle.kb_walk.proofs.CopyCalls.{HasCopied}
use Rattle.kb_walk.proofs.copying.copy_entries.Given as goal

abbrev pub invariant-loop-entry : goal.invariant-loop-entry
invariant-loop-entry g l = HasCopied l.from l.to l.met l.entry-index (g.W.World.state l.initial.world) (g.W.World.state l.world)
