use Rattle.kb_store.proofs.NotingLoops.{HasNoted}
use Rattle.kb_store.proofs.notes.note_all.Given as goal

abbrev pub invariant-loop-entry : goal.invariant-loop-entry
invariant-loop-entry g l = HasNoted (g.W.World.state l.initial.world) (g.W.World.state l.world) l.roots l.initial.notes l.notes l.met l.entry-index
