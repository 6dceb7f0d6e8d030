use Rattle.kb_store.proofs.NotingLoops.{HasNotedFiles}
use Rattle.kb_store.proofs.notes.note_files.Given as goal

abbrev pub invariant-loop-place : goal.invariant-loop-place
invariant-loop-place g l = HasNotedFiles (g.W.World.state l.initial.world) (g.W.World.state l.world) l.initial.notes l.notes l.modules l.places l.place-index
