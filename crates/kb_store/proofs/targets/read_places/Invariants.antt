use Rattle.kb_store.proofs.TargetsLaws.{HasRead}
use Rattle.kb_store.proofs.targets.read_places.Given as goal

abbrev pub invariant-loop-line : goal.invariant-loop-line
invariant-loop-line l = HasRead l.lines l.line-index l.places.items
