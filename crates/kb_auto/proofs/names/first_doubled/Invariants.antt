use Rattle.kb_auto.specs.Queue.{ArePlaces}
use Rattle.kb_auto.proofs.names.first_doubled.Given as goal

abbrev pub invariant-loop-place : goal.invariant-loop-place
invariant-loop-place l = ArePlaces l.list l.place l.places
