use Rattle.std.proofs.Common.{◌≡◌, map, take}
use Rattle.kb_world.specs.Path.{IsPath}
use Rattle.kb_world.proofs.path.names_of.Given as goal

abbrev pub invariant-loop-part : goal.invariant-loop-part
invariant-loop-part l = (l.names.items ≡ map (λ part. part.now) (take l.part-index l.parts)) × IsPath l.names.items
