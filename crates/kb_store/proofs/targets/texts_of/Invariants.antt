use Rattle.std.proofs.Common.{◌≡◌, map, take}
use Rattle.kb_store.proofs.targets.texts_of.Given as goal

abbrev pub invariant-loop-part : goal.invariant-loop-part
invariant-loop-part l = l.texts.items ≡ map (λ part. part.now) (take l.part-index l.parts)
