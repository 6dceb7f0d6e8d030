-- The copies so far.
use Rattle.std.proofs.Common.{◌≡◌, take, map}
use Rattle.kb_journal.proofs.fields.copies_of.Given as goal

abbrev pub invariant-loop-part : goal.invariant-loop-part
invariant-loop-part l = l.copies.items ≡ map (λ part. part.now) (take l.part-index l.parts)
