use Rattle.std.proofs.Common.{length}
use Rattle.kb_conf.proofs.ReadingLaws.{SoFar}
use Rattle.kb_conf.proofs.reading.read_text.Given as goal

abbrev pub invariant-items : goal.invariant-items
invariant-items l = SoFar l.given l.text l.table l.position l.rest

abbrev pub decreases-items : goal.decreases-items
decreases-items l = length l.rest
