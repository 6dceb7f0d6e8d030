use Rattle.std.proofs.Common.{length}
use Rattle.kb_words.proofs.WalkLaws.{Walked}
use Rattle.kb_words.proofs.read.read_words.Given as goal

abbrev pub invariant-loop-word : goal.invariant-loop-word
invariant-loop-word l = Walked l.words l.rest l.state

abbrev pub decreases-loop-word : goal.decreases-loop-word
decreases-loop-word l = length l.rest
