-- The entry has what the lines so far say.
use Rattle.kb_bls.proofs.ReadLaws.{HasRead, seen}
use Rattle.kb_bls.proofs.parse.parse_text.Given as goal

abbrev pub invariant-loop-line : goal.invariant-loop-line
invariant-loop-line l = HasRead (seen l.yielded) l.entry
