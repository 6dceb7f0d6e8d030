use Rattle.kb_real.proofs.OutputLaws.{all_read}
use Rattle.kb_real.proofs.outputs.read_both.Goals as goal

pub returns-clause-out : goal.returns-clause-out
returns-clause-out g c = all_read _ _ _ (c.in_ok-read_to_ends.ensures.out _ c.new-out.ensures)

pub returns-clause-err : goal.returns-clause-err
returns-clause-err g c = all_read _ _ _ (c.in_ok-read_to_ends.ensures.err _ c.new-err.ensures)
