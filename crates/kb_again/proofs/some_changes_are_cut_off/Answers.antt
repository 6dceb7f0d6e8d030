use Rattle.kb_again.proofs.Witness.{some_case}
use Rattle.kb_again.proofs.some_changes_are_cut_off.Goals as goal

pub returns : goal.returns
returns c = some_case
