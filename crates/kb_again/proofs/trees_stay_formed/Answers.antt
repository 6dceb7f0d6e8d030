use Rattle.kb_again.proofs.ChangeLaws.{done_formed, within_formed}
use Rattle.kb_again.proofs.trees_stay_formed.Goals as goal

pub returns-clause-done : goal.returns-clause-done
returns-clause-done c = done_formed

pub returns-clause-within : goal.returns-clause-within
returns-clause-within c = within_formed
