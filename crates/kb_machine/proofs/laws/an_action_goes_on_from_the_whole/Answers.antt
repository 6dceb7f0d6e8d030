use Rattle.kb_machine.proofs.LookLaws.{whole_on}
use Rattle.kb_machine.proofs.laws.an_action_goes_on_from_the_whole.Goals as goal

pub returns : goal.returns
returns c = whole_on
