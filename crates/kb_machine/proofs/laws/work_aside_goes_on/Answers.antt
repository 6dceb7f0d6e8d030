use Rattle.kb_machine.proofs.AsideThenLaws.{aside_none, aside_then, aside_of_run}
use Rattle.kb_machine.proofs.laws.work_aside_goes_on.Goals as goal

pub returns-clause-nothing : goal.returns-clause-nothing
returns-clause-nothing c = aside_none

pub returns-clause-more : goal.returns-clause-more
returns-clause-more c = aside_then

pub returns-clause-child : goal.returns-clause-child
returns-clause-child c = aside_of_run
