use Rattle.kb_machine.proofs.GatherLaws.{does_gathered}
use Rattle.kb_machine.proofs.laws.a_refusal_is_gathered.Goals as goal

pub returns : goal.returns
returns c = does_gathered
