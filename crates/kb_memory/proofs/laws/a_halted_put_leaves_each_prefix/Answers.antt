use Rattle.kb_memory.proofs.PlanLaws.{prefix_by}
use Rattle.kb_memory.proofs.laws.a_halted_put_leaves_each_prefix.Goals as goal

pub returns-clause-prefix : goal.returns-clause-prefix
returns-clause-prefix c = prefix_by
