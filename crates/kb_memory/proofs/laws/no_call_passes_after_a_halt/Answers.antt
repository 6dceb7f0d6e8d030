use Rattle.kb_memory.proofs.PlanLaws.{none_passes}
use Rattle.kb_memory.proofs.laws.no_call_passes_after_a_halt.Goals as goal

pub returns : goal.returns
returns c = none_passes
