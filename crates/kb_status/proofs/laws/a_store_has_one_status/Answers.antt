use Rattle.kb_status.proofs.LineLaws.{one_status}
use Rattle.kb_status.proofs.StatusLaws.{computed}
use Rattle.kb_status.proofs.laws.a_store_has_one_status.Goals as goal

pub returns-clause-one : goal.returns-clause-one
returns-clause-one c = one_status

pub returns-clause-computed : goal.returns-clause-computed
returns-clause-computed c = computed
