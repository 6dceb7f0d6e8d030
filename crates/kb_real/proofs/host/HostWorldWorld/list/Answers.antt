use Rattle.kb_real.proofs.UntoldLaws.{untold_looks}
use Rattle.kb_real.proofs.host.HostWorldWorld.list.Goals as goal

pub returns-clause-same : goal.returns-clause-same
returns-clause-same g c = untold_looks _ _ _ c.tell.ensures.later c.tell.ensures.faults
