use Rattle.kb_real.proofs.UntoldLaws.{untold_runs}
use Rattle.kb_real.proofs.host.HostWorldWorld.run.Goals as goal

pub returns : goal.returns
returns g c = untold_runs _ _ _ _ c.tell.ensures.later c.tell.ensures.faults
