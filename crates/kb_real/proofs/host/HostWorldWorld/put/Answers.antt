use Rattle.kb_real.proofs.UntoldLaws.{untold_puts}
use Rattle.kb_real.proofs.host.HostWorldWorld.put.Goals as goal

pub returns : goal.returns
returns g c = record { made = untold_puts _ _ _ _ _ _ c.tell.ensures.later c.tell.ensures.faults }
