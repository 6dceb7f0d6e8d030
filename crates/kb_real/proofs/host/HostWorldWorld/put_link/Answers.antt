use Rattle.kb_real.proofs.UntoldLaws.{untold_changes}
use Rattle.kb_real.proofs.host.HostWorldWorld.put_link.Goals as goal

pub returns : goal.returns
returns g c = record { made = untold_changes _ _ _ _ c.tell.ensures.later c.tell.ensures.faults }
