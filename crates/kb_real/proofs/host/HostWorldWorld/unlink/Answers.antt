use Rattle.kb_real.proofs.UntoldLaws.{untold_changes}
use Rattle.kb_real.proofs.host.HostWorldWorld.unlink.Goals as goal

pub returns : goal.returns
returns g c = record { gone = untold_changes _ _ _ _ c.tell.ensures.later c.tell.ensures.faults }
