use Rattle.kb_real.proofs.UntoldLaws.{untold_settles}
use Rattle.kb_real.proofs.host.HostWorldWorld.settle.Goals as goal

pub returns : goal.returns
returns g c = record { settled = untold_settles _ _ _ _ c.tell.ensures.later c.tell.ensures.faults }
