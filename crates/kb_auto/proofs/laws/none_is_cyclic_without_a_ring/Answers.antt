use Rattle.kb_auto.proofs.RingLaws.{none_cyclic}
use Rattle.kb_auto.proofs.laws.none_is_cyclic_without_a_ring.Goals as goal

pub returns : goal.returns
returns c = none_cyclic
