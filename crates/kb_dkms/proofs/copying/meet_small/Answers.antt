-- A walk that skips what is private is one of the whole that stands.
use Rattle.kb_dkms.proofs.CopyLaws.{much_decided, whole_met}
use Rattle.kb_dkms.proofs.copying.meet_small.Goals as goal

pub returns-clause-decides : goal.returns-clause-decides
returns-clause-decides g c = much_decided c.args.roots.now c.args.from.now _ _ c.meet_to_copy.result c.meet_to_copy.ensures.decides

pub returns-clause-met : goal.returns-clause-met
returns-clause-met g c = whole_met c.args.roots.now c.args.from.now (g.W.World.state c.args.world.now) (g.W.World.state c.meet_to_copy.new.world) c.meet_to_copy.result c.meet_to_copy.ensures.met
