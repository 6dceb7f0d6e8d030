-- What was met tells of the chests that stand.
use Rattle.kb_store.proofs.ChestLaws.{chests_met_are}
use Rattle.kb_store.proofs.chests.chests_of.Goals as goal

pub returns : goal.returns
returns c = chests_met_are c.args.roots.now c.args.met.now c.chests_met.result c.chests_met.ensures
