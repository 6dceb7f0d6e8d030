-- What was met at one more entry adds its chest, if it tells of one.
use Rattle.kb_store.proofs.ChestLaws.{chests_more}
use Rattle.kb_store.proofs.chests.chests_met.Goals as goal

pub loop-i-preserved : goal.loop-i-preserved
loop-i-preserved c =
    chests_more c.args.roots.now c.args.met.now c.loop-i.i c.index-met-i.result c.loop-i.chests _ c.in_ok-chest.chest c.loop-i-test.true c.index-met-i.is c.loop-i.invariant c.in_ok-chest.ensures c.in_ok-push_some.ensures
