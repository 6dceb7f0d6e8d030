-- What an earlier transaction left is taken away.
use Rattle.std.proofs.Common.{◌∙◌}
use Rattle.kb_intent.proofs.TxnLaws.{begins_wanting, begins_done, begins_stopped}
use Rattle.kb_intent.proofs.txn.Txn.begin.Goals as goal

pub returns-in-Err : goal.returns-in-Err
returns-in-Err g c = begins_wanting c.args.job.now (g.W.World.state c.args.world.now)

pub returns-in-Err-left_places : goal.returns-in-Err-left_places
returns-in-Err-left_places g c = begins_wanting c.args.job.now (g.W.World.state c.args.world.now)

pub returns-in-Ok-wipe_each : goal.returns-in-Ok-wipe_each
returns-in-Ok-wipe_each g c =
    begins_done c.args.job.now c.in-Ok.txn c.in-Ok.ensures c.requires c.deref.result.now (c.deref.ensures.value ∙ c.in-Ok-left_places.ensures) (g.W.World.state c.args.world.now) (g.W.World.state c.wipe_each.new.world) tt
    c.in-Ok-wipe_each.ensures

pub returns-in-Err-wipe_each : goal.returns-in-Err-wipe_each
returns-in-Err-wipe_each g c =
    begins_stopped c.args.job.now c.in-Ok.txn c.in-Ok.ensures c.requires c.deref.result.now (c.deref.ensures.value ∙ c.in-Ok-left_places.ensures) (g.W.World.state c.args.world.now) (g.W.World.state c.wipe_each.new.world)
    c.in-Err-wipe_each.error c.into.result c.into.ensures c.in-Err-wipe_each.ensures
