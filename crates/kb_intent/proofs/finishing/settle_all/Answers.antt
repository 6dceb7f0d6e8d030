-- One area more is settled.
use Rattle.std.proofs.Common.{rules, ◌+◌, take, Ok, Err}
use Rattle.kb_again.specs.Sparing.{areas_of}
use Rattle.kb_intent.proofs.ClearingLaws.{settles_none, settles_more, settles_all, settles_part}
use Rattle.kb_intent.proofs.finishing.settle_all.Goals as goal

pub loop-change-init : goal.loop-change-init
loop-change-init g c = settles_none (g.W.World.state c.args.world.now) tt

pub returns-in-Err : goal.returns-in-Err
returns-in-Err g c =
    settles_part (areas_of (take (c.loop-change.change-index + 1) c.args.changes.now)) (areas_of c.args.changes.now) (g.W.World.state c.args.world.now) (g.W.World.state c.settle_run.new.world) c.in-Err.error
    (settles_more c.args.changes.now c.loop-change.change-index c.change-item.result (search rules) (search rules) (g.W.World.state c.args.world.now) (g.W.World.state c.loop-change.world) (g.W.World.state c.settle_run.new.world)
    (Err c.in-Err.error) c.loop-change.invariant c.in-Err.ensures)

pub loop-change-preserved : goal.loop-change-preserved
loop-change-preserved g c =
    settles_more c.args.changes.now c.loop-change.change-index c.change-item.result (search rules) (search rules) (g.W.World.state c.args.world.now) (g.W.World.state c.loop-change.world) (g.W.World.state c.settle_run.new.world)
    (Ok tt) c.loop-change.invariant c.in-Ok.ensures

pub returns : goal.returns
returns g c = settles_all c.args.changes.now c.loop-change.change-index (search rules) (g.W.World.state c.args.world.now) (g.W.World.state c.loop-change.world) c.loop-change.invariant
