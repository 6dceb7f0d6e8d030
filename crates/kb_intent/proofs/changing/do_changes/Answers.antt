-- One change more, in their order.
use Rattle.std.proofs.Common.{rules}
use Rattle.kb_intent.proofs.ChangesLaws.{done_none, loop_more, loop_stopped, loop_wanting, loop_all}
use Rattle.kb_intent.proofs.changing.do_changes.Goals as goal

pub loop-change-init : goal.loop-change-init
loop-change-init g c = done_none c.args.roots.now c.args.changes.now (g.W.World.state c.args.world.now) _ c.new.ensures c.new-2.ensures

pub returns-in-Err : goal.returns-in-Err
returns-in-Err g c =
    loop_stopped c.args.roots.now c.args.changes.now c.loop-change.change-index c.change-item.result (search rules) (search rules) (g.W.World.state c.args.world.now) (g.W.World.state c.loop-change.world)
    (g.W.World.state c.do_change.new.world) c.loop-change.ran c.loop-change.invariant c.in-Err.error c.in-Err.ensures

pub returns-in-Err-keep : goal.returns-in-Err-keep
returns-in-Err-keep g c =
    loop_wanting c.args.roots.now c.args.changes.now c.loop-change.change-index c.change-item.result (search rules) (search rules) (g.W.World.state c.args.world.now) (g.W.World.state c.loop-change.world)
    (g.W.World.state c.do_change.new.world) c.loop-change.ran c.loop-change.invariant c.in-Ok.reply c.in-Ok.ensures

pub loop-change-preserved : goal.loop-change-preserved
loop-change-preserved g c =
    loop_more c.args.roots.now c.args.changes.now c.loop-change.change-index c.change-item.result (search rules) (search rules) (g.W.World.state c.args.world.now) (g.W.World.state c.loop-change.world)
    (g.W.World.state c.do_change.new.world) c.loop-change.ran c.loop-change.invariant c.in-Ok.reply c.keep.new.ran c.in-Ok-keep.ensures.requests c.in-Ok-keep.ensures.replies c.in-Ok.ensures

pub returns : goal.returns
returns g c =
    loop_all c.args.roots.now c.args.changes.now c.loop-change.change-index (g.W.World.state c.args.world.now) (g.W.World.state c.loop-change.world) c.loop-change.ran (search rules) c.loop-change.invariant
