-- Where nothing is staged nothing is put.
use Rattle.std.proofs.Common.{false}
use Rattle.kb_world.specs.Tree.{node_at, is_leaf}
use Rattle.kb_intent.specs.Doing.{put_staged_at}
use Rattle.kb_intent.proofs.StepsToLaws.{steps_since, steps_none, steps_stopped, answered, unput_absent}
use Rattle.kb_intent.proofs.doing.put_staged.Goals as goal

pub returns-in-Ok-true : goal.returns-in-Ok-true
returns-in-Ok-true g c =
    steps_since (put_staged_at c.args.staged.now c.args.target.now) (g.W.World.state c.args.world.now) (g.W.World.state c.is_leaf.new.world) _ _ c.put_leaf.result c.in-Ok-true.ensures.same c.put_leaf.ensures

pub returns-in-Ok-false : goal.returns-in-Ok-false
returns-in-Ok-false g c =
    let old = g.W.World.state c.args.world.now in
    let absent = answered c.in-Ok-false.field-0 false old (λ tree. is_leaf (node_at tree c.args.staged.now)) c.in-Ok-false.ensures.told c.in-Ok-false.field-0-test in
    steps_none (put_staged_at c.args.staged.now c.args.target.now) old (g.W.World.state c.is_leaf.new.world) _ c.in-Ok-false.ensures.same (λ tree told. unput_absent c.args.staged.now c.args.target.now tree (absent tree told))

pub returns-in-Err : goal.returns-in-Err
returns-in-Err g c = steps_stopped (put_staged_at c.args.staged.now c.args.target.now) (g.W.World.state c.args.world.now) (g.W.World.state c.is_leaf.new.world) c.in-Err.error c.in-Err.ensures.same
