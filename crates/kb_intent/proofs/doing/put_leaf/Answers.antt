-- Where a directory stands nothing is put.
use Rattle.std.proofs.Common.{true}
use Rattle.kb_world.specs.Tree.{node_at, is_dir}
use Rattle.kb_intent.specs.Doing.{put_staged_at}
use Rattle.kb_intent.proofs.StepsToLaws.{steps_since, steps_none, steps_stopped, answered, unput_taken}
use Rattle.kb_intent.proofs.doing.put_leaf.Goals as goal

pub returns-in-Ok-true : goal.returns-in-Ok-true
returns-in-Ok-true g c =
    let old = g.W.World.state c.args.world.now in
    let taken = answered c.in-Ok-true.field-0 true old (λ tree. is_dir (node_at tree c.args.target.now)) c.in-Ok-true.ensures.told c.in-Ok-true.field-0-test in
    steps_none (put_staged_at c.args.staged.now c.args.target.now) old (g.W.World.state c.is_directory.new.world) _ c.in-Ok-true.ensures.same (λ tree told. unput_taken c.args.staged.now c.args.target.now tree (taken tree told))

pub returns-in-Ok-false : goal.returns-in-Ok-false
returns-in-Ok-false g c =
    steps_since (put_staged_at c.args.staged.now c.args.target.now) (g.W.World.state c.args.world.now) (g.W.World.state c.is_directory.new.world) _ _ c.put_inside.result c.in-Ok-false.ensures.same c.put_inside.ensures

pub returns-in-Err : goal.returns-in-Err
returns-in-Err g c = steps_stopped (put_staged_at c.args.staged.now c.args.target.now) (g.W.World.state c.args.world.now) (g.W.World.state c.is_directory.new.world) c.in-Err.error c.in-Err.ensures.same
