-- What is staged comes to its target, in a directory.
use Rattle.std.proofs.Common.{true, false}
use Rattle.kb_world.specs.Tree.{node_at, is_dir, moved}
use Rattle.kb_intent.specs.Doing.{put_staged_at}
use Rattle.kb_intent.proofs.StepsToLaws.{steps_by_call, steps_since, steps_none, steps_stopped, answered, of_parent, told_after, put, unput_homeless}
use Rattle.kb_intent.proofs.doing.put_inside.Goals as goal

pub returns-in-Ok-true : goal.returns-in-Ok-true
returns-in-Ok-true g c =
    let old = g.W.World.state c.args.world.now in
    let mid = g.W.World.state c.is_directory.new.world in
    let there = of_parent true old c.args.parent.now c.args.target.now c.requires.parent (answered c.in-Ok-true.field-0 true old (λ tree. is_dir (node_at tree c.args.parent.now)) c.in-Ok-true.ensures.told c.in-Ok-true.field-0-test) in
    steps_since (put_staged_at c.args.staged.now c.args.target.now) old mid _ _ c.rename.result c.in-Ok-true.ensures.same
    (steps_by_call (put_staged_at c.args.staged.now c.args.target.now) (moved c.args.staged.now c.args.target.now) mid _ c.rename.result
    (told_after old mid _ c.in-Ok-true.ensures.same _ (λ tree told. put c.args.staged.now c.args.target.now tree (c.requires.staged tree told) (c.requires.no_directory tree told) (there tree told))) c.rename.ensures.moved)

pub returns-in-Ok-false : goal.returns-in-Ok-false
returns-in-Ok-false g c =
    let old = g.W.World.state c.args.world.now in
    let there = of_parent false old c.args.parent.now c.args.target.now c.requires.parent (answered c.in-Ok-false.field-0 false old (λ tree. is_dir (node_at tree c.args.parent.now)) c.in-Ok-false.ensures.told c.in-Ok-false.field-0-test) in
    steps_none (put_staged_at c.args.staged.now c.args.target.now) old (g.W.World.state c.is_directory.new.world) _ c.in-Ok-false.ensures.same (λ tree told. unput_homeless c.args.staged.now c.args.target.now tree (there tree told))

pub returns-in-Err : goal.returns-in-Err
returns-in-Err g c = steps_stopped (put_staged_at c.args.staged.now c.args.target.now) (g.W.World.state c.args.world.now) (g.W.World.state c.is_directory.new.world) c.in-Err.error c.in-Err.ensures.same
