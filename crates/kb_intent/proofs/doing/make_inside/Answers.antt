-- The directory is made where its parent is one.
use Rattle.std.proofs.Common.{true, false}
use Rattle.kb_world.specs.Tree.{node_at, is_dir, with_node}
use Rattle.kb_world.specs.declared.tree.Node.TheVariants as nodes
use Rattle.kb_intent.specs.Doing.{made_dir_at}
use Rattle.kb_intent.proofs.StepsToLaws.{steps_by_call, steps_since, steps_none, steps_stopped, answered, of_parent, told_after, made, unmade_homeless}
use Rattle.kb_intent.proofs.doing.make_inside.Goals as goal

pub returns-in-Ok-true : goal.returns-in-Ok-true
returns-in-Ok-true g c =
    let old = g.W.World.state c.args.world.now in
    let mid = g.W.World.state c.is_directory.new.world in
    let there = of_parent true old c.args.parent.now c.args.path.now c.requires.parent (answered c.in-Ok-true.field-0 true old (λ tree. is_dir (node_at tree c.args.parent.now)) c.in-Ok-true.ensures.told c.in-Ok-true.field-0-test) in
    steps_since (made_dir_at c.args.path.now) old mid _ _ c.make_dir.result c.in-Ok-true.ensures.same
    (steps_by_call (made_dir_at c.args.path.now) (with_node c.args.path.now nodes.Dir) mid _ c.make_dir.result
    (told_after old mid _ c.in-Ok-true.ensures.same _ (λ tree told. made c.args.path.now tree (c.requires.free tree told) (there tree told))) c.make_dir.ensures.made)

pub returns-in-Ok-false : goal.returns-in-Ok-false
returns-in-Ok-false g c =
    let old = g.W.World.state c.args.world.now in
    let there = of_parent false old c.args.parent.now c.args.path.now c.requires.parent (answered c.in-Ok-false.field-0 false old (λ tree. is_dir (node_at tree c.args.parent.now)) c.in-Ok-false.ensures.told c.in-Ok-false.field-0-test) in
    steps_none (made_dir_at c.args.path.now) old (g.W.World.state c.is_directory.new.world) _ c.in-Ok-false.ensures.same (λ tree told. unmade_homeless c.args.path.now tree (there tree told))

pub returns-in-Err : goal.returns-in-Err
returns-in-Err g c = steps_stopped (made_dir_at c.args.path.now) (g.W.World.state c.args.world.now) (g.W.World.state c.is_directory.new.world) c.in-Err.error c.in-Err.ensures.same
