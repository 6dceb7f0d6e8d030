-- A file or a link goes, and nothing else.
use Rattle.std.proofs.Common.{true, false}
use Rattle.kb_world.specs.Tree.{node_at, is_leaf, without}
use Rattle.kb_intent.specs.Doing.{dropped_leaf_at}
use Rattle.kb_intent.proofs.StepsToLaws.{steps_by_call, steps_since, steps_none, steps_stopped, answered, told_after, dropped, undropped}
use Rattle.kb_intent.proofs.doing.drop_leaf.Goals as goal

pub returns-in-Ok-true : goal.returns-in-Ok-true
returns-in-Ok-true g c =
    let old = g.W.World.state c.args.world.now in
    let mid = g.W.World.state c.is_leaf.new.world in
    let there = answered c.in-Ok-true.field-0 true old (λ tree. is_leaf (node_at tree c.args.path.now)) c.in-Ok-true.ensures.told c.in-Ok-true.field-0-test in
    steps_since (dropped_leaf_at c.args.path.now) old mid _ _ c.unlink.result c.in-Ok-true.ensures.same
    (steps_by_call (dropped_leaf_at c.args.path.now) (without c.args.path.now) mid _ c.unlink.result
    (told_after old mid _ c.in-Ok-true.ensures.same _ (λ tree told. dropped c.args.path.now tree (there tree told))) c.unlink.ensures.gone)

pub returns-in-Ok-false : goal.returns-in-Ok-false
returns-in-Ok-false g c =
    let old = g.W.World.state c.args.world.now in
    let none = answered c.in-Ok-false.field-0 false old (λ tree. is_leaf (node_at tree c.args.path.now)) c.in-Ok-false.ensures.told c.in-Ok-false.field-0-test in
    steps_none (dropped_leaf_at c.args.path.now) old (g.W.World.state c.is_leaf.new.world) _ c.in-Ok-false.ensures.same (λ tree told. undropped c.args.path.now tree (none tree told))

pub returns-in-Err : goal.returns-in-Err
returns-in-Err g c = steps_stopped (dropped_leaf_at c.args.path.now) (g.W.World.state c.args.world.now) (g.W.World.state c.is_leaf.new.world) c.in-Err.error c.in-Err.ensures.same
