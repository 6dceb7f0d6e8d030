-- A directory without entries goes, and nothing else.
use Rattle.std.proofs.Common.{false}
use Rattle.kb_world.specs.Steps.{tidied}
use Rattle.kb_world.specs.Tree.{node_at, is_dir}
use Rattle.kb_intent.proofs.StepsToLaws.{steps_since, steps_none, steps_stopped, answered, untidied_other}
use Rattle.kb_intent.proofs.doing.drop_directory.Goals as goal

pub returns-in-Ok-true : goal.returns-in-Ok-true
returns-in-Ok-true g c =
    steps_since (tidied c.args.path.now) (g.W.World.state c.args.world.now) (g.W.World.state c.is_directory.new.world) _ _ c.drop_if_empty.result c.in-Ok-true.ensures.same c.drop_if_empty.ensures

pub returns-in-Ok-false : goal.returns-in-Ok-false
returns-in-Ok-false g c =
    let old = g.W.World.state c.args.world.now in
    let other = answered c.in-Ok-false.field-0 false old (λ tree. is_dir (node_at tree c.args.path.now)) c.in-Ok-false.ensures.told c.in-Ok-false.field-0-test in
    steps_none (tidied c.args.path.now) old (g.W.World.state c.is_directory.new.world) _ c.in-Ok-false.ensures.same (λ tree told. untidied_other tree c.args.path.now (other tree told))

pub returns-in-Err : goal.returns-in-Err
returns-in-Err g c = steps_stopped (tidied c.args.path.now) (g.W.World.state c.args.world.now) (g.W.World.state c.is_directory.new.world) c.in-Err.error c.in-Err.ensures.same
