-- Where anything stands nothing is made.
use Rattle.std.proofs.Common.{false, not, is_some}
use Rattle.kb_world.specs.Tree.{node_at}
use Rattle.kb_intent.specs.Doing.{made_dir_at}
use Rattle.kb_intent.proofs.StepsToLaws.{steps_since, steps_none, steps_stopped, answered, unmade_taken}
use Rattle.kb_intent.proofs.doing.make_directory.Goals as goal

pub returns-in-Ok-true : goal.returns-in-Ok-true
returns-in-Ok-true g c =
    steps_since (made_dir_at c.args.path.now) (g.W.World.state c.args.world.now) (g.W.World.state c.is_free.new.world) _ _ c.make_inside.result c.in-Ok-true.ensures.same c.make_inside.ensures

pub returns-in-Ok-false : goal.returns-in-Ok-false
returns-in-Ok-false g c =
    let old = g.W.World.state c.args.world.now in
    let taken = answered c.in-Ok-false.field-0 false old (λ tree. not (is_some (node_at tree c.args.path.now))) c.in-Ok-false.ensures.told c.in-Ok-false.field-0-test in
    steps_none (made_dir_at c.args.path.now) old (g.W.World.state c.is_free.new.world) _ c.in-Ok-false.ensures.same (λ tree told. unmade_taken c.args.path.now tree (taken tree told))

pub returns-in-Err : goal.returns-in-Err
returns-in-Err g c = steps_stopped (made_dir_at c.args.path.now) (g.W.World.state c.args.world.now) (g.W.World.state c.is_free.new.world) c.in-Err.error c.in-Err.ensures.same
