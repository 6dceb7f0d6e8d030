-- The directory is made where it is to stand in one.
use Rattle.kb_world.specs.Path.{parent}
use Rattle.kb_intent.specs.Doing.{made_dir_at}
use Rattle.kb_intent.proofs.ChangeLaws.{unstepped}
use Rattle.kb_intent.proofs.staging.make_parent.Goals as goal

pub returns-in-Err : goal.returns-in-Err
returns-in-Err g c = unstepped (made_dir_at (parent c.args.path.now)) (g.W.World.state c.args.world.now)

pub returns : goal.returns
returns g c = unstepped (made_dir_at (parent c.args.path.now)) (g.W.World.state c.args.world.now)
