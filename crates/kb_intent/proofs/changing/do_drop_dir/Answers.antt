-- It is one file operation.
use Rattle.kb_changes.specs.declared.change.Change.TheVariants as changes
use Rattle.kb_world.specs.Steps.{tidied}
use Rattle.kb_intent.proofs.ChangeLaws.{does_plain, stops_plain, plain_drop_dir}
use Rattle.kb_intent.proofs.changing.do_drop_dir.Goals as goal

pub returns-in-Ok : goal.returns-in-Ok
returns-in-Ok g c =
    does_plain c.args.roots.now (changes.DropDir c.args.path.now) (tidied c.args.path.now) (g.W.World.state c.args.world.now) (g.W.World.state c.drop_directory.new.world) (plain_drop_dir c.args.roots.now _ c.args.path.now) tt c.in-Ok.ensures

pub returns-in-Err : goal.returns-in-Err
returns-in-Err g c =
    stops_plain c.args.roots.now (changes.DropDir c.args.path.now) (tidied c.args.path.now) (g.W.World.state c.args.world.now) (g.W.World.state c.drop_directory.new.world) (plain_drop_dir c.args.roots.now _ c.args.path.now) c.in-Err.error c.in-Err.ensures
