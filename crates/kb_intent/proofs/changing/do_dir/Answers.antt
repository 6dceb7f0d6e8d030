-- It is one file operation.
use Rattle.kb_changes.specs.declared.change.Change.TheVariants as changes
use Rattle.kb_intent.specs.Doing.{made_dir_at}
use Rattle.kb_intent.proofs.ChangeLaws.{does_plain, stops_plain, wants_plain, plain_dir}
use Rattle.kb_intent.proofs.changing.do_dir.Goals as goal

pub returns-in-Err : goal.returns-in-Err
returns-in-Err g c = wants_plain c.args.roots.now (changes.Dir c.args.path.now) (made_dir_at c.args.path.now) (g.W.World.state c.args.world.now) (plain_dir c.args.roots.now _ c.args.path.now)

pub returns-in-Ok-make_directory : goal.returns-in-Ok-make_directory
returns-in-Ok-make_directory g c =
    does_plain c.args.roots.now (changes.Dir c.args.path.now) (made_dir_at c.args.path.now) (g.W.World.state c.args.world.now) (g.W.World.state c.make_directory.new.world) (plain_dir c.args.roots.now _ c.args.path.now) tt c.in-Ok-make_directory.ensures

pub returns : goal.returns
returns g c =
    stops_plain c.args.roots.now (changes.Dir c.args.path.now) (made_dir_at c.args.path.now) (g.W.World.state c.args.world.now) (g.W.World.state c.make_directory.new.world) (plain_dir c.args.roots.now _ c.args.path.now) c.in-Err-make_directory.error
    c.in-Err-make_directory.ensures
