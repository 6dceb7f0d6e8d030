-- It is one file operation.
use Rattle.kb_changes.specs.declared.change.Change.TheVariants as changes
use Rattle.kb_intent.specs.Doing.{dropped_leaf_at}
use Rattle.kb_intent.proofs.ChangeLaws.{does_plain, stops_plain, plain_drop}
use Rattle.kb_intent.proofs.changing.do_drop.Goals as goal

pub returns-in-Ok : goal.returns-in-Ok
returns-in-Ok g c =
    does_plain c.args.roots.now (changes.Drop c.args.path.now) (dropped_leaf_at c.args.path.now) (g.W.World.state c.args.world.now) (g.W.World.state c.drop_leaf.new.world) (plain_drop c.args.roots.now _ c.args.path.now) tt c.in-Ok.ensures

pub returns-in-Err : goal.returns-in-Err
returns-in-Err g c =
    stops_plain c.args.roots.now (changes.Drop c.args.path.now) (dropped_leaf_at c.args.path.now) (g.W.World.state c.args.world.now) (g.W.World.state c.drop_leaf.new.world) (plain_drop c.args.roots.now _ c.args.path.now) c.in-Err.error c.in-Err.ensures
