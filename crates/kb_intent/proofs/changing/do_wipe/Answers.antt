-- It is a wipe.
use Rattle.kb_intent.proofs.RunLaws.{does_wipe, stops_wipe}
use Rattle.kb_intent.proofs.changing.do_wipe.Goals as goal

pub returns-in-Ok : goal.returns-in-Ok
returns-in-Ok g c = does_wipe c.args.roots.now c.args.path.now (g.W.World.state c.args.world.now) (g.W.World.state c.wipe.new.world) tt c.in-Ok.ensures

pub returns-in-Err : goal.returns-in-Err
returns-in-Err g c = stops_wipe c.args.roots.now c.args.path.now (g.W.World.state c.args.world.now) (g.W.World.state c.wipe.new.world) c.in-Err.error c.in-Err.ensures
