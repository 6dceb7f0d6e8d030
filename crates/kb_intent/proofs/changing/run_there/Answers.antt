-- The child is run.
use Rattle.kb_intent.proofs.RunLaws.{does_run, stops_run}
use Rattle.kb_intent.proofs.changing.run_there.Goals as goal

pub returns-in-Ok : goal.returns-in-Ok
returns-in-Ok g c =
    does_run c.args.roots.now c.args.request.now (g.W.World.state c.args.world.now) (g.W.World.state c.run.new.self) c.requires.rooted c.requires.there (g.met.W.World.formed c.args.world.now) (g.met.W.World.formed c.run.new.self)
    c.in-Ok.reply c.in-Ok.ensures

pub returns-in-Err : goal.returns-in-Err
returns-in-Err g c =
    stops_run c.args.roots.now c.args.request.now (g.W.World.state c.args.world.now) (g.W.World.state c.run.new.self) c.requires.rooted c.requires.there (g.met.W.World.formed c.args.world.now) (g.met.W.World.formed c.run.new.self)
    c.in-Err.error c.in-Err.ensures
