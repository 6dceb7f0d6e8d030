-- The file is read first.
use Rattle.kb_intent.proofs.RecoverLaws.{recovers_since, recovers_unseen}
use Rattle.kb_intent.proofs.recovering.recover_file.Goals as goal

pub returns-in-Ok : goal.returns-in-Ok
returns-in-Ok g c =
    recovers_since c.args.roots.now (g.W.World.state c.args.world.now) (g.W.World.state c.read.new.self) (g.W.World.state c.recover_text.new.world) _ c.recover_text.result c.in-Ok.ensures.same c.recover_text.ensures

pub returns-in-Err : goal.returns-in-Err
returns-in-Err g c = recovers_unseen c.args.roots.now (g.W.World.state c.args.world.now) (g.W.World.state c.read.new.self) c.in-Err.error c.from.result c.from.ensures c.in-Err.ensures.same
