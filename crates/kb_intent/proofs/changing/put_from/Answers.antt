-- Nothing was begun, for want of memory.
use Rattle.kb_intent.specs.Doing.{put_staged_at}
use Rattle.kb_intent.proofs.ChangeLaws.{unstepped}
use Rattle.kb_intent.proofs.changing.put_from.Goals as goal

pub returns-in-Err : goal.returns-in-Err
returns-in-Err g c = unstepped (put_staged_at c.args.staged.now c.args.target.now) (g.W.World.state c.args.world.now)
