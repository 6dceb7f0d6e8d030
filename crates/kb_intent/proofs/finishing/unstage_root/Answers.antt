-- It is a wipe, or nothing was begun.
use Rattle.std.proofs.Common.{subst}
use Rattle.kb_walk.specs.Wipe.{Wipes}
use Rattle.kb_world.specs.Public.{staging_path}
use Rattle.kb_intent.proofs.ClearingLaws.{wants_wipe}
use Rattle.kb_intent.proofs.finishing.unstage_root.Goals as goal

pub returns-in-Ok : goal.returns-in-Ok
returns-in-Ok g c = subst (λ path. Wipes path (g.W.World.state c.args.world.now) (g.W.World.state c.wipe.new.world) c.wipe.result) c.in-Ok.ensures c.wipe.ensures

pub returns-in-Err : goal.returns-in-Err
returns-in-Err g c = wants_wipe (staging_path c.args.root.now) (g.W.World.state c.args.world.now) (g.met.W.World.formed c.args.world.now)
