-- Nothing was begun, for want of memory.
use Rattle.kb_world.specs.Public.{intent_path}
use Rattle.kb_world.specs.Tree.{without}
use Rattle.kb_intent.proofs.EndLaws.{wants_change}
use Rattle.kb_intent.proofs.finishing.drop_journal.Goals as goal

pub returns-in-Err : goal.returns-in-Err
returns-in-Err g c = wants_change (without (intent_path c.args.roots.now)) (g.W.World.state c.args.world.now)
