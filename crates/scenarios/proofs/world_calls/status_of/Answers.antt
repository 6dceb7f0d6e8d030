-- Whatever the setting is, the call leaves the roots.
use Rattle.kb_top.proofs.StartLaws.{starts_rooted}
use Rattle.scenarios.proofs.world_calls.status_of.Goals as goal

pub returns : goal.returns
returns c = starts_rooted c.args.setting.now c.args.words.now _ _ c.start.result c.start.ensures
