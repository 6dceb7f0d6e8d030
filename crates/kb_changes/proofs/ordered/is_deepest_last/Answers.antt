-- A list that rises falls when it is turned round.
use Rattle.std.proofs.Common.{ap, ◌∙◌}
use Rattle.kb_world.proofs.PartLaws.{ok_is}
use Rattle.kb_changes.specs.Valid as rule
use Rattle.kb_changes.proofs.SetLaws.{deepest_last_turned}
use Rattle.kb_changes.proofs.ordered.is_deepest_last.Goals as goal

pub returns : goal.returns
returns c = ok_is _ _ _ c.is_deepest_first.ensures (ap rule.deepest_first (c.deref.ensures.value ∙ c.reverse.ensures.items) ∙ deepest_last_turned c.args.paths.items)
