-- The names of index files can name entries.
use Rattle.std.proofs.Common.{◌∙◌}
use Rattle.kb_world.proofs.PartLaws.{named_as}
use Rattle.kb_changes.proofs.RunLaws.{index_named}
use Rattle.kb_changes.proofs.runs.are_dropped.Goals as goal

pub child-requires : goal.child-requires
child-requires c = named_as _ _ (c.as_str.ensures ∙ c.name-item.is) (index_named c.args.names.now c.loop-name.name-index c.name-item.result c.requires c.loop-name-test.true)
