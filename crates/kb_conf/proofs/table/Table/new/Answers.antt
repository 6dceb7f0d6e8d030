use Rattle.kb_conf.proofs.TableLaws.{empty_points}
use Rattle.kb_conf.proofs.table.Table.new.Goals as goal

pub invariant_of-result : goal.invariant_of-result
invariant_of-result c = empty_points _ _ c.new.ensures.items c.new-2.ensures.empty
