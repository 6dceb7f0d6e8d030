use Rattle.std.proofs.Common.{◌∙◌}
use Rattle.kb_bls.proofs.PrintLaws.{fields_stand}
use Rattle.kb_bls.proofs.print.can_be_printed.Goals as goal

pub returns : goal.returns
returns c = c.can_all_stand.ensures ∙ fields_stand c.args.entry.now c.values_by_key.result c.values_by_key.ensures
