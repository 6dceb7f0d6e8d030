use Rattle.std.proofs.Common.{◌∙◌}
use Rattle.kb_conf.proofs.FieldsLaws.{key_is}
use Rattle.kb_conf.proofs.fields.package_key.Goals as goal

pub returns : goal.returns
returns c = key_is c.args.values.now _ _ (c.in_ok-of.ensures ∙ c.value.ensures) (c.in_ok-of-2.ensures ∙ c.value-2.ensures)
