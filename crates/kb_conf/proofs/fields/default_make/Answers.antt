use Rattle.std.proofs.Common.{◌∙◌}
use Rattle.kb_conf.proofs.FieldsLaws.{default_is}
use Rattle.kb_conf.proofs.fields.default_make.Goals as goal

pub returns : goal.returns
returns c = c.from_string.ensures ∙ c.in_ok-format.ensures.ok ∙ default_is c.args.given.now c.args.values.now _ _ c.value-name.ensures c.value-version.ensures
