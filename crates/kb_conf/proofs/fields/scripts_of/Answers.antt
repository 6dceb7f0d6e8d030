use Rattle.kb_conf.proofs.FieldsLaws.{scripts_are}
use Rattle.kb_conf.proofs.fields.scripts_of.Goals as goal

pub returns : goal.returns
returns c = scripts_are c.args.values.now _ _ _ _ _ _ c.in_ok-script.ensures c.in_ok-script-2.ensures c.in_ok-script-3.ensures c.in_ok-script-4.ensures c.in_ok-script-5.ensures c.in_ok-script-6.ensures
