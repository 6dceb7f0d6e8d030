use Rattle.std.proofs.Common.{◌∙◌, ap, map}
use Rattle.std.specs.Str.{byte}
use Rattle.kb_conf.specs.Targets.{target_at, begins_with}
use Rattle.kb_conf.proofs.FieldsLaws.{fields_are}
use Rattle.kb_conf.proofs.fields.fields_of.Goals as goal

pub returns : goal.returns
returns c =
    fields_are c.args.given.now c.args.values.now _ _ _ _ _ _ _ _ _ _
    c.in_ok-package_key.ensures
    (c.in_ok-targets_at.ensures ∙ ap (map (target_at c.args.values.now)) (c.deref.ensures.value ∙ c.in_ok-numbers.ensures))
    c.in_ok-patches_of.ensures c.in_ok-make_of.ensures c.in_ok-script.ensures c.in_ok-scripts_of.ensures c.in_ok-depends_of.ensures c.in_ok-is_excluded.ensures
    (c.begins_with.ensures ∙ ap (begins_with (byte "y") (byte "Y")) c.value.ensures) c.in_ok-unused_of.ensures
