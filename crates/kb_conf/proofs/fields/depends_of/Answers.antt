use Rattle.std.proofs.Common.{[], ap₂, sym, ◌∙◌}
use Rattle.std.specs.Prelude.{codes}
use Rattle.kb_conf.specs.Values.{value_of}
use Rattle.kb_conf.specs.Fields.{with_new}
use Rattle.kb_conf.proofs.FieldsLaws.{fold_map_more}
use Rattle.kb_conf.proofs.fields.depends_of.Goals as goal

pub loop-number-preserved : goal.loop-number-preserved
loop-number-preserved c =
    let more = fold_map_more with_new [] (value_of c.args.values.now (codes "BUILD_DEPENDS")) c.deref-number-items.result.now c.loop-number.number-index 0 c.loop-number-test.true in
    c.in_ok-push_new.ensures ∙ ap₂ with_new c.loop-number.invariant c.value.ensures ∙ sym more
