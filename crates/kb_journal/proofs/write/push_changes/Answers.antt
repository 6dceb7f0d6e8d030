-- One line more.
use Rattle.std.proofs.Common.{◌++◌, ap, ◌∙◌, subst}
use Rattle.std.proofs.lemmas.List.Elements.{All-more}
use Rattle.kb_changes.specs.Text as rule
use Rattle.kb_journal.proofs.SpellLaws.{flat_more}
use Rattle.kb_journal.proofs.write.push_changes.Goals as goal

pub loop-change-preserved : goal.loop-change-preserved
loop-change-preserved c =
    let changes = c.args.changes.now in
    let i = c.loop-change.change-index in
    let x = c.change-item.result in (
      flat_more (λ change. rule.line_of_fields (rule.change_fields change)) changes i x c.args.out.now c.loop-change.out c.push_line.new.out c.loop-change-test.true c.change-item.is
          c.loop-change.invariant.0 (c.in_ok-push_line.ensures ∙ ap (λ fields. c.loop-change.out ++ rule.line_of_fields fields) (c.deref.ensures.value ∙ c.in_ok-fields.ensures.fields)),
      All-more rule.IsTextChange changes i x c.loop-change-test.true c.loop-change.invariant.1 (subst rule.IsTextChange c.change-item.is c.in_ok-fields.ensures.change),
    )
