-- One text more.
use Rattle.std.proofs.Common.{rules, ap, ◌∙◌, subst, take_all}
use Rattle.std.specs.Str.{IsUtf8}
use Rattle.std.proofs.lemmas.List.Elements.{All-more, All-same}
use Rattle.kb_changes.specs.Text as rule
use Rattle.kb_journal.proofs.SpellLaws.{mapped_more}
use Rattle.kb_journal.proofs.spell.push_texts.Goals as goal

pub loop-text-preserved : goal.loop-text-preserved
loop-text-preserved c =
    let texts = c.args.texts.now in
    let i = c.loop-text.text-index in
    let x = c.text-item.result in (
      mapped_more rule.text_field texts i x c.args.fields.now.items c.loop-text.fields.items c.push.new.self.items c.in_ok-text_field.field-0 c.loop-text-test.true c.text-item.is
          c.loop-text.invariant.0 c.in_ok-push.ensures.items (c.in_ok-text_field.ensures.field ∙ ap rule.text_field c.as_str.ensures),
      All-more IsUtf8 texts i x c.loop-text-test.true c.loop-text.invariant.1 (subst IsUtf8 (c.as_str.ensures ∙ c.text-item.is) c.in_ok-text_field.ensures.utf8),
    )

pub returns-clause-texts : goal.returns-clause-texts
returns-clause-texts c = All-same IsUtf8 c.args.texts.now _ (search (rules, take_all)) c.loop-text.invariant.1
