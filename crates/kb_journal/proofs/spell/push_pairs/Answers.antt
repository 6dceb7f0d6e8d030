-- One pair more.
use Rattle.std.proofs.Common.{rules, ℕ, List, ap, ◌∙◌, subst, take_all}
use Rattle.std.specs.Str.{IsUtf8}
use Rattle.std.proofs.lemmas.List.Elements.{All-more, All-same}
use Rattle.kb_changes.specs.Text as rule
use Rattle.kb_journal.proofs.SpellLaws.{flat_more, two_more}
use Rattle.kb_journal.proofs.spell.push_pairs.Goals as goal

abbrev IsTextPair : List ℕ × List ℕ → Type 0
IsTextPair pair = IsUtf8 pair.0 × IsUtf8 pair.1

pub loop-pair-preserved : goal.loop-pair-preserved
loop-pair-preserved c =
    let pairs = c.args.pairs.now in
    let i = c.loop-pair.pair-index in
    let x = c.pair-item.result in
    let pushed = two_more c.loop-pair.fields.items c.push.new.self.items c.push-in-loop-pair.new.self.items c.in_ok-text_field.field-0 c.in_ok-text_field-2.field-0
    (rule.text_field x.0) (rule.text_field x.1) c.in_ok-push.ensures.items c.in_ok-push-2.ensures.items
    (c.in_ok-text_field.ensures.field ∙ ap rule.text_field c.as_str.ensures) (c.in_ok-text_field-2.ensures.field ∙ ap rule.text_field c.as_str-in-loop-pair.ensures) in (
      flat_more rule.pair_field pairs i x c.args.fields.now.items c.loop-pair.fields.items c.push-in-loop-pair.new.self.items c.loop-pair-test.true c.pair-item.is c.loop-pair.invariant.0 pushed,
      All-more IsTextPair pairs i x c.loop-pair-test.true c.loop-pair.invariant.1
          (subst IsTextPair c.pair-item.is (subst IsUtf8 c.as_str.ensures c.in_ok-text_field.ensures.utf8, subst IsUtf8 c.as_str-in-loop-pair.ensures c.in_ok-text_field-2.ensures.utf8)),
    )

pub returns-clause-pairs : goal.returns-clause-pairs
returns-clause-pairs c = All-same IsTextPair c.args.pairs.now _ (search (rules, take_all)) c.loop-pair.invariant.1
