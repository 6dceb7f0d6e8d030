-- The digest behind the body.
use Rattle.std.proofs.Common.{◌++◌, ap, ◌∙◌}
use Rattle.kb_changes.specs.Text as rule
use Rattle.kb_journal.proofs.SpellLaws.{ended}
use Rattle.kb_journal.proofs.write.write_intent.Goals as goal

pub returns-clause-text : goal.returns-clause-text
unfolding rule.intent_text
returns-clause-text c =
    let body = c.in_ok-out.out in
    let digest = c.as_bytes.ensures.value ∙ c.as_str.ensures ∙ c.in_ok-digest.ensures ∙ ap rule.digest_field c.as_slice.ensures in
    ended body c.push.new.self c.push-2.new.self c.push-3.new.self c.as_bytes.result.now (rule.digest_field body) c.in_ok-push.ensures.ok c.in_ok-push-2.ensures.ok c.in_ok-push-3.ensures.ok digest
    ∙ ap (λ text. text ++ rule.end_line text) c.in_ok-out.ensures.text
