-- The words and the changes of a text are those that it was made of.
use Rattle.std.proofs.Common.{◌++◌, map, sym, ap, ◌∙◌}
use Rattle.kb_changes.specs.Text as rule
use Rattle.kb_journal.proofs.TextLaws.{after_words, last_fields, words_left}
use Rattle.kb_journal.proofs.read.read_loosely.Goals as goal

pub returns-in-Err : goal.returns-in-Err
returns-in-Err c intent good is =
    let left = words_left intent c.args.text.now c.in_ok-fields.fields c.skip.new.self c.skip-2.new.self c.skip-3.new.self c.skip-4.new.self good is c.in_ok-fields.ensures
    c.skip.ensures c.skip-2.ensures c.skip-3.ensures c.skip-4.ensures in
    let after = after_words intent.changes (last_fields intent) in
    c.in-Err.ensures intent.words after.0 after.1 good.words after.2 (left ∙ ap (λ l. map rule.text_field intent.words ++ l) after.3)

pub returns-in-Ok-read_changes : goal.returns-in-Ok-read_changes
returns-in-Ok-read_changes c intent good is =
    let left = words_left intent c.args.text.now c.in_ok-fields.fields c.skip.new.self c.skip-2.new.self c.skip-3.new.self c.skip-4.new.self good is c.in_ok-fields.ensures
    c.skip.ensures c.skip-2.ensures c.skip-3.ensures c.skip-4.ensures in
    let after = after_words intent.changes (last_fields intent) in
    let words = c.in-Ok.ensures intent.words after.0 after.1 good.words after.2 (left ∙ ap (λ l. map rule.text_field intent.words ++ l) after.3) in
    let changes = c.in-Ok-read_changes.ensures intent.changes (last_fields intent) good.changes (words.1 ∙ sym after.3) in
    λ i. record { words = words.0 i; changes = changes.0 i }

pub returns : goal.returns
returns c intent good is =
    let left = words_left intent c.args.text.now c.in_ok-fields.fields c.skip.new.self c.skip-2.new.self c.skip-3.new.self c.skip-4.new.self good is c.in_ok-fields.ensures
    c.skip.ensures c.skip-2.ensures c.skip-3.ensures c.skip-4.ensures in
    let after = after_words intent.changes (last_fields intent) in
    let words = c.in-Ok.ensures intent.words after.0 after.1 good.words after.2 (left ∙ ap (λ l. map rule.text_field intent.words ++ l) after.3) in
    c.in-Err-read_changes.ensures intent.changes (last_fields intent) good.changes (words.1 ∙ sym after.3)
