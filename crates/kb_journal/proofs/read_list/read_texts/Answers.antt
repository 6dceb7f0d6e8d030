-- One text more.
use Rattle.std.proofs.Common.{◌^◌, [], ◌∷◌, ◌++◌, length, map}
use Rattle.std.specs.Str.{IsUtf8}
use Rattle.kb_changes.specs.Text as rule
use Rattle.kb_journal.proofs.LeftLaws.{as_many, counted_below, counted_over, first_left, next_left, none_left, singles_left}
use Rattle.kb_journal.proofs.read_list.read_texts.Goals as goal

pub loop-init : goal.loop-init
loop-init c texts more good small front =
    let count = c.in-Ok.ensures (length (map rule.text_field texts)) (map rule.text_field texts ++ more) (as_many rule.text_field texts (2 ^ 64) small) front in
    singles_left rule.text_field IsUtf8 texts c.new-texts.result more c.read_number.new.fields good c.new-texts.ensures count.1

pub loop-preserved : goal.loop-preserved
loop-preserved c texts more good small front =
    let count = c.in-Ok.ensures (length (map rule.text_field texts)) (map rule.text_field texts ++ more) (as_many rule.text_field texts (2 ^ 64) small) front in
    next_left (λ text. rule.text_field text ∷ []) IsUtf8 texts c.loop.texts c.push.new.self more c.loop.fields c.read_text.new.fields c.loop.counter c.in-Ok-read_text.text
    (c.loop.invariant texts more good small front) (counted_below rule.text_field texts c.loop.counter c.in-Ok.count count.0 c.loop-test.true) c.in-Ok-read_text.ensures c.in_ok-push-in-Ok-read_text.ensures.ok

pub returns-in-Err-read_text : goal.returns-in-Err-read_text
returns-in-Err-read_text c texts more good small front =
    let count = c.in-Ok.ensures (length (map rule.text_field texts)) (map rule.text_field texts ++ more) (as_many rule.text_field texts (2 ^ 64) small) front in
    let first = first_left (λ text. rule.text_field text ∷ []) IsUtf8 texts c.loop.texts more c.loop.fields c.loop.counter (c.loop.invariant texts more good small front)
    (counted_below rule.text_field texts c.loop.counter c.in-Ok.count count.0 c.loop-test.true) in
    c.in-Err-read_text.ensures first.0 first.1 first.2 first.3

pub returns : goal.returns
returns c texts more good small front =
    let count = c.in-Ok.ensures (length (map rule.text_field texts)) (map rule.text_field texts ++ more) (as_many rule.text_field texts (2 ^ 64) small) front in
    none_left (λ text. rule.text_field text ∷ []) IsUtf8 texts c.loop.texts more c.loop.fields c.loop.counter (c.loop.invariant texts more good small front)
    (counted_over rule.text_field texts c.loop.counter c.in-Ok.count count.0 c.loop-test.false)
