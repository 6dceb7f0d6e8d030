-- One change more, or their end.
use Rattle.std.proofs.Common.{◌<◌, ◌∷◌, length, codes, sym, subst, ◌∙◌}
use Rattle.kb_changes.specs.Text as rule
use Rattle.kb_journal.proofs.LeftLaws.{fewer, first_left, next_left, not_over}
use Rattle.kb_journal.proofs.WordLaws.{ends, goes_on, some_fields, took}
use Rattle.kb_journal.proofs.read_change.read_changes.Goals as goal

pub returns-then-is_word : goal.returns-then-is_word
returns-then-is_word c changes more good front =
    let next = took c.next.result c.loop.fields c.next.new.self c.in-Some.word c.in-Some.is c.next.ensures in
    ends changes c.loop.changes more c.loop.fields c.next.new.self c.in-Some.word c.loop.counter (c.loop.invariant changes more good front) next (sym c.is_word.ensures ∙ c.if-is_word.true)

pub returns-in-Err : goal.returns-in-Err
returns-in-Err c changes more good front =
    let next = took c.next.result c.loop.fields c.next.new.self c.in-Some.word c.in-Some.is c.next.ensures in
    let part = c.loop.invariant changes more good front in
    let below = goes_on changes c.loop.changes more c.loop.fields c.next.new.self c.in-Some.word c.loop.counter part next (sym c.is_word.ensures ∙ c.if-is_word.false) in
    let first = first_left rule.change_fields rule.IsTextChange changes c.loop.changes (codes "end" ∷ more) c.loop.fields c.loop.counter part below in
    c.in-Err.ensures first.0 first.1 first.2 (sym next ∙ first.3)

pub loop-preserved : goal.loop-preserved
loop-preserved c changes more good front =
    let next = took c.next.result c.loop.fields c.next.new.self c.in-Some.word c.in-Some.is c.next.ensures in
    let part = c.loop.invariant changes more good front in
    let below = goes_on changes c.loop.changes more c.loop.fields c.next.new.self c.in-Some.word c.loop.counter part next (sym c.is_word.ensures ∙ c.if-is_word.false) in
    next_left rule.change_fields rule.IsTextChange changes c.loop.changes c.push.new.self (codes "end" ∷ more) c.loop.fields c.read_change.new.fields c.loop.counter c.in-Ok.change part below
    (λ change behind named is. c.in-Ok.ensures change behind named (sym next ∙ is)) c.in_ok-push-in-Ok.ensures.ok

pub returns : goal.returns
returns c changes more good front =
    let small = subst (λ n. length changes < n) (sym c.len-end.ensures) (fewer rule.change_fields some_fields changes (codes "end") more c.args.fields.now front) in
    absurd (not_over rule.change_fields rule.IsTextChange changes c.loop.changes (codes "end" ∷ more) c.loop.fields c.loop.counter c.len-end.result (c.loop.invariant changes more good front) small c.loop-test.false)
