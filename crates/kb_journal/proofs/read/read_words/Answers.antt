-- One word more, or what stands behind them.
use Rattle.std.proofs.Common.{◌∷◌, sym, subst, ◌∙◌}
use Rattle.kb_journal.specs.Reads.{IsNoText}
use Rattle.kb_journal.proofs.EndLaws.{texts_end, texts_go_on}
use Rattle.kb_journal.proofs.WordLaws.{took}
use Rattle.kb_journal.proofs.read.read_words.Goals as goal

pub returns-in-Ok-None : goal.returns-in-Ok-None
returns-in-Ok-None c words end more good none front =
    let next = took c.next.result c.loop.fields c.next.new.self c.in-Some.field c.in-Some.is c.next.ensures in
    let done = texts_end words c.loop.words (end ∷ more) c.loop.fields c.next.new.self c.in-Some.field c.loop.counter (c.loop.invariant words end more good none front) next
    (λ text utf8 is. cc (c.in-Ok-None.field-0-is, c.in-Ok-None.ensures.text text utf8 (c.as_slice.ensures ∙ is))) in
    (done.0, c.in_ok-put_back-in-Ok-None.ensures ∙ done.1)

pub loop-preserved : goal.loop-preserved
loop-preserved c words end more good none front =
    let next = took c.next.result c.loop.fields c.next.new.self c.in-Some.field c.in-Some.is c.next.ensures in
    texts_go_on words c.loop.words c.push.new.self end more c.loop.fields c.next.new.self c.in-Some.field c.in-Ok-Some.word c.loop.counter (c.loop.invariant words end more good none front) next none
    (λ no. cc (c.in-Ok-Some.field-0-is, c.in-Ok-Some.ensures.none (subst IsNoText (sym c.as_slice.ensures) no)))
    (λ text utf8 is. cc (c.in-Ok-Some.field-0-is, c.in-Ok-Some.ensures.text text utf8 (c.as_slice.ensures ∙ is))) c.in_ok-push-in-Ok-Some.ensures.ok
