-- The word tells the area.
use Rattle.std.proofs.Common.{sym, ap, ◌∙◌}
use Rattle.kb_world.specs.declared.child.Area.TheVariants as areas
use Rattle.kb_journal.proofs.WordLaws.{is_under_area, took}
use Rattle.kb_journal.proofs.read_change.read_area.Goals as goal

pub returns-in-Ok : goal.returns-in-Ok
returns-in-Ok c area more good front =
    let next = took c.next.result c.args.fields.now c.next.new.self c.in-Some.word c.in-Some.is c.next.ensures in
    let under = is_under_area area c.in-Some.word c.next.new.self more (sym c.is_word-else-is_word.ensures ∙ c.if-is_word-2.true) good (sym next ∙ front) in
    let read = c.in-Ok.ensures under.0 more under.2 under.3 in
    (ap areas.Under read.0 ∙ under.1, read.1)

pub returns-then-is_word-2 : goal.returns-then-is_word-2
returns-then-is_word-2 c area more good front =
    let next = took c.next.result c.args.fields.now c.next.new.self c.in-Some.word c.in-Some.is c.next.ensures in
    let under = is_under_area area c.in-Some.word c.next.new.self more (sym c.is_word-else-is_word.ensures ∙ c.if-is_word-2.true) good (sym next ∙ front) in
    c.in-Err.ensures under.0 more under.2 under.3
