use Rattle.std.proofs.Common.{List, Option, sym, subst, arith}
use Rattle.kb_conf.specs.Assignment.{Assignment, Given}
use Rattle.kb_conf.specs.Line.{IsStep}
use Rattle.kb_conf.specs.Value.{scope}
use Rattle.kb_conf.specs.LineViews.{view_step, step_view}
use Rattle.kb_conf.specs.Only.{IsOnly}
use Rattle.kb_conf.specs.declared.line.Step as code
use Rattle.kb_conf.proofs.ReadingLaws.{SoFar, so_far_step, good, stuck, broken, bad_at, ended}
use Rattle.kb_conf.proofs.reading.read_text.Goals as goal

pub returns-in_default-clause-bad : goal.returns-in_default-clause-bad
returns-in_default-clause-bad c =
    let g : Given = c.args.given.now in
    let none = subst (λ (o : Option code.Step). IsOnly (IsStep (scope g c.items.table) c.items.position c.items.rest.now) (step_view o)) c.in_default.is c.in_ok-step.ensures in
    bad_at g c.args.text.now c.items.rest.now c.bad_line.result (stuck g c.args.text.now c.items.table c.items.position c.items.rest.now c.items.invariant none) (sym c.items-test.ensures) c.bad_line.ensures

pub returns-then-text-behind-clause-bad : goal.returns-then-text-behind-clause-bad
returns-then-text-behind-clause-bad c =
    let g : Given = c.args.given.now in
    let only = subst (λ (o : Option code.Step). IsOnly (IsStep (scope g c.items.table) c.items.position c.items.rest.now) (step_view o)) c.in-Some.is c.in_ok-step.ensures in
    bad_at g c.args.text.now c.items.rest.now c.bad_line-then-text-behind.result
    (broken g c.args.text.now c.items.table c.items.position c.items.rest.now (view_step c.in-Some.step) c.items.invariant only (omega (arith, c.if-text-behind.true, c.sound_len-sound.ensures)))
    (sym c.items-test.ensures) c.bad_line-then-text-behind.ensures

pub items-preserved : goal.items-preserved
items-preserved c =
    let g : Given = c.args.given.now in
    let only = subst (λ (o : Option code.Step). IsOnly (IsStep (scope g c.items.table) c.items.position c.items.rest.now) (step_view o)) c.in-Some.is c.in_ok-step.ensures in
    subst (λ (x : List Assignment). SoFar g c.args.text.now x c.in-Some.step.position c.in-Some.step.rest.now) (sym c.in_ok-table.ensures)
    (so_far_step g c.args.text.now c.items.table c.items.position c.items.rest.now (view_step c.in-Some.step) c.items.invariant only (omega (arith, c.if-text-behind.false, c.sound_len-sound.ensures)))

pub returns-clause-good : goal.returns-clause-good
returns-clause-good c = good c.args.given.now c.args.text.now c.items.table c.items.position c.items.rest.now c.items.invariant (ended c.items.rest.now (sym c.items-test.ensures))
