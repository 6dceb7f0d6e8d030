use Rattle.std.proofs.Common.{List, ℕ, Option, sym, ◌∙◌, subst}
use Rattle.std.specs.Borrow.{Bor}
use Rattle.std.proofs.lemmas.Bool.{false≢true}
use Rattle.kb_conf.specs.Line.{AssignmentAt}
use Rattle.kb_conf.specs.Value.{scope}
use Rattle.kb_conf.specs.LineViews.{assignment_view}
use Rattle.kb_conf.specs.Only.{IsOnly}
use Rattle.kb_conf.specs.Table.{view_assignment}
use Rattle.kb_conf.specs.Value.{Scope}
use Rattle.kb_conf.specs.declared.table.Assignment as code
use Rattle.kb_conf.proofs.StepLaws.{the_plain, step_sets, the_set}
use Rattle.kb_conf.proofs.line.read_step.Goals as goal

pub returns-in-Some : goal.returns-in-Some
returns-in-Some c = the_plain (scope c.args.given.now c.args.earlier.now) c.args.position c.args.text.now c.in-Some.position c.in-Some.rest.now (sym c.in-Some.ensures)

pub returns-then-not-may_set : goal.returns-then-not-may_set
returns-then-not-may_set c = λ y h.
    false≢true (c.if-not-may_set.ensures ∙ (step_sets (scope c.args.given.now c.args.earlier.now) c.args.position c.args.text.now (sym c.in_default.ensures) y h).stands)

pub returns-in_default-2 : goal.returns-in_default-2
returns-in_default-2 c = λ y h.
    let s : Scope = scope c.args.given.now c.args.earlier.now in
    let none = subst (λ (o : Option (code.Assignment × Bor (List ℕ))). IsOnly (AssignmentAt s c.args.text.now) (assignment_view o)) c.in_default-2.is c.in_ok-assignment.ensures in
    let found = step_sets s c.args.position c.args.text.now (sym c.in_default.ensures) y h in
    none (found.made, y.rest) found.read

pub returns : goal.returns
returns c =
    let s : Scope = scope c.args.given.now c.args.earlier.now in
    let only = subst (λ (o : Option (code.Assignment × Bor (List ℕ))). IsOnly (AssignmentAt s c.args.text.now) (assignment_view o)) c.in-Some-2.is c.in_ok-assignment.ensures in
    the_set s c.args.position c.args.text.now (view_assignment c.in-Some-2.assignment) c.in-Some-2.rest.now (sym c.in_default.ensures) (sym c.if-not-may_set.ensures) only
