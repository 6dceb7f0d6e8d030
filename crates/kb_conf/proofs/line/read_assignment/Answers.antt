use Rattle.std.proofs.Common.{◌≡◌, Bool, false, List, ℕ, Option, Some, Vec, Global, sym, ap, subst}
use Rattle.std.specs.Borrow.{Bor}
use Rattle.kb_conf.specs.Assignment.{Assignment}
use Rattle.kb_conf.specs.Line.{AssignmentAt}
use Rattle.kb_conf.specs.Value.{scope}
use Rattle.kb_conf.specs.Only.{IsOnly}
use Rattle.kb_conf.specs.Value.{Scope, IsShortValue}
use Rattle.kb_conf.specs.Views.{view_reference, value_view}
use Rattle.kb_conf.proofs.AssignmentLaws.{no_name, no_equals, no_value, the_assignment, made_of}
use Rattle.kb_conf.proofs.line.read_assignment.Goals as goal

pub returns-in_default : goal.returns-in_default
returns-in_default c = no_name (scope c.args.given.now c.args.earlier.now) c.args.text.now (sym c.in_default.ensures)

pub returns-in_default-after_byte : goal.returns-in_default-after_byte
returns-in_default-after_byte c = no_equals (scope c.args.given.now c.args.earlier.now) c.args.text.now (view_reference c.in-Some.reference) c.in-Some.rest.now (sym c.in-Some.ensures) (sym c.in_default-after_byte.ensures)

pub returns-in_default-2 : goal.returns-in_default-2
returns-in_default-2 c =
    let s : Scope = scope c.args.given.now c.args.earlier.now in
    let behind = c.in-Some-after_byte.rest.now in
    let none = subst (λ (o : Option (Vec ℕ Global × Bor (List ℕ))). IsOnly (IsShortValue s (record { quoted = false; command = c.is_command-command.result }) behind) (value_view o)) c.in_default-2.is c.in_ok-value.ensures in
    let here = subst (λ (b : Bool). (v : List ℕ × List ℕ) → IsShortValue s (record { quoted = false; command = b }) behind v → ⊥) c.is_command-command.ensures none in
    no_value s c.args.text.now (view_reference c.in-Some.reference) c.in-Some.rest.now behind (sym c.in-Some.ensures) (sym c.in-Some-after_byte.ensures) here

pub returns : goal.returns
returns c =
    let s : Scope = scope c.args.given.now c.args.earlier.now in
    let behind = c.in-Some-after_byte.rest.now in
    let r = view_reference c.in-Some.reference in
    let value = c.in-Some-2.value.items in
    let after = c.in-Some-2.rest.now in
    let found = subst (λ (o : Option (Vec ℕ Global × Bor (List ℕ))). IsOnly (IsShortValue s (record { quoted = false; command = c.is_command-command.result }) behind) (value_view o)) c.in-Some-2.is c.in_ok-value.ensures in
    let here = subst (λ (b : Bool). IsOnly (IsShortValue s (record { quoted = false; command = b }) behind) (Some (value, after))) c.is_command-command.ensures found in
    let made : Assignment = record { name = r.name; number = c.unwrap_or.result; value = value } in
    let same : made_of r value ≡ made = ap (λ (n : ℕ). let a : Assignment = record { name = r.name; number = n; value = value } in a) (sym c.unwrap_or.ensures) in
    subst (λ (a : Assignment). IsOnly (AssignmentAt s c.args.text.now) (Some (a, after))) same
    (the_assignment s c.args.text.now r c.in-Some.rest.now behind value after (sym c.in-Some.ensures) (sym c.in-Some-after_byte.ensures) here)
