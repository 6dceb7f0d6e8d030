use Rattle.std.proofs.Common.{List, ℕ, Option, Some, sym, ap, ◌∙◌}
use Rattle.std.specs.Prelude.{option_map}
use Rattle.kb_token.specs.declared.variable.Variable.{Variable}
use Rattle.kb_token.proofs.VariableLaws.{variable_read, variable_none}
use Rattle.kb_token.proofs.variable.read_variable.Goals as goal

pub returns-in_ok-of-in-Some-2 : goal.returns-in_ok-of-in-Some-2
returns-in_ok-of-in-Some-2 c =
    let with : List ℕ → Option (List ℕ) → Option Variable = λ key told. option_map (λ value. record { key = key; value = value }) told in
    let read = variable_read c.args.line.now c.in-Some.key.now c.in-Some.spelling.now c.trimmed.result.now c.in_ok-value-in-Some.field-0 c.in-Some.ensures.0 c.in-Some.ensures.1 c.trimmed.ensures c.in_ok-value-in-Some.ensures in
    ap (λ k. with k (Some c.in-Some-2.value)) c.in_ok-of-in-Some-2.ensures ∙ ap (with c.in-Some.key.now) (sym c.in-Some-2.is) ∙ sym read

pub returns-in-None-2 : goal.returns-in-None-2
returns-in-None-2 c =
    let with : Option (List ℕ) → Option Variable = λ told. option_map (λ value. record { key = c.in-Some.key.now; value = value }) told in
    let read = variable_read c.args.line.now c.in-Some.key.now c.in-Some.spelling.now c.trimmed.result.now c.in_ok-value-in-Some.field-0 c.in-Some.ensures.0 c.in-Some.ensures.1 c.trimmed.ensures c.in_ok-value-in-Some.ensures in
    ap with (sym c.in-None-2.is) ∙ sym read

pub returns-in-None : goal.returns-in-None
returns-in-None c = sym (variable_none c.args.line.now c.in-None.ensures)
