use Rattle.std.proofs.Common.{[], List, ℕ, Bor, get_or, map, take, sym, ap, ◌∙◌, arith}
use Rattle.std.specs.Option.{option_or}
use Rattle.kb_token.specs.Variable.{variable_value, value_for, variable_of}
use Rattle.kb_token.proofs.LineLaws.{texts_more}
use Rattle.kb_token.proofs.VariableLaws.{given_more}
use Rattle.kb_token.proofs.variable.given_value.Goals as goal

pub loop-line-preserved : goal.loop-line-preserved
loop-line-preserved c =
    let key = c.args.key.now in
    let i = c.loop-line.line-index in
    let d : Bor (List ℕ) = record { ref_ptr = (0, 0); now = [] } in
    let said = c.value_for.ensures ∙ ap (value_for key) c.in_ok-read_variable.ensures in
    c.or-last.ensures ∙ ap (λ o. option_or o c.loop-line.last) said ∙ ap (option_or (value_for key (variable_of (get_or c.args.lines.now i d).now))) c.loop-line.invariant
    ∙ sym (ap (variable_value key) (texts_more c.args.lines.now i d (omega arith)) ∙ given_more key (map (λ line. line.now) (take i c.args.lines.now)) (get_or c.args.lines.now i d).now)
