use Rattle.std.proofs.Common.{◌++◌, ◌∷◌, [], List, ℕ, Bor, Option, get_or, map, take, sym, ap, ◌∙◌, arith}
use Rattle.std.specs.Prelude.{filter_map}
use Rattle.kb_token.specs.Facts.{unused_warning}
use Rattle.kb_token.specs.Variable.{variable_of}
use Rattle.kb_token.proofs.LineLaws.{texts_more}
use Rattle.kb_token.proofs.WarningLaws.{warned, not_warned}
use Rattle.kb_token.proofs.warnings.warn_of_conf.Goals as goal
use Rattle.kb_token.proofs.warnings.warn_of_conf.Goals.{in-Some+in_ok-push, in_default}

pub loop-line-preserved : goal.loop-line-preserved
loop-line-preserved c =
    let lines = c.deref-line-items.result.now in
    let i = c.loop-line.line-index in
    let d : Bor (List ℕ) = record { ref_ptr = (0, 0); now = [] } in
    let line = (get_or lines i d).now in
    let before = c.args.warnings.now in
    let so_far = map (λ line. line.now) (take i lines) in
    let warning : List ℕ → Option (List ℕ) = λ line. unused_warning (variable_of line) in
    let said = sym (c.in_ok-warning.ensures ∙ ap unused_warning c.in_ok-read_variable.ensures) in
    let more = ap (λ texts. before ++ filter_map warning texts) (sym (texts_more lines i d (omega arith))) in
    elim c.match-branch-4.branch [
      | in-Some+in_ok-push w ↦
          w.warnings-is ∙ w.in_ok-push.ensures.ok ∙ ap (λ t. t ++ w.in-Some.warning ∷ []) c.loop-line.invariant ∙ warned warning before so_far line w.in-Some.warning (said ∙ w.in-Some.is) ∙ more
      | in_default w ↦ w.warnings-is ∙ c.loop-line.invariant ∙ not_warned warning before so_far line (said ∙ w.in_default.is) ∙ more
    ]
