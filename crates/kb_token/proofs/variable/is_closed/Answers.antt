use Rattle.std.proofs.Common.{◌≡◌, ◌||◌, ◌&&◌, true, not, nat_eq, get_or, drop, ◌+◌, ap, ◌∙◌, arith}
use Rattle.std.proofs.lemmas.Bool.Decides.{nat_tests}
use Rattle.kb_token.specs.Variable.{is_closed, DOUBLE_QUOTE, BACKSLASH}
use Rattle.kb_token.proofs.VariableLaws.{closed_step}
use Rattle.kb_token.proofs.variable.is_closed.Goals as goal
use Rattle.kb_token.proofs.variable.is_closed.Goals.{else-not-behind_backslash-via-then-not-behind_backslash+else-c-eq34, else-not-behind_backslash-via-else-not-behind_backslash, then-not-behind_backslash-2, else-not-behind_backslash-2}

pub loop-c-preserved : goal.loop-c-preserved
loop-c-preserved c =
    let inner = c.args.inner.now in
    let i = c.loop-c.c-index in
    let behind = c.loop-c.behind_backslash in
    let passes : (behind || not (nat_eq (get_or inner i 0) DOUBLE_QUOTE)) ≡ true =
    elim c.else-not-behind_backslash.branch [
      | else-not-behind_backslash-via-then-not-behind_backslash+else-c-eq34 w ↦ grind (arith, nat_tests)
      | else-not-behind_backslash-via-else-not-behind_backslash w ↦ grind (arith, nat_tests)
    ] in
    let next : (not behind && nat_eq (get_or inner i 0) BACKSLASH) ≡ c.if-not-behind_backslash-2.behind_backslash =
    elim c.if-not-behind_backslash-2.branch [ then-not-behind_backslash-2 w ↦ grind (arith, nat_tests) | else-not-behind_backslash-2 w ↦ grind (arith, nat_tests) ] in
    c.loop-c.invariant ∙ closed_step inner i behind (omega arith)
    ∙ ap (λ t. t && is_closed (not behind && nat_eq (get_or inner i 0) BACKSLASH) (drop (i + 1) inner)) passes ∙ ap (λ t. is_closed t (drop (i + 1) inner)) next
