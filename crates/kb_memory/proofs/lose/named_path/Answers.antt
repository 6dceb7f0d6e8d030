use Rattle.std.proofs.Common.{Some, sym, ap, ◌∙◌}
use Rattle.kb_memory.proofs.EffectsLaws.{named_even, named_odd}
use Rattle.kb_memory.proofs.lose.named_path.Goals as goal
use Rattle.kb_memory.proofs.lose.named_path.Goals.{then-number-eq0, else-number-eq0}

pub returns-after-number-eq0 : goal.returns-after-number-eq0
returns-after-number-eq0 c =
    let effect = c.in-Some.effect.now in
    elim c.if-number-eq0.branch [
      | then-number-eq0 w ↦
          ap (λ path. Some path.now) w.result-is ∙ ap (λ path. Some path) w.changed_path.ensures
          ∙ sym (named_even c.args.rows.now c.args.number effect (sym c.in-Some.ensures) w.if-number-eq0.true)
      | else-number-eq0 w ↦
          ap (λ path. Some path.now) w.result-is ∙ ap (λ path. Some path) w.copied_path.ensures
          ∙ sym (named_odd c.args.rows.now c.args.number effect (sym c.in-Some.ensures) w.if-number-eq0.false)
    ]
