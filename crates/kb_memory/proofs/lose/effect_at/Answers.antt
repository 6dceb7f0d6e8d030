use Rattle.std.proofs.Common.{◌≡◌, ◌+◌, ◌-◌, ◌<◌, length, sym, ap, ◌∙◌, arith}
use Rattle.std.specs.List.{slice_get}
use Rattle.kb_memory.proofs.EffectsLaws.{effect_here, effect_later, got}
use Rattle.kb_memory.proofs.lose.effect_at.Goals as goal

pub returns-then-left-effects : goal.returns-then-left-effects
returns-then-left-effects c =
    let row = c.row-item.result in
    let left = c.loop-row.left in
    let less : left < length row.effects = omega (arith, c.if-left-effects.true, ap length c.as_slice-effects.ensures) in
    got c.get.result c.as_slice-effects.result.now left c.if-left-effects.true c.get.ensures.lookup.1 (c.get.ensures.lookup.2 c.if-left-effects.true) ∙ ap (λ effects. slice_get effects left) c.as_slice-effects.ensures
    ∙ sym (effect_here c.args.rows.now c.loop-row.row-index row c.loop-row-test.true c.row-item.is left less) ∙ c.loop-row.invariant

pub loop-row-preserved : goal.loop-row-preserved
loop-row-preserved c =
    let row = c.row-item.result in
    let left = c.loop-row.left in
    let effects = c.as_slice-effects.result.now in
    let split : left ≡ length row.effects + (left - length effects) = omega (arith, c.if-left-effects.false, ap length c.as_slice-effects.ensures) in
    effect_later c.args.rows.now c.loop-row.row-index row c.loop-row-test.true c.row-item.is left (left - length effects) split ∙ c.loop-row.invariant
