use Rattle.std.proofs.Common.{◌≡◌, ◌<◌, ◌-◌, ℕ, length, get_or, arith, ap, sym, ◌∙◌}
use Rattle.std.proofs.lemmas.Grind.{get_or_default_zero}
use Rattle.std.proofs.lemmas.List.Edits.{map_over_more}
use Rattle.kb_memory.proofs.failures.count_down.Goals as goal

pub loop-number-preserved : goal.loop-number-preserved
loop-number-preserved c =
    let numbers = c.loop-number.number-items in
    let i = c.loop-number.number-index in
    let here : i < length numbers = omega arith in
    let all : length numbers ≡ length c.args.due.now.items = c.loop-number.auto.number-items ∙ ap length c.deref_mut-number-items.ensures.value in
    let start : i < length c.args.due.now.items = omega arith in
    rw c.saturating_sub.ensures (map_over_more (λ (n : ℕ). n - 1) c.args.due.now.items numbers i (get_or numbers i 0) start c.loop-number.invariant (sym (get_or_default_zero numbers i (get_or numbers i 0) here)))
