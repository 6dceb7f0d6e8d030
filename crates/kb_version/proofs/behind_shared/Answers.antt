use Rattle.std.proofs.Common.{◌≡◌, ℕ, length-take, length-drop, ◌<◌, [], length, get_or, false, refl, ◌∙◌, arith, rules}
use Rattle.std.specs.Char.{is_ascii_alphanumeric}
use Rattle.kb_version.proofs.Shared.{shares-more, items_order-tail_of}
use Rattle.kb_version.proofs.behind_shared.Goals as goal

pub loop-left_rest-preserved : goal.loop-left_rest-preserved
loop-left_rest-preserved c =
    let step = c.loop-left_rest in
    let some_left : 0 < length step.left_rest.now = omega arith in
    let some_right : 0 < length step.right_rest.now = omega arith in
    let same : get_or step.left_rest.now 0 0 ≡ get_or step.right_rest.now 0 0 = omega arith in
    record {
      same = step.invariant.same;
      shared = shares-more step.left.now step.right.now step.left_rest.now step.right_rest.now step.invariant.shared some_left some_right same;
      shorter = step.invariant.shorter;
      within = omega (arith, length-take {A = ℕ}, length-drop {A = ℕ});
    }

pub loop-left_rest-preserved-then-not-is_ascii_alphanumeric : goal.loop-left_rest-preserved-then-not-is_ascii_alphanumeric
loop-left_rest-preserved-then-not-is_ascii_alphanumeric c =
    let step = c.loop-left_rest in
    let some_left : 0 < length step.left_rest.now = omega arith in
    let some_right : 0 < length step.right_rest.now = omega arith in
    let same : get_or step.left_rest.now 0 0 ≡ get_or step.right_rest.now 0 0 = omega arith in
    let apart : is_ascii_alphanumeric (get_or step.left_rest.now 0 0) ≡ false = search rules in
    record {
      same = items_order-tail_of step.left.now step.right.now step.left_rest.now step.right_rest.now step.invariant.shared some_left some_right same apart ∙ step.invariant.same;
      shared = record { run = []; left_is = refl; right_is = refl };
      shorter = omega (arith, length-take {A = ℕ}, length-drop {A = ℕ});
      within = omega arith;
    }
