-- One path more isn't below those before it.
use Rattle.std.proofs.Common.{◌&&◌, sym, ap, ◌∙◌, drop, ◌+◌}
use Rattle.kb_changes.specs.Valid as rule
use Rattle.kb_changes.proofs.SetLaws.{none_below-nil, deepest_step}
use Rattle.kb_changes.proofs.StepLaws.{next_item}
use Rattle.kb_changes.proofs.ordered.is_deepest_first.Goals as goal

pub loop-path-init : goal.loop-path-init
loop-path-init c = sym (ap (λ b. b && rule.deepest_first c.args.paths.now) (none_below-nil c.new-earlier.result c.args.paths.now c.new-earlier.ensures))

pub loop-path-preserved : goal.loop-path-preserved
loop-path-preserved c =
    let paths = c.args.paths.now in
    let rest = drop (c.loop-path.path-index + 1) paths in
    let next = next_item paths c.loop-path.path-index c.path-item.result c.loop-path-test.true (sym c.path-item.is) in
    c.loop-path.invariant ∙ ap (λ left. rule.none_below c.loop-path.earlier left && rule.deepest_first left) next
    ∙ deepest_step c.loop-path.earlier c.add.new.self rest c.path-item.result c.in_ok-add.ensures.added (sym c.in_ok-has_above.ensures ∙ c.if-branch.false)
