-- One path more differs from those before it.
use Rattle.std.proofs.Common.{◌&&◌, sym, ap, ◌∙◌, drop, ◌+◌}
use Rattle.kb_changes.specs.Valid as rule
use Rattle.kb_changes.proofs.SetLaws.{none_among-nil, differ_step, not_not}
use Rattle.kb_changes.proofs.StepLaws.{next_item}
use Rattle.kb_changes.proofs.ordered.all_differ.Goals as goal

pub loop-path-init : goal.loop-path-init
loop-path-init c = sym (ap (λ b. b && rule.all_differ c.args.paths.now) (none_among-nil c.new-earlier.result c.args.paths.now c.new-earlier.ensures))

pub loop-path-preserved : goal.loop-path-preserved
loop-path-preserved c =
    let paths = c.args.paths.now in
    let rest = drop (c.loop-path.path-index + 1) paths in
    let next = next_item paths c.loop-path.path-index c.path-item.result c.loop-path-test.true (sym c.path-item.is) in
    c.loop-path.invariant ∙ ap (λ left. rule.none_among c.loop-path.earlier left && rule.all_differ left) next
    ∙ differ_step c.loop-path.earlier c.add.new.self rest c.path-item.result c.in_ok-add.ensures.added (not_not _ (sym c.in_ok-add.ensures.fresh ∙ c.if-not-branch.false))
