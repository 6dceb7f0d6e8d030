-- The walk goes on over the entries of a directory, in order.
use Rattle.std.proofs.Common.{◌∙◌, sym, ap, length, ◌+◌, rules}
use Rattle.kb_world.specs.Path.{child}
use Rattle.kb_walk.specs.Walking.{entry_block}
use Rattle.kb_walk.proofs.VisitLaws.{walk_over, entry_passed, entry_left, no_dir, visited_all}
use Rattle.kb_walk.proofs.walking.+walk.Goals as goal

pub visit-returns-clause-met : goal.visit-returns-clause-met
visit-returns-clause-met g t c tree told =
    let there = c.in_ok-names.ensures.same.unchanged.tree ∙ told in
    visited_all tree (g.S.Skips.skips c.args.skips.now) (g.met.S.Skips.deeper c.args.skips.now) c.args.directory.now (g.met.W.World.formed c.args.world.now tree told) c.args.most (length c.args.directory.now + c.args.depth) c.args.walk.now
    c.loop-name.walk c.deref-name-items.result.now c.loop-name.name-index (c.deref-name-items.ensures.value ∙ c.in_ok-names.ensures.names tree told) c.loop-name-test.false (c.loop-name.invariant.met tree there)

pub visit_entry-returns-then-is_some-clause-met : goal.visit_entry-returns-then-is_some-clause-met
visit_entry-returns-then-is_some-clause-met g t c tree told =
    sym (walk_over tree c.args.most (length c.args.directory.now + c.args.depth) c.args.walk.now (entry_block tree (g.S.Skips.skips c.args.skips.now) c.args.directory.now c.args.name.now) (sym c.is_some.ensures ∙ c.if-is_some.true))

pub visit_entry-returns-then-is_passed-clause-met : goal.visit_entry-returns-then-is_passed-clause-met
visit_entry-returns-then-is_passed-clause-met g t c tree told =
    entry_passed tree (g.S.Skips.skips c.args.skips.now) c.args.directory.now c.args.name.now c.args.most c.args.depth c.args.walk.now c.in_ok-path.path c.in_ok-kind.kind (c.in_ok-path.ensures ∙ ap (child c.args.directory.now) c.as_str.ensures)
    (sym c.is_some.ensures ∙ c.if-is_some.false) (sym c.skips.ensures ∙ c.if-skips.false) (c.in_ok-kind.ensures.kind tree told) (sym c.is_passed.ensures ∙ c.if-is_passed.true)

pub visit_entry-returns-clause-met : goal.visit_entry-returns-clause-met
visit_entry-returns-clause-met g t c tree told =
    entry_left tree (g.S.Skips.skips c.args.skips.now) c.args.directory.now c.args.name.now c.args.most c.args.depth c.args.walk.now c.in_ok-path.path c.in_ok-kind.kind c.push.new.self c.in_ok-clone.field-0
    (c.in_ok-path.ensures ∙ ap (child c.args.directory.now) c.as_str.ensures) (sym c.is_some.ensures ∙ c.if-is_some.false) (sym c.skips.ensures ∙ c.if-skips.false) (c.in_ok-kind.ensures.kind tree told)
    (sym c.is_passed.ensures ∙ c.if-is_passed.false) (g.met.W.World.formed c.args.world.now tree told) (no_dir c.in_ok-kind.kind c.in_default.not-Dir) c.in_ok-push.ensures.ok (search rules)
