-- One directory more isn't in the set.
use Rattle.std.proofs.Common.{sym, ap, ◌∙◌, length, ◌-◌, ◌+◌, arith}
use Rattle.kb_changes.specs.Valid.{is_among_paths}
use Rattle.kb_changes.proofs.SetLaws.{some_above, parent_front, none_between_more, none_from}
use Rattle.kb_changes.proofs.path_set.PathSet.has_above.Goals as goal

pub returns-then-has : goal.returns-then-has
returns-then-has c =
    let path = c.args.path.now in
    let len = ap length c.names-end.ensures.all in
    let is = parent_front path c.loop.above c.in_ok-above-2.above c.loop.counter _ len c.loop-test.true c.loop.invariant.0 c.in_ok-above-2.ensures in
    sym (some_above c.args.self.now path (length path - (c.loop.counter + 1)) (omega (arith, len, c.loop-test.true)) (ap (is_among_paths c.args.self.now) (sym is) ∙ sym c.has.ensures ∙ c.if-has.true))

pub loop-preserved : goal.loop-preserved
loop-preserved c =
    let path = c.args.path.now in
    let len = ap length c.names-end.ensures.all in
    let is = parent_front path c.loop.above c.in_ok-above-2.above c.loop.counter _ len c.loop-test.true c.loop.invariant.0 c.in_ok-above-2.ensures in
    (is, none_between_more c.args.self.now path c.in_ok-above-2.above c.loop.counter _ len c.loop-test.true is (sym c.has.ensures ∙ c.if-has.false) c.loop.invariant.1)

pub returns : goal.returns
returns c = sym (none_from c.args.self.now c.args.path.now c.loop.counter _ (ap length c.names-end.ensures.all) c.loop-test.false c.loop.invariant.1)
