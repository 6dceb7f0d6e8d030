use Rattle.std.proofs.Common.{arith, get_or}
use Rattle.kb_auto.proofs.RowLaws.{occurs_more, in_list}
use Rattle.kb_auto.proofs.turns.release.Goals as goal

pub free-requires-clause-within : goal.free-requires-clause-within
free-requires-clause-within c = in_list _ c.args.row.now c.loop-place.place-index c.loop-place-test.true c.requires.within

pub free-requires-clause-positive : goal.free-requires-clause-positive
free-requires-clause-positive c =
    let more = occurs_more c.args.row.now c.loop-place.place-index c.loop-place-test.true in
    let had = c.requires.enough (get_or c.args.row.now c.loop-place.place-index 0) in
    let now = c.loop-place.invariant.waits (get_or c.args.row.now c.loop-place.place-index 0) in
    omega (arith, more, had, now)
