-- Behind the last plus sign stands a counter, or there is none.
use Rattle.std.proofs.Common.{lit<, Some, None}
use Rattle.kb_bls.proofs.NameLaws.{last_found, reads_none, not_counted, counted_by}
use Rattle.kb_bls.specs.Reading.{counted}
use Rattle.kb_bls.proofs.name.counted.Goals as goal

pub returns-in_err-base : goal.returns-in_err-base
returns-in_err-base c =
    reads_none (counted c.args.stem.now) c.from_residual.result c.from_residual.ensures (not_counted c.args.stem.now (last_found 43 c.args.stem.now None (lit< tt) c.in_err-base.ensures.cases))

pub returns-in_err-counter_of : goal.returns-in_err-counter_of
returns-in_err-counter_of c =
    reads_none (counted c.args.stem.now) c.from_residual-in_err-counter_of.result c.from_residual-in_err-counter_of.ensures
    (counted_by c.args.stem.now c.in_ok-base.base.now c.in_ok-base.tries.now None (last_found 43 c.args.stem.now (Some (c.in_ok-base.base, c.in_ok-base.tries)) (lit< tt) c.in_ok-base.ensures.cases) c.in_err-counter_of.ensures)

pub returns : goal.returns
returns c =
    counted_by c.args.stem.now c.in_ok-base.base.now c.in_ok-base.tries.now (Some c.in_ok-counter_of.field-0) (last_found 43 c.args.stem.now (Some (c.in_ok-base.base, c.in_ok-base.tries)) (lit< tt) c.in_ok-base.ensures.cases) c.in_ok-counter_of.ensures
