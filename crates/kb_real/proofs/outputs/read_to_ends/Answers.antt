use Rattle.std.proofs.Common.{subst}
use Rattle.kb_real.specs.Outputs.{IsReadTo}
use Rattle.kb_real.proofs.outputs.read_to_ends.Goals as goal

pub returns-then-err-clause-out : goal.returns-then-err-clause-out
returns-then-err-clause-out g c = λ first so_far. subst (IsReadTo first _ _) c.if-out.true (c.loop.invariant.out first so_far)

pub returns-then-err-clause-err : goal.returns-then-err-clause-err
returns-then-err-clause-err g c = λ first so_far. subst (IsReadTo first _ _) c.if-err.true (c.loop.invariant.err first so_far)

pub loop-preserved : goal.loop-preserved
loop-preserved g c = record {
  out = λ first so_far. c.in_ok-read_if.ensures first (c.loop.invariant.out first so_far);
  err = λ first so_far. c.in_ok-read_if-2.ensures first (c.loop.invariant.err first so_far);
}
