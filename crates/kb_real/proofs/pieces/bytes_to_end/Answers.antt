use Rattle.std.proofs.Common.{◌∙◌, sym, subst}
use Rattle.std.specs.Io.KnownBytes.{Consumes}
use Rattle.kb_real.proofs.PieceLaws.{more_read, none_read}
use Rattle.kb_real.proofs.pieces.bytes_to_end.Goals as goal
use Rattle.kb_real.proofs.pieces.bytes_to_end.Goals.{in-Some+in_ok-push-in-Some, in-None}

pub loop-preserved : goal.loop-preserved
loop-preserved g c =
    let step = c.in_ok-read_once.ensures in
    elim c.match-branch-2.branch [
      | in-Some+in_ok-push-in-Some w ↦ more_read _ _ _ _ _ _ _ w.in-Some.count c.loop.invariant step w.in-Some.is (w.bytes-is ∙ w.in_ok-push-in-Some.ensures.ok)
      | in-None w ↦ subst (Consumes _ _) (sym w.bytes-is) (none_read _ _ _ _ _ _ c.loop.invariant step w.in-None.is)
    ]
