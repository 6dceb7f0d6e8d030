use Rattle.std.proofs.Common.{◌∙◌}
use Rattle.kb_real.proofs.PieceLaws.{more_counted, none_read}
use Rattle.kb_real.proofs.pieces.length_to_end.Goals as goal
use Rattle.kb_real.proofs.pieces.length_to_end.Goals.{in-Some, in-None}

pub loop-preserved : goal.loop-preserved
loop-preserved g c =
    let (read, counted, consumed) = c.loop.invariant in
    let step = c.in_ok-read_once.ensures in
    elim c.match-branch-2.branch [
      | in-Some w ↦ more_counted _ _ _ read _ _ _ w.in-Some.count _ counted consumed step w.in-Some.is (w.len-is ∙ w.saturating_add-len.ensures)
      | in-None w ↦ (read, w.len-is ∙ counted, none_read _ _ _ read _ _ consumed step w.in-None.is)
    ]
