-- The set has the Drops.
use Rattle.kb_world.proofs.PartLaws.{ok_is}
use Rattle.kb_changes.specs.Groups.{drops_in, runs_in}
use Rattle.kb_changes.proofs.RunLaws.{fit_runs-same}
use Rattle.kb_changes.proofs.valid.are_fit_runs.Goals as goal

pub returns : goal.returns
returns c =
    let changes = c.args.changes.now in
    ok_is _ _ _ c.are_fit.ensures (fit_runs-same c.args.roots.now c.in_ok-drops.drops (drops_in changes) (runs_in changes) c.in_ok-drops.ensures)
