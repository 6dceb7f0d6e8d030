-- The warnings come first, and then what is in the way is looked at.
use Rattle.std.proofs.Common.{refl}
use Rattle.kb_dkms.specs.Add.{add_with}
use Rattle.kb_dkms.proofs.DoesAdd.{warned_blocked, warned_added}
use Rattle.kb_dkms.proofs.WantLaws.{wants_first}
use Rattle.kb_dkms.proofs.adding.add_with.Goals as goal

pub returns-in_err-warn_unused : goal.returns-in_err-warn_unused
returns-in_err-warn_unused g c =
    let host = c.args.source.job.now.host in
    wants_first host.roots (add_with host (g.W.World.state c.args.world.now).script c.args.source.key.now c.args.conf.now) (g.W.World.state c.args.world.now) c.args.report.now _ c.from_residual.result c.from_residual.ensures.1

pub returns-in-Err : goal.returns-in-Err
returns-in-Err g c =
    let source = c.args.source in
    warned_blocked source.job.now.host c.requires.apart source.key.now c.requires.named (g.W.World.state c.args.world.now).script c.args.conf.now source.places.now c.requires.places _ _
    c.args.report.now _ c.in-Err.stop refl c.as_slice.result.now c.as_slice.ensures c.in_ok-warn_unused.ensures c.in-Err.ensures

pub returns : goal.returns
returns g c =
    let source = c.args.source in
    warned_added source.job.now.host c.requires.apart source.key.now c.requires.named c.args.conf.now source.places.now c.requires.places _ _ _
    c.args.report.now _ _ c.add_and_run.result refl c.as_slice.result.now c.as_slice.ensures c.in_ok-warn_unused.ensures c.in-Ok.ensures c.add_and_run.ensures
