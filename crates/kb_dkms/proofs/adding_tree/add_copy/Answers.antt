-- The warnings come first, and then what refuses the copy is looked for.
use Rattle.std.proofs.Common.{sym, ◌∙◌, refl}
use Rattle.kb_dkms.specs.AddTree.{add_copy}
use Rattle.kb_dkms.proofs.DoesAddTree.{all_met, can_copy, warned_uncopied, warned_copied}
use Rattle.kb_dkms.proofs.WantLaws.{wants_first}
use Rattle.kb_dkms.proofs.adding_tree.add_copy.Goals as goal

pub returns-in_err-warn_unused : goal.returns-in_err-warn_unused
returns-in_err-warn_unused g c =
    let host = c.args.original.source.job.now.host in
    wants_first host.roots (add_copy host (g.W.World.state c.args.world.now).script c.args.original.from.now c.args.original.conf.now) (g.W.World.state c.args.world.now) c.args.report.now _ c.from_residual.result
    c.from_residual.ensures.1

pub returns-in-Err : goal.returns-in-Err
returns-in-Err g c =
    let source = c.args.original.source in
    warned_uncopied source.job.now.host c.args.original.from.now c.args.original.conf.now source.key.now c.requires.key (g.W.World.state c.args.world.now).script _ _ c.args.report.now _ c.in-Err.stop refl
    c.as_slice.result.now c.as_slice.ensures c.in_ok-warn_unused.ensures c.in-Err.ensures.decides

pub copy_and_run-requires-clause-can : goal.copy_and_run-requires-clause-can
copy_and_run-requires-clause-can g c tree told =
    let source = c.args.original.source in
    let was = sym c.in-Ok.ensures.decides.unchanged.tree ∙ told in
    can_copy source.job.now.host.roots source.key.now c.args.original.from.now tree (c.in-Ok.ensures.decides.agrees tree was) c.requires.apart c.requires.named (c.requires.root tree was) (c.requires.src tree was)
    (c.requires.bare tree was) (c.requires.sound tree was)

pub copy_and_run-requires-clause-met : goal.copy_and_run-requires-clause-met
copy_and_run-requires-clause-met g c tree told =
    let source = c.args.original.source in
    let was = sym c.in-Ok.ensures.decides.unchanged.tree ∙ told in
    all_met source.job.now.host.roots source.key.now c.args.original.from.now tree (c.in-Ok.ensures.decides.agrees tree was) c.as_slice-2.result.now (c.as_slice-2.ensures ∙ c.in-Ok.ensures.met tree was)

pub returns : goal.returns
returns g c =
    let source = c.args.original.source in
    warned_copied source.job.now.host c.args.original.from.now c.args.original.conf.now source.key.now c.requires.key _ _ _ c.args.report.now _ _ c.copy_and_run.result c.in-Ok.met refl c.as_slice.result.now c.as_slice.ensures
    c.in_ok-warn_unused.ensures c.in-Ok.ensures.decides c.copy_and_run.ensures
