-- The copy and the link stand, and the script is run, by one commit.
use Rattle.std.proofs.Common.{◌++◌, ap, ◌∙◌}
use Rattle.std.specs.Prelude.{codes}
use Rattle.kb_dkms.specs.AddTree.{copy_and_run}
use Rattle.kb_dkms.specs.Commit.{endings}
use Rattle.kb_dkms.proofs.AddTreeRun.{copy_commits}
use Rattle.kb_dkms.proofs.CommitPatch.{unprepared, valid_there, root_there, bare_there, did, was_stopped, was_untold}
use Rattle.kb_dkms.proofs.WantLaws.{wants_first, answers_wanting}
use Rattle.kb_dkms.proofs.adding_tree.copy_and_run.Goals as goal

pub returns-in_err-line : goal.returns-in_err-line
returns-in_err-line g c =
    let host = c.args.original.source.job.now.host in
    wants_first host.roots (copy_and_run host (g.W.World.state c.args.world.now).script c.args.original.from.now c.args.original.conf.now) (g.W.World.state c.args.world.now) c.args.report.now _ c.from_residual.result c.from_residual.ensures.1

pub returns-in_err-push : goal.returns-in_err-push
returns-in_err-push g c =
    let host = c.args.original.source.job.now.host in
    wants_first host.roots (copy_and_run host (g.W.World.state c.args.world.now).script c.args.original.from.now c.args.original.conf.now) (g.W.World.state c.args.world.now) c.args.report.now _ c.from_residual-in_err-push.result c.from_residual-in_err-push.ensures.1

pub returns-in_err-request : goal.returns-in_err-request
returns-in_err-request g c =
    let host = c.args.original.source.job.now.host in
    wants_first host.roots (copy_and_run host (g.W.World.state c.args.world.now).script c.args.original.from.now c.args.original.conf.now) (g.W.World.state c.args.world.now) c.args.report.now _ c.from_residual-in_err-request.result c.from_residual-in_err-request.ensures.1

pub returns-in-Err : goal.returns-in-Err
returns-in-Err g c =
    unprepared (copy_and_run c.args.original.source.job.now.host (g.W.World.state c.args.world.now).script c.args.original.from.now c.args.original.conf.now) (g.met.W.World.formed c.args.world.now) c.args.report.now _ c.in-Err.ensures

pub commit-requires-clause-valid : goal.commit-requires-clause-valid
commit-requires-clause-valid g c =
    let source = c.args.original.source in
    let is = copy_commits source.job.now.host c.requires.apart source.key.now c.requires.named c.args.original.from.now c.args.original.conf.now c.requires.key c.args.met.now _ c.as_ref.ensures.value c.in_ok-request.request c.in_ok-request.ensures (g.W.World.state c.args.world.now)
    c.requires.can c.requires.met (g.met.W.World.formed c.args.world.now) in
    valid_there c.requires.apart is c.in-Ok.ensures (g.met.W.World.formed c.prepare_copy.new.world)

pub commit-requires-clause-dkms : goal.commit-requires-clause-dkms
commit-requires-clause-dkms g c =
    let source = c.args.original.source in
    let is = copy_commits source.job.now.host c.requires.apart source.key.now c.requires.named c.args.original.from.now c.args.original.conf.now c.requires.key c.args.met.now _ c.as_ref.ensures.value c.in_ok-request.request c.in_ok-request.ensures (g.W.World.state c.args.world.now)
    c.requires.can c.requires.met (g.met.W.World.formed c.args.world.now) in
    root_there c.requires.apart is c.in-Ok.ensures (g.met.W.World.formed c.prepare_copy.new.world)

pub commit-requires-clause-bare : goal.commit-requires-clause-bare
commit-requires-clause-bare g c =
    let source = c.args.original.source in
    let is = copy_commits source.job.now.host c.requires.apart source.key.now c.requires.named c.args.original.from.now c.args.original.conf.now c.requires.key c.args.met.now _ c.as_ref.ensures.value c.in_ok-request.request c.in_ok-request.ensures (g.W.World.state c.args.world.now)
    c.requires.can c.requires.met (g.met.W.World.formed c.args.world.now) in
    bare_there c.requires.apart is c.in-Ok.ensures (g.met.W.World.formed c.prepare_copy.new.world)

pub returns-in-Err-commit : goal.returns-in-Err-commit
returns-in-Err-commit g c =
    let source = c.args.original.source in
    let is = copy_commits source.job.now.host c.requires.apart source.key.now c.requires.named c.args.original.from.now c.args.original.conf.now c.requires.key c.args.met.now _ c.as_ref.ensures.value c.in_ok-request.request c.in_ok-request.ensures (g.W.World.state c.args.world.now)
    c.requires.can c.requires.met (g.met.W.World.formed c.args.world.now) in
    was_stopped c.requires.apart is c.in-Ok.ensures (g.met.W.World.formed c.prepare_copy.new.world) _ c.args.report.now _ c.in-Err-commit.stop c.in-Err-commit.ensures

pub returns-in_err-push_endings : goal.returns-in_err-push_endings
returns-in_err-push_endings g c =
    let source = c.args.original.source in
    let host = source.job.now.host in
    let is = copy_commits host c.requires.apart source.key.now c.requires.named c.args.original.from.now c.args.original.conf.now c.requires.key c.args.met.now _ c.as_ref.ensures.value c.in_ok-request.request c.in_ok-request.ensures (g.W.World.state c.args.world.now)
    c.requires.can c.requires.met (g.met.W.World.formed c.args.world.now) in
    answers_wanting host.roots (copy_and_run host (g.W.World.state c.args.world.now).script c.args.original.from.now c.args.original.conf.now) _ _ c.args.report.now _ c.from_residual-in_err-push_endings.result c.from_residual-in_err-push_endings.ensures.1
    (was_untold c.requires.apart is c.in-Ok.ensures (g.met.W.World.formed c.prepare_copy.new.world) _ c.args.report.now _ c.in-Ok-commit.replies c.in-Ok-commit.ensures)

pub returns : goal.returns
returns g c =
    let source = c.args.original.source in
    let is = copy_commits source.job.now.host c.requires.apart source.key.now c.requires.named c.args.original.from.now c.args.original.conf.now c.requires.key c.args.met.now _ c.as_ref.ensures.value c.in_ok-request.request c.in_ok-request.ensures (g.W.World.state c.args.world.now)
    c.requires.can c.requires.met (g.met.W.World.formed c.args.world.now) in
    did c.requires.apart is c.in-Ok.ensures (g.met.W.World.formed c.prepare_copy.new.world) _ c.args.report.now _ c.in-Ok-commit.replies c.in-Ok-commit.ensures
    (c.in_ok-push.ensures.ok ∙ ap (λ line. c.args.report.now.out ++ line) (c.as_bytes.ensures.value ∙ c.in_ok-line.ensures.ok))
    (c.in_ok-push_endings.ensures ∙ ap (λ replies. c.args.report.now.err ++ endings (codes "POST_ADD") replies) c.as_slice.ensures)
