use Rattle.std.proofs.Common.{Ok, Err}
use Rattle.kb_world.specs.Layout.{whole_tree}
use Rattle.kb_walk.specs.declared.walking.Met.{Met}
use Rattle.kb_world.specs.declared.sequence.Sequence.{Sequence}
use Rattle.kb_dkms.specs.AddTree as action
use Rattle.kb_dkms.proofs.CopyLaws.{copy_decided}
use Rattle.kb_dkms.proofs.DecideLaws.{decided_ok, decided_stop}
use Rattle.kb_dkms.proofs.copying.meet_source.Goals as goal

pub returns-in-Ok-require_unblocked-clause-decides : goal.returns-in-Ok-require_unblocked-clause-decides
returns-in-Ok-require_unblocked-clause-decides g c =
    decided_ok (λ tree. action.no_copy c.args.source.job.now.host.roots c.args.source.key.now c.args.from.now (whole_tree c.args.source.job.now.host.roots tree)) _ _ c.in-Ok-require_unblocked.field-0 c.in-Ok-meet_small.met
    (copy_decided c.args.source.job.now.host.roots c.requires.apart c.args.source.key.now c.requires.named c.args.source.places.now c.requires.places c.args.from.now _ _ _ _ c.in-Ok.field-0 c.in-Ok-meet_small.met
    (Ok c.in-Ok-require_unblocked.field-0) c.in-Ok.ensures c.in-Ok-meet_small.ensures.decides c.in-Ok-require_unblocked.ensures)

pub returns-in-Err-require_unblocked-clause-decides : goal.returns-in-Err-require_unblocked-clause-decides
returns-in-Err-require_unblocked-clause-decides g c =
    decided_stop (Unit {0}) (Sequence Met) (λ tree. action.no_copy c.args.source.job.now.host.roots c.args.source.key.now c.args.from.now (whole_tree c.args.source.job.now.host.roots tree)) _ _ c.in-Err-require_unblocked.stop
    (copy_decided c.args.source.job.now.host.roots c.requires.apart c.args.source.key.now c.requires.named c.args.source.places.now c.requires.places c.args.from.now _ _ _ _ c.in-Ok.field-0 c.in-Ok-meet_small.met
    (Err c.in-Err-require_unblocked.stop) c.in-Ok.ensures c.in-Ok-meet_small.ensures.decides c.in-Err-require_unblocked.ensures)
