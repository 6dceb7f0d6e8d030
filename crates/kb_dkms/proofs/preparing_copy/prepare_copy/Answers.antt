-- A transaction is begun, and copies and the link are staged for it.
use Rattle.std.proofs.Common.{ap, ◌∙◌}
use Rattle.kb_dkms.specs.declared.places.Places.{Places}
use Rattle.kb_dkms.proofs.PrepareLaws.{with_text}
use Rattle.kb_dkms.proofs.PrepareCopy.{begun_src, begun_held, begun_met, copy_unstaged, copied_dkms, copied_held, link_unstaged, copy_unprepared, copy_prepared}
use Rattle.kb_dkms.proofs.preparing_copy.prepare_copy.Goals as goal

pub stage_all_met-requires-clause-there : goal.stage_all_met-requires-clause-there
stage_all_met-requires-clause-there g c =
    begun_src c.args.original.source.job.now c.requires.apart c.args.original.source.key.now c.args.original.from.now c.args.met.now _ _ c.requires.met c.in-Ok.txn c.in-Ok.ensures c.requires.src

pub stage_all_met-requires-clause-staged : goal.stage_all_met-requires-clause-staged
stage_all_met-requires-clause-staged g c =
    begun_held c.args.original.source.job.now c.requires.apart c.args.original.source.key.now c.args.original.from.now c.args.met.now _ _ c.requires.met c.in-Ok.txn c.in-Ok.ensures

pub stage_all_met-requires-clause-met : goal.stage_all_met-requires-clause-met
stage_all_met-requires-clause-met g c =
    begun_met c.args.original.source.job.now c.requires.apart c.args.original.source.key.now c.args.original.from.now c.args.met.now _ _ c.requires.met c.in-Ok.txn c.in-Ok.ensures

pub returns-in-Err-stage_all_met : goal.returns-in-Err-stage_all_met
returns-in-Err-stage_all_met g c =
    copy_unstaged c.args.original.source.job.now c.requires.apart c.args.original.source.key.now c.args.original.from.now c.args.met.now _ _ c.requires.met c.in-Ok.txn c.in-Ok.ensures c.args.request _ _ c.in-Err-stage_all_met.stop
    c.in-Err-stage_all_met.ensures

pub stage_link-requires-clause-there : goal.stage_link-requires-clause-there
stage_link-requires-clause-there g c =
    copied_dkms c.args.original.source.job.now c.requires.apart c.args.original.source.key.now c.args.original.from.now c.args.met.now _ _ c.requires.met c.in-Ok.txn c.in-Ok.ensures _ _ c.in-Ok-stage_all_met.field-0
    c.in-Ok-stage_all_met.ensures c.requires.root

pub stage_link-requires-clause-staged : goal.stage_link-requires-clause-staged
stage_link-requires-clause-staged g c =
    copied_held c.args.original.source.job.now c.requires.apart c.args.original.source.key.now c.args.original.from.now c.args.met.now _ _ c.requires.met c.in-Ok.txn c.in-Ok.ensures _ _ c.in-Ok-stage_all_met.field-0
    c.in-Ok-stage_all_met.ensures

pub returns-in-Err-stage_link : goal.returns-in-Err-stage_link
returns-in-Err-stage_link g c =
    link_unstaged c.args.original.source.job.now c.requires.apart c.args.original.source.key.now c.args.original.from.now c.args.met.now _ _ c.requires.met c.in-Ok.txn c.in-Ok.ensures _ _ c.in-Ok-stage_all_met.field-0
    c.in-Ok-stage_all_met.ensures c.args.request _ _ c.in-Err-stage_link.stop _ c.in-Err-stage_link.ensures

pub returns-in-Err-copy_paths : goal.returns-in-Err-copy_paths
returns-in-Err-copy_paths g c =
    copy_unprepared c.args.original.source.job.now c.requires.apart c.args.original.source.key.now c.args.original.from.now c.args.met.now _ _ c.requires.met c.in-Ok.txn c.in-Ok.ensures _ _ c.in-Ok-stage_all_met.field-0
    c.in-Ok-stage_all_met.ensures c.args.request _ _ c.in-Ok-stage_link.field-0
    (with_text _ c.as_str.result.now _ _ _ _ _ (c.as_str.ensures ∙ ap (λ (p : Places). p.text) c.requires.places) c.in-Ok-stage_link.ensures)

pub returns-in-Ok-add_changes : goal.returns-in-Ok-add_changes
returns-in-Ok-add_changes g c =
    copy_prepared c.args.original.source.job.now c.requires.apart c.args.original.source.key.now c.args.original.from.now c.args.met.now _ _ c.requires.met c.in-Ok.txn c.in-Ok.ensures _ _ c.in-Ok-stage_all_met.field-0
    c.in-Ok-stage_all_met.ensures c.args.request _ _ c.in-Ok-stage_link.field-0
    (with_text _ c.as_str.result.now _ _ _ _ _ (c.as_str.ensures ∙ ap (λ (p : Places). p.text) c.requires.places) c.in-Ok-stage_link.ensures)
    c.args.original.source.places.now c.requires.places c.in-Ok-copy_paths.paths c.in-Ok-copy_paths.ensures c.add_changes.new.txn c.add_changes.ensures.roots c.in-Ok-add_changes.ensures.changes

pub returns-in-Err-add_changes : goal.returns-in-Err-add_changes
returns-in-Err-add_changes g c =
    copy_unprepared c.args.original.source.job.now c.requires.apart c.args.original.source.key.now c.args.original.from.now c.args.met.now _ _ c.requires.met c.in-Ok.txn c.in-Ok.ensures _ _ c.in-Ok-stage_all_met.field-0
    c.in-Ok-stage_all_met.ensures c.args.request _ _ c.in-Ok-stage_link.field-0
    (with_text _ c.as_str.result.now _ _ _ _ _ (c.as_str.ensures ∙ ap (λ (p : Places). p.text) c.requires.places) c.in-Ok-stage_link.ensures)
