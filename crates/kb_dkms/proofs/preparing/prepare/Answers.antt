-- A transaction is begun, and the link is staged for it.
use Rattle.std.proofs.Common.{ap, ◌∙◌}
use Rattle.kb_dkms.specs.declared.places.Places.{Places}
use Rattle.kb_dkms.proofs.PrepareLaws.{still_root, none_is_staged, link_paths_are, prepared, unprepared, unstaged, with_text}
use Rattle.kb_dkms.proofs.preparing.prepare.Goals as goal

pub stage_link-requires-clause-there : goal.stage_link-requires-clause-there
stage_link-requires-clause-there g c = still_root c.args.source.job.now _ _ c.in-Ok.txn c.in-Ok.ensures c.requires.apart c.requires.root

pub stage_link-requires-clause-staged : goal.stage_link-requires-clause-staged
stage_link-requires-clause-staged g c = none_is_staged c.args.source.job.now _ _ c.in-Ok.txn c.in-Ok.ensures

pub returns-in-Err-stage_link : goal.returns-in-Err-stage_link
returns-in-Err-stage_link g c =
    let source = c.args.source in
    unstaged source.job.now _ _ c.in-Ok.txn c.in-Ok.ensures source.key.now c.args.request _ _ c.in-Err-stage_link.stop
    (with_text _ c.as_str.result.now _ _ _ _ _ (c.as_str.ensures ∙ ap (λ (p : Places). p.text) c.requires.places) c.in-Err-stage_link.ensures)

pub returns-in-Err-link_paths : goal.returns-in-Err-link_paths
returns-in-Err-link_paths g c =
    let source = c.args.source in
    unprepared source.job.now _ _ c.in-Ok.txn c.in-Ok.ensures source.key.now c.args.request _ _ c.in-Ok-stage_link.field-0
    (with_text _ c.as_str.result.now _ _ _ _ _ (c.as_str.ensures ∙ ap (λ (p : Places). p.text) c.requires.places) c.in-Ok-stage_link.ensures)

pub returns-in-Ok-add_changes : goal.returns-in-Ok-add_changes
returns-in-Ok-add_changes g c =
    let source = c.args.source in
    prepared source.job.now _ _ c.in-Ok.txn c.in-Ok.ensures source.key.now c.args.request _ _ c.in-Ok-stage_link.field-0
    (with_text _ c.as_str.result.now _ _ _ _ _ (c.as_str.ensures ∙ ap (λ (p : Places). p.text) c.requires.places) c.in-Ok-stage_link.ensures) c.add_changes.new.txn c.add_changes.ensures.roots
    (c.in-Ok-add_changes.ensures.changes _ (link_paths_are source.job.now.host.roots source.key.now c.in-Ok-link_paths.paths source.places.now c.requires.places c.in-Ok-link_paths.ensures))

pub returns-in-Err-add_changes : goal.returns-in-Err-add_changes
returns-in-Err-add_changes g c =
    let source = c.args.source in
    unprepared source.job.now _ _ c.in-Ok.txn c.in-Ok.ensures source.key.now c.args.request _ _ c.in-Ok-stage_link.field-0
    (with_text _ c.as_str.result.now _ _ _ _ _ (c.as_str.ensures ∙ ap (λ (p : Places). p.text) c.requires.places) c.in-Ok-stage_link.ensures)
