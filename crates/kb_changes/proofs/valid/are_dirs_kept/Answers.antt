-- The set has the Wipes.
use Rattle.std.proofs.Common.{◌&&◌, ◌∙◌, ap}
use Rattle.std.specs.List.{list_all}
use Rattle.kb_changes.specs.Groups.{wipes_in}
use Rattle.kb_changes.specs.Valid.{none_under, is_scratch_wiped}
use Rattle.kb_changes.proofs.SetLaws.{none_under-same, scratch-same}
use Rattle.kb_changes.proofs.valid.are_dirs_kept.Goals as goal

pub returns : goal.returns
returns c =
    let roots = c.args.roots.now in
    let wipes = wipes_in c.args.changes.now in
    let unwiped = c.in_ok-unwiped.ensures ∙ none_under-same c.in_ok-wipes.wipes wipes c.deref.result.now c.in_ok-wipes.ensures
    ∙ ap (none_under wipes) (c.deref.ensures.value ∙ c.in_ok-dirs.ensures) in
    let scratches = c.in_ok-scratches_wiped.ensures ∙ scratch-same roots c.in_ok-wipes.wipes wipes c.deref-2.result.now c.in_ok-wipes.ensures
    ∙ ap (list_all (is_scratch_wiped roots wipes)) (c.deref-2.ensures.value ∙ c.in_ok-drop_dirs.ensures) in
    (λ i. unwiped i && c.in_ok-apart.ensures i && scratches i)
