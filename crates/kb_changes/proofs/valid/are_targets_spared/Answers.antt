-- The sets have the Wipes, the Drops and the DropDirs behind the first Dir or Put.
use Rattle.std.proofs.Common.{◌&&◌, ◌∙◌, subst}
use Rattle.kb_changes.specs.Groups.{wipes_in, drops_in, second_drop_dirs}
use Rattle.kb_changes.specs.Valid.{HoldSame}
use Rattle.kb_changes.proofs.SetLaws.{none_under-same, none_among-same}
use Rattle.kb_changes.proofs.valid.are_targets_spared.Goals as goal

pub returns : goal.returns
returns c =
    let changes = c.args.changes.now in
    let targets = c.args.targets.now in
    let behind = subst (HoldSame c.in_ok-second.second) c.cut_at_makes.ensures.second c.in_ok-second.ensures in
    let unwiped = c.in_ok-unwiped.ensures ∙ none_under-same c.in_ok-wipes.wipes (wipes_in changes) targets c.in_ok-wipes.ensures in
    let undropped = c.none_among.ensures ∙ none_among-same c.in_ok-drops.drops (drops_in changes) targets c.in_ok-drops.ensures in
    let unended = c.none_among-2.ensures ∙ none_among-same c.in_ok-second.second (second_drop_dirs changes) targets behind in
    (λ i. unwiped i && undropped i && unended i)
