-- The changes are cut at the first Dir or Put.
use Rattle.std.proofs.Common.{◌∙◌, ap, subst}
use Rattle.kb_world.proofs.PartLaws.{ok_is}
use Rattle.kb_changes.specs.Groups.{first_drop_dirs}
use Rattle.kb_changes.specs.Valid.{HoldSame, none_below}
use Rattle.kb_changes.proofs.SetLaws.{none_below-same}
use Rattle.kb_changes.proofs.valid.are_second_apart.Goals as goal

pub returns : goal.returns
returns c =
    let first = first_drop_dirs c.args.changes.now in
    let same = subst (HoldSame c.in_ok-first.first) c.cut_at_makes.ensures.first c.in_ok-first.ensures in
    ok_is _ _ _ c.none_below.ensures
    (none_below-same c.in_ok-first.first first c.deref.result.now same ∙ ap (none_below first) (c.deref.ensures.value ∙ c.in_ok-second.ensures ∙ c.cut_at_makes.ensures.second))
