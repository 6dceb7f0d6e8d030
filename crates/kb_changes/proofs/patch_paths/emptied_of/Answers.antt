-- The set has them all.
use Rattle.std.proofs.Common.{◌++◌, List, filter, flat_map, reverse, ap, ◌∙◌, subst}
use Rattle.kb_world.specs.Patch.{above}
use Rattle.kb_world.specs.Path.{Path, is_under}
use Rattle.kb_changes.specs.Valid.{HoldSame}
use Rattle.kb_changes.proofs.PathsLaws.{emptied-are}
use Rattle.kb_changes.proofs.patch_paths.emptied_of.Goals as goal

pub returns : goal.returns
returns c =
    let roots = c.args.roots.now in
    let into : List Path → List Path → List Path → Type 0 = λ set old more. HoldSame set (flat_map (above roots) (filter (λ path. is_under path roots.dkms) more) ++ old) in
    c.reverse.ensures.items ∙ ap reverse c.in_ok-emptied.ensures
    ∙ emptied-are roots c.args.paths.now c.new-set.result c.add_above_in_dkms.new.set c.add_above_in_dkms-2.new.set c.new-set.ensures
    (subst (into c.add_above_in_dkms.new.set c.new-set.result) c.as_slice.ensures c.in_ok-add_above_in_dkms.ensures)
    (subst (into c.add_above_in_dkms-2.new.set c.add_above_in_dkms.new.set) c.as_slice-2.ensures c.in_ok-add_above_in_dkms-2.ensures)
