-- A package and a spot of a ruled place keep their rules.
use Rattle.std.proofs.Common.{◌&&◌, not, sym, ap, ◌∙◌}
use Rattle.std.specs.Cmp.{first_so, second_so}
use Rattle.kb_world.specs.StorePath.{is_key, is_spot, is_ruled, is_targets}
use Rattle.kb_world.proofs.store_path.StorePath.path.Goals as goal

pub targets-requires-clause-keyed : goal.targets-requires-clause-keyed
targets-requires-clause-keyed c = let it = c.in-Targets in first_so (is_key it.key) (is_spot it.spot) (ap is_ruled (sym it.is) ∙ c.requires)

pub targets-requires-clause-spotted : goal.targets-requires-clause-spotted
targets-requires-clause-spotted c = let it = c.in-Targets in second_so (is_key it.key) (is_spot it.spot) (ap is_ruled (sym it.is) ∙ c.requires)

pub build_box-requires-clause-keyed : goal.build_box-requires-clause-keyed
build_box-requires-clause-keyed c =
    let it = c.in-InBox in
    first_so (is_key it.key) (is_spot it.spot) (first_so (is_key it.key && is_spot it.spot) (not (is_targets it.rest)) (ap is_ruled (sym it.is) ∙ c.requires))

pub build_box-requires-clause-spotted : goal.build_box-requires-clause-spotted
build_box-requires-clause-spotted c =
    let it = c.in-InBox in
    second_so (is_key it.key) (is_spot it.spot) (first_so (is_key it.key && is_spot it.spot) (not (is_targets it.rest)) (ap is_ruled (sym it.is) ∙ c.requires))
