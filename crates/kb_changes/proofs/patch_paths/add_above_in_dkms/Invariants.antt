-- What is left and the set hold what all and the first set do.
use Rattle.std.proofs.Common.{◌++◌, drop, filter, flat_map}
use Rattle.kb_world.specs.Patch.{above}
use Rattle.kb_world.specs.Path.{is_under}
use Rattle.kb_changes.specs.Valid.{HoldSame}
use Rattle.kb_changes.proofs.patch_paths.add_above_in_dkms.Given as goal

abbrev pub invariant-loop-path : goal.invariant-loop-path
invariant-loop-path l =
    HoldSame (flat_map (above l.roots) (filter (λ path. is_under path l.roots.dkms) (drop l.path-index l.paths)) ++ l.set)
    (flat_map (above l.roots) (filter (λ path. is_under path l.roots.dkms) l.paths) ++ l.initial.set)
