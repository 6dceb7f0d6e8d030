-- The path of an entry of a build's directory.
use Rattle.std.proofs.Common.{ap, ◌∙◌, [], ◌∷◌, append_assoc}
use Rattle.std.specs.Prelude.{codes}
use Rattle.kb_world.specs.Path.{child}
use Rattle.kb_world.proofs.PartLaws.{ok_is}
use Rattle.kb_world.proofs.roots.Roots.targets.Goals as goal

pub returns : goal.returns
returns c =
    let key = c.args.key.now in
    let spot = c.args.spot.now in
    ok_is _ _ _ c.child.ensures
    (ap (λ p. child p (codes "targets")) c.in_ok-directory.ensures ∙ append_assoc c.args.self.now.dkms (key.module ∷ key.version ∷ spot.kernel ∷ spot.arch ∷ []) (codes "targets" ∷ []))
