-- The path of a chest.
use Rattle.std.proofs.Common.{ap, ◌∙◌, [], ◌∷◌, ◌++◌, append_assoc}
use Rattle.std.specs.Prelude.{codes}
use Rattle.kb_world.specs.Path.{Path, child}
use Rattle.kb_world.proofs.PartLaws.{ok_is}
use Rattle.kb_world.proofs.roots.Roots.chest.Goals as goal

pub returns : goal.returns
returns c =
    let word = c.args.«module».now in
    let spot = c.args.spot.now in
    let dkms = c.args.self.now.dkms in
    let tail : Path = spot.kernel ∷ spot.arch ∷ [] in
    ok_is _ _ _ c.spot_dir.ensures
    (ap (λ p. p ++ tail) (c.in_ok-originals.ensures ∙ ap (λ p. child p (codes "original_module")) c.in_ok-module_dir.ensures)
    ∙ append_assoc (child dkms word) (codes "original_module" ∷ []) tail ∙ append_assoc dkms (word ∷ []) (codes "original_module" ∷ tail))
