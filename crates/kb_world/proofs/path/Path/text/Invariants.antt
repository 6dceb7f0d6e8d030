-- The text of the names so far.
use Rattle.std.proofs.Common.{◌≡◌, ◌∷◌, take}
use Rattle.std.specs.List.{flat_map}
use Rattle.kb_world.proofs.path.Path.text.Given as goal

abbrev pub invariant-loop-name : goal.invariant-loop-name
invariant-loop-name l = l.text ≡ flat_map (λ name. 47 ∷ name) (take l.name-index l.name-items)
