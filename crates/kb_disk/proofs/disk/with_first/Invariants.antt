use Rattle.std.proofs.Common.{◌≡◌, ◌∷◌, take}
use Rattle.kb_disk.proofs.disk.with_first.Given as goal

abbrev pub invariant-loop-area : goal.invariant-loop-area
invariant-loop-area l = l.made ≡ l.first ∷ take l.area-index l.areas
