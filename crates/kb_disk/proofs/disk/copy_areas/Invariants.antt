use Rattle.std.proofs.Common.{◌≡◌, take}
use Rattle.kb_disk.proofs.disk.copy_areas.Given as goal

abbrev pub invariant-loop-area : goal.invariant-loop-area
invariant-loop-area l = l.made ≡ take l.area-index l.areas
