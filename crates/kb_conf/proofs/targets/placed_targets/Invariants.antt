use Rattle.std.proofs.Common.{◌≡◌, map, take}
use Rattle.kb_conf.specs.Placed.{target_number, ArePlaced}
use Rattle.kb_conf.proofs.targets.placed_targets.Given as goal

abbrev pub invariant-loop-number : goal.invariant-loop-number
invariant-loop-number l = (map target_number l.targets.items ≡ take l.number-index l.numbers) × ArePlaced l.values l.targets.items
