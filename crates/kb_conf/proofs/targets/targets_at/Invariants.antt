use Rattle.std.proofs.Common.{◌≡◌, map, take}
use Rattle.kb_conf.specs.Targets.{target_at}
use Rattle.kb_conf.proofs.targets.targets_at.Given as goal

abbrev pub invariant-loop-number : goal.invariant-loop-number
invariant-loop-number l = l.targets ≡ map (target_at l.values) (take l.number-index l.numbers)
