use Rattle.std.proofs.Common.{◌≡◌, take, drop, []}
use Rattle.kb_conf.specs.Targets.{bad_targets}
use Rattle.kb_conf.proofs.targets.bad_targets.Given as goal

abbrev pub invariant-loop-index : goal.invariant-loop-index
invariant-loop-index l = bad_targets l.values [] l.numbers ≡ bad_targets l.values (take l.index l.numbers) (drop l.index l.numbers)
