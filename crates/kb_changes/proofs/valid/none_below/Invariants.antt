-- What is left decides.
use Rattle.std.proofs.Common.{◌≡◌, drop}
use Rattle.kb_changes.specs.Valid as rule
use Rattle.kb_changes.proofs.valid.none_below.Given as goal

abbrev pub invariant-loop-path : goal.invariant-loop-path
invariant-loop-path l = rule.none_below l.directories l.paths ≡ rule.none_below l.directories (drop l.path-index l.paths)
