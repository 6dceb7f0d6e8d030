-- The trees so far, and those that are to come.
use Rattle.std.proofs.Common.{◌≡◌, ◌++◌, drop}
use Rattle.kb_changes.specs.Changes as rule
use Rattle.kb_changes.proofs.patch_changes.scratches.Given as goal

abbrev pub invariant-loop-path : goal.invariant-loop-path
invariant-loop-path l = l.found.items ++ rule.scratches l.roots (drop l.path-index l.paths) ≡ rule.scratches l.roots l.paths
