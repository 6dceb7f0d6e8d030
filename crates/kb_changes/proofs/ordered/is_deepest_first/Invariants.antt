-- What is left decides: it is in order, and none of it is below what stands before it.
use Rattle.std.proofs.Common.{◌≡◌, ◌&&◌, drop}
use Rattle.kb_changes.specs.Valid as rule
use Rattle.kb_changes.proofs.ordered.is_deepest_first.Given as goal

abbrev pub invariant-loop-path : goal.invariant-loop-path
invariant-loop-path l =
    rule.deepest_first l.paths ≡ (rule.none_below l.earlier (drop l.path-index l.paths) && rule.deepest_first (drop l.path-index l.paths))
