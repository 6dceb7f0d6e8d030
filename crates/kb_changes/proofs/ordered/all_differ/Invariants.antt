-- What is left decides: it differs, and none of it stands before it.
use Rattle.std.proofs.Common.{◌≡◌, ◌&&◌, drop}
use Rattle.kb_changes.specs.Valid as rule
use Rattle.kb_changes.proofs.ordered.all_differ.Given as goal

abbrev pub invariant-loop-path : goal.invariant-loop-path
invariant-loop-path l = rule.all_differ l.paths ≡ (rule.none_among l.earlier (drop l.path-index l.paths) && rule.all_differ (drop l.path-index l.paths))
