-- The fields so far.
use Rattle.std.proofs.Common.{◌≡◌, ◌++◌, take, map, All}
use Rattle.kb_changes.specs.Text as rule
use Rattle.kb_journal.proofs.spell.push_paths.Given as goal

abbrev pub invariant-loop-path : goal.invariant-loop-path
invariant-loop-path l = (l.fields.items ≡ l.initial.fields.items ++ map rule.path_field (take l.path-index l.paths)) × All rule.IsTextPath (take l.path-index l.paths)
