-- The lines so far.
use Rattle.std.proofs.Common.{◌≡◌, ◌++◌, take, All}
use Rattle.kb_changes.specs.Text as rule
use Rattle.kb_journal.proofs.write.push_changes.Given as goal

abbrev pub invariant-loop-change : goal.invariant-loop-change
invariant-loop-change l = (l.out ≡ l.initial.out ++ rule.changes_text (take l.change-index l.changes)) × All rule.IsTextChange (take l.change-index l.changes)
