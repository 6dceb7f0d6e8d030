-- The lines of the added versions so far.
use Rattle.std.proofs.Common.{◌≡◌, ◌++◌, take}
use Rattle.kb_status.specs.Lines.{line_of_added, has_line}
use Rattle.kb_status.proofs.KeptLaws.{made_of}
use Rattle.kb_status.proofs.lines.push_added.Given as goal

abbrev pub invariant-loop-key : goal.invariant-loop-key
invariant-loop-key l = l.lines.items ≡ l.initial.lines.items ++ made_of line_of_added (has_line l.store l.filter) (take l.key-index l.key-items)
