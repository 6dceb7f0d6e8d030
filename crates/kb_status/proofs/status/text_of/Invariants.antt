-- The text of the lines so far.
use Rattle.std.proofs.Common.{◌≡◌, take, flat_map}
use Rattle.kb_status.specs.Line.{full_line}
use Rattle.kb_status.proofs.status.text_of.Given as goal

abbrev pub invariant-loop-line : goal.invariant-loop-line
invariant-loop-line l = l.text ≡ flat_map full_line (take l.line-index l.lines)
