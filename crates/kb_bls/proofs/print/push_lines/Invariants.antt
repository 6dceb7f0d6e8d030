-- A line for each value so far.
use Rattle.std.proofs.Common.{◌≡◌, ◌++◌, take, flat_map}
use Rattle.kb_bls.specs.Print.{field_line, fields_with}
use Rattle.kb_bls.proofs.print.push_lines.Given as goal

abbrev pub invariant-loop-value : goal.invariant-loop-value
invariant-loop-value l = l.text ≡ l.initial.text ++ flat_map field_line (fields_with l.key (take l.value-index l.values))
