-- The lines of the keys so far.
use Rattle.std.proofs.Common.{◌≡◌, take, flat_map}
use Rattle.kb_bls.specs.Print.{field_line, fields_with}
use Rattle.kb_bls.proofs.print.print_entry.Given as goal

abbrev pub invariant-loop-key : goal.invariant-loop-key
invariant-loop-key l = l.text ≡ flat_map (λ k. flat_map field_line (fields_with k.0.now k.1.now)) (take l.key-index l.key-items)
