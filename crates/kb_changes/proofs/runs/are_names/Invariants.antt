-- What is left decides.
use Rattle.std.proofs.Common.{◌≡◌, drop, map, bytes_eq}
use Rattle.std.specs.Cmp.Lexicographic.{pointwise}
use Rattle.kb_changes.proofs.runs.are_names.Given as goal

abbrev pub invariant-loop-i : goal.invariant-loop-i
invariant-loop-i l =
    pointwise bytes_eq l.names (map (λ name. name.now) l.wanted) ≡ pointwise bytes_eq (drop l.i l.names) (map (λ name. name.now) (drop l.i l.wanted))
