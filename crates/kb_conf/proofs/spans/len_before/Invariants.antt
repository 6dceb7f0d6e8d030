use Rattle.std.proofs.Common.{◌≡◌, ◌+◌, drop, not, eqb}
use Rattle.std.specs.List.{prefix_len}
use Rattle.kb_conf.proofs.spans.len_before.Given as goal

abbrev pub invariant-loop-i : goal.invariant-loop-i
invariant-loop-i l = prefix_len (λ b. not (eqb b l.stop)) l.text ≡ l.i + prefix_len (λ b. not (eqb b l.stop)) (drop l.i l.text)
