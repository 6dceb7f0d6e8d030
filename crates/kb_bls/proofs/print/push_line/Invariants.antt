-- As many spaces as turns.
use Rattle.std.proofs.Common.{◌≡◌, ◌++◌, replicate}
use Rattle.std.specs.Str.{byte}
use Rattle.kb_bls.proofs.print.push_line.Given as goal

abbrev pub invariant-filled : goal.invariant-filled
invariant-filled l = l.text ≡ l.initial.text ++ replicate l.counter (byte " ")
