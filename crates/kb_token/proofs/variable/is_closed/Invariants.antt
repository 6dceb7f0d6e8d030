use Rattle.std.proofs.Common.{◌≡◌, drop, false}
use Rattle.kb_token.specs.Variable.{is_closed}
use Rattle.kb_token.proofs.variable.is_closed.Given as goal

abbrev pub invariant-loop-c : goal.invariant-loop-c
invariant-loop-c l = is_closed false l.inner ≡ is_closed l.behind_backslash (drop l.c-index l.inner)
