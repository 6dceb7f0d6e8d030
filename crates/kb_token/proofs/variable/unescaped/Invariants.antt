use Rattle.std.proofs.Common.{◌≡◌, ◌++◌, length, false}
use Rattle.std.specs.Str.{IsUtf8}
use Rattle.kb_token.specs.Variable.{unescaped}
use Rattle.kb_token.proofs.variable.unescaped.Given as goal

abbrev pub invariant-pieces : goal.invariant-pieces
invariant-pieces l = IsUtf8 l.rest × unescaped false l.fn.inner ≡ l.value ++ unescaped false l.rest

abbrev pub decreases-pieces : goal.decreases-pieces
decreases-pieces l = length l.rest
