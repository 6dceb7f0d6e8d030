use Rattle.std.proofs.Common.{◌≡◌, length}
use Rattle.kb_token.specs.Token.{ends_counted}
use Rattle.kb_token.proofs.token.ends_counted.Given as goal

abbrev pub invariant-bytes : goal.invariant-bytes
invariant-bytes l = ends_counted l.fn.bytes ≡ ends_counted l.rest

abbrev pub decreases-bytes : goal.decreases-bytes
decreases-bytes l = length l.rest
