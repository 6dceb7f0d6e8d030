use Rattle.std.proofs.Common.{◌≡◌, ◌++◌, length}
use Rattle.kb_conf.specs.Reading.{drop_returns}
use Rattle.kb_conf.proofs.reading.without_returns.Given as goal

abbrev pub invariant-bytes : goal.invariant-bytes
invariant-bytes l = l.kept.items ++ drop_returns l.rest ≡ drop_returns l.text

abbrev pub decreases-bytes : goal.decreases-bytes
decreases-bytes l = length l.rest
