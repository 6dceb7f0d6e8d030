use Rattle.std.proofs.Common.{◌≡◌, take}
use Rattle.kb_conf.specs.Fields.{last_that, make_matches}
use Rattle.kb_conf.proofs.fields.last_make.Given as goal

abbrev pub invariant-loop-number : goal.invariant-loop-number
invariant-loop-number l = l.last ≡ last_that (make_matches l.given l.values) (take l.number-index l.numbers)
