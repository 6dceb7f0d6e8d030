use Rattle.std.proofs.Common.{◌≡◌, take, None}
use Rattle.kb_conf.specs.Bad.{bad_unless, first_of}
use Rattle.kb_conf.specs.Rule.{keeps}
use Rattle.kb_conf.specs.Values.{value_of}
use Rattle.kb_conf.proofs.checks.bad_numbered.Given as goal

abbrev pub invariant-loop-number : goal.invariant-loop-number
invariant-loop-number l = first_of (λ i. bad_unless (keeps l.rule (value_of l.values l.name i)) l.name i) (take l.number-index l.number-items) ≡ None
