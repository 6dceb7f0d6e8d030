use Rattle.std.proofs.Common.{◌≡◌, filter}
use Rattle.std.specs.List.{range_with_len}
use Rattle.kb_conf.specs.Values.{is_given, value_of}
use Rattle.kb_conf.proofs.values.Values.numbers.Given as goal

abbrev pub invariant-loop-number : goal.invariant-loop-number
invariant-loop-number l = l.numbers.items ≡ filter (λ i. is_given (value_of l.self l.name i)) (range_with_len 0 l.number)
