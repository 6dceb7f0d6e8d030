use Rattle.std.proofs.Common.{◌≡◌, ℕ, filter, ap, ◌∙◌, arith}
use Rattle.std.specs.List.{range_with_len}
use Rattle.std.proofs.lemmas.Grind.{common_steps}
use Rattle.kb_conf.specs.Values.{is_given, value_of, numbers_of, all_numbers}
use Rattle.kb_conf.proofs.ListLaws.{numbers_more}
use Rattle.kb_conf.proofs.values.Values.numbers.Goals as goal

pub loop-number-preserved : goal.loop-number-preserved
loop-number-preserved c =
    let more = numbers_more (λ (i : ℕ). is_given (value_of c.args.self.now c.args.name.now i)) c.loop-number.number in
    grind (arith, common_steps, more)

pub returns : goal.returns
unfolding numbers_of all_numbers
returns c =
    let all : c.loop-number.number ≡ 256 = omega arith in
    c.loop-number.invariant ∙ ap (λ n. filter (λ i. is_given (value_of c.args.self.now c.args.name.now i)) (range_with_len 0 n)) all
