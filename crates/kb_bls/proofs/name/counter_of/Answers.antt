-- With the number of done tries or without it.
use Rattle.std.proofs.Common.{lit<, Some, None, ◌∙◌}
use Rattle.kb_bls.specs.Reading.{left_with}
use Rattle.kb_bls.proofs.NameLaws.{first_found, counter_cut, counter_whole}
use Rattle.kb_bls.proofs.name.counter_of.Goals as goal

pub returns-in-Some : goal.returns-in-Some
returns-in-Some c =
    c.left_with.ensures ∙ (λ i. left_with (c.number_of.ensures i) (c.number_of-in-Some.ensures i))
    ∙ counter_cut c.args.text.now c.in-Some.left.now c.in-Some.done.now (first_found 45 c.args.text.now (Some (c.in-Some.left, c.in-Some.done)) (lit< tt) c.in-Some.ensures.cases)

pub returns-in-None : goal.returns-in-None
returns-in-None c =
    c.left_with-in-None.ensures ∙ (λ i. left_with (c.number_of-in-None.ensures i) (Some 0))
    ∙ counter_whole c.args.text.now (first_found 45 c.args.text.now None (lit< tt) c.in-None.ensures.cases)
