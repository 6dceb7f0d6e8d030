use Rattle.std.proofs.Common.{ℕ, Option, List, refl, sym, ap, ◌∙◌}
use Rattle.kb_conf.specs.Bad.{first_of, bad_unless}
use Rattle.kb_conf.specs.Rule.{keeps}
use Rattle.kb_conf.specs.Values.{value_of}
use Rattle.kb_conf.proofs.ChecksLaws.{bad_at}
use Rattle.kb_conf.proofs.ListLaws.{first_stays, first_found}
use Rattle.kb_conf.proofs.checks.bad_numbered.Goals as goal

pub loop-number-init : goal.loop-number-init
unfolding first_of
loop-number-init c = refl

pub loop-number-preserved : goal.loop-number-preserved
loop-number-preserved c =
    let f : ℕ → Option (List ℕ) = λ i. bad_unless (keeps c.args.rule (value_of c.args.values.now c.args.name.now i)) c.args.name.now i in
    let here = bad_at c.args.rule c.args.values.now c.args.name.now _ _ _ _ c.in_ok-good.ensures c.value.ensures c.in_ok-bad.ensures in
    first_stays f c.deref-number-items.result.now c.loop-number.number-index 0 c.loop-number-test.true c.loop-number.invariant (here ∙ c.in_default.is)

pub returns-in-Some : goal.returns-in-Some
returns-in-Some c =
    let f : ℕ → Option (List ℕ) = λ i. bad_unless (keeps c.args.rule (value_of c.args.values.now c.args.name.now i)) c.args.name.now i in
    let here = bad_at c.args.rule c.args.values.now c.args.name.now _ _ _ _ c.in_ok-good.ensures c.value.ensures c.in_ok-bad.ensures in
    sym (ap (first_of f) (sym (c.deref-number-items.ensures.value ∙ c.in_ok-numbers.ensures))
    ∙ first_found f c.deref-number-items.result.now c.loop-number.number-index 0 c.in-Some.bad c.loop-number-test.true c.loop-number.invariant (here ∙ c.in-Some.is))
