use Rattle.std.proofs.Common.{refl, arith}
use Rattle.std.proofs.lemmas.Grind.{common_steps}
use Rattle.kb_conf.specs.Fields.{last_that, make_matches}
use Rattle.kb_conf.proofs.ListLaws.{last_more}
use Rattle.kb_conf.proofs.fields.last_make.Goals as goal

pub loop-number-init : goal.loop-number-init
unfolding last_that
loop-number-init c = refl

pub loop-number-preserved : goal.loop-number-preserved
loop-number-preserved c =
    let more = last_more (make_matches c.args.given.now c.args.values.now) c.args.numbers.now c.loop-number.number-index 0 c.loop-number-test.true in
    grind (arith, common_steps, more)
