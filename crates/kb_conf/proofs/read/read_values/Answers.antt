use Rattle.std.proofs.Common.{subst}
use Rattle.kb_conf.specs.Reading.{IsBadLine}
use Rattle.kb_conf.specs.Refusal.{AtBadLine}
use Rattle.kb_conf.proofs.ConfLaws.{good_values, bad_values}
use Rattle.kb_conf.proofs.TextLaws.{good_text}
use Rattle.kb_conf.proofs.read.read_values.Goals as goal

pub invariant_of-result : goal.invariant_of-result
invariant_of-result c = good_text c.args.given.now c.args.text.now c.in-Ok.table c.given_is_text.ensures c.in-Ok.ensures.good

pub returns-in-Ok : goal.returns-in-Ok
returns-in-Ok c = good_values c.args.given.now c.args.text.now c.in-Ok.table c.in-Ok.ensures.good

pub returns-in-Err-BadLine : goal.returns-in-Err-BadLine
returns-in-Err-BadLine c =
    bad_values c.args.given.now c.args.text.now c.in-Err-BadLine.line
    (subst (AtBadLine (IsBadLine c.args.given.now c.args.text.now)) c.in-Err-BadLine.field-0-is c.in-Err-BadLine.ensures.bad)
