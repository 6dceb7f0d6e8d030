-- One change more is none of the two.
use Rattle.std.proofs.Common.{sym, ◌∙◌}
use Rattle.kb_changes.proofs.GroupLaws.{first_more, second_more}
use Rattle.kb_changes.proofs.group.cut_at_makes.Goals as goal

pub loop-i-preserved : goal.loop-i-preserved
loop-i-preserved c =
    let no = sym c.makes.ensures ∙ c.if-makes.false in (
      first_more c.args.changes.now c.loop-i.i c.index-changes-i.result c.loop-i-test.true c.index-changes-i.is no c.loop-i.invariant.0,
      second_more c.args.changes.now c.loop-i.i c.index-changes-i.result c.loop-i-test.true c.index-changes-i.is no c.loop-i.invariant.1,
    )
