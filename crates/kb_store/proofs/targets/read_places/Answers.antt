-- A line gives a place, or the lines are none of places.
use Rattle.std.proofs.Common.{sym, ◌∙◌, arith}
use Rattle.kb_store.proofs.TargetsLaws.{read_none, read_more, no_line}
use Rattle.kb_store.proofs.targets.read_places.Goals as goal

pub returns-in-None-clause-unplaced : goal.returns-in-None-clause-unplaced
returns-in-None-clause-unplaced c = read_none c.args.lines.now c.loop-line.line-index no_line (omega arith) (sym c.in-None.is ∙ c.in_ok-place.ensures)

pub loop-line-preserved : goal.loop-line-preserved
loop-line-preserved c =
    read_more c.args.lines.now c.loop-line.line-index no_line c.loop-line.places.items c.push.new.self.items c.in-Some.place (omega arith) c.loop-line.invariant (sym c.in-Some.is ∙ c.in_ok-place.ensures)
    c.in_ok-push-in-Some.ensures.items
