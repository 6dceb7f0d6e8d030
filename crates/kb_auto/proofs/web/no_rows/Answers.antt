use Rattle.std.proofs.Common.{arith}
use Rattle.kb_auto.proofs.WebLaws.{no_rows_more}
use Rattle.kb_auto.proofs.web.no_rows.Goals as goal

pub loop-preserved : goal.loop-preserved
loop-preserved c = record {
  len = let h = c.loop.invariant.len in let e = c.in_ok-push.ensures.len in omega (arith, h, e);
  empty = no_rows_more c.loop.rows c.push.new.self c.new.result c.loop.counter c.loop.invariant.len c.in_ok-push.ensures.items c.new.ensures.items c.loop.invariant.empty;
}
