use Rattle.std.proofs.Common.{◌≡◌, ◌<◌, ℕ, [], vec_len, length, get_or}
use Rattle.kb_auto.specs.Order.{waits_for}
use Rattle.kb_auto.specs.Queue.{AreLinked, module_at}
use Rattle.kb_auto.proofs.web.web_of.Given as goal

abbrev pub invariant-loop-place : goal.invariant-loop-place
invariant-loop-place l = record {
  waits_len : vec_len l.waits ≡ l.place;
  rows_len : vec_len l.rows ≡ length l.list;
  waits : (k : ℕ) → k < l.place → get_or l.waits.items k 0 ≡ waits_for l.list [] (module_at l.list k);
  linked : AreLinked l.list l.place l.rows;
}
