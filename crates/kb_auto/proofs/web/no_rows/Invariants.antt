use Rattle.std.proofs.Common.{◌≡◌, ◌<◌, ℕ, [], vec_len}
use Rattle.kb_auto.specs.Queue.{row_at}
use Rattle.kb_auto.proofs.web.no_rows.Given as goal

abbrev pub invariant-loop : goal.invariant-loop
invariant-loop l = record {
  len : vec_len l.rows ≡ l.counter;
  empty : (k : ℕ) → k < l.counter → row_at l.rows k ≡ [];
}
