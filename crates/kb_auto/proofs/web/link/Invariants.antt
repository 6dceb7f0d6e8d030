use Rattle.std.proofs.Common.{◌≡◌, [], vec_len, length, take}
use Rattle.std.specs.List.{count_by}
use Rattle.kb_auto.specs.Order.{is_open}
use Rattle.kb_auto.specs.Queue.{LinksSome}
use Rattle.kb_auto.proofs.web.link.Given as goal

abbrev pub invariant-loop-name : goal.invariant-loop-name
invariant-loop-name l = record {
  len : vec_len l.rows ≡ length l.list;
  count : l.count ≡ count_by (is_open l.list [] l.«module») (take l.name-index l.name-items);
  linked : LinksSome l.list l.place l.«module» (take l.name-index l.name-items) l.initial.rows l.rows;
}
