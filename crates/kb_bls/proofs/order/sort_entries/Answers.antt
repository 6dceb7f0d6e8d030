-- A sort by a total order.
use Rattle.std.proofs.Common.{◌∙◌, sym, subst, rules}
use Rattle.std.specs.List.Sorted.{IsSortedBy, IsStableBy}
use Rattle.std.proofs.lemmas.List.Sorted.{answers_always}
use Rattle.kb_bls.proofs.OrderLaws.{entry_order_total, entry_order_ranks, before, put_back}
use Rattle.kb_bls.proofs.order.sort_entries.Goals as goal

pub returns-in_err-sort_by-clause-total : goal.returns-in_err-sort_by-clause-total
returns-in_err-sort_by-clause-total c = entry_order_total

pub returns-clause-sorted : goal.returns-clause-sorted
returns-clause-sorted c =
    subst (IsSortedBy before) (sym (put_back c.args.list.len c.sort_by.new.self _ (c.sort_by.ensures.len ∙ c.as_mut_slice.ensures.len)))
    (c.in_ok-sort_by.ensures.sorted before entry_order_ranks (answers_always _ _ _ (λ f a r q h. search rules)))

pub returns-clause-stable : goal.returns-clause-stable
returns-clause-stable c =
    subst (IsStableBy before c.args.list.items) (sym (put_back c.args.list.len c.sort_by.new.self _ (c.sort_by.ensures.len ∙ c.as_mut_slice.ensures.len)))
    (subst (λ l. IsStableBy before l c.sort_by.new.self) c.as_mut_slice.ensures.value (c.in_ok-sort_by.ensures.stable before entry_order_ranks (answers_always _ _ _ (λ f a r q h. search rules))))

pub returns-clause-total : goal.returns-clause-total
returns-clause-total c = entry_order_total
