-- A sort by a total order.
use Rattle.std.proofs.Common.{◌∙◌, sym, subst, rules}
use Rattle.std.specs.List.Sorted.{IsSortedBy, IsStableBy}
use Rattle.std.proofs.lemmas.List.Sorted.{answers_always}
use Rattle.kb_status.proofs.OrderLaws.{line_order_ranks, before, put_back}
use Rattle.kb_status.proofs.order.sort_lines.Goals as goal

pub returns-clause-sorted : goal.returns-clause-sorted
returns-clause-sorted c =
    subst (IsSortedBy before) (sym (put_back c.args.lines.len c.sort_by.new.self _ (c.sort_by.ensures.len ∙ c.as_mut_slice.ensures.len)))
    (c.in_ok-sort_by.ensures.sorted before line_order_ranks (answers_always _ _ _ (λ f a r q h. search rules)))

pub returns-clause-stable : goal.returns-clause-stable
returns-clause-stable c =
    subst (IsStableBy before c.args.lines.items) (sym (put_back c.args.lines.len c.sort_by.new.self _ (c.sort_by.ensures.len ∙ c.as_mut_slice.ensures.len)))
    (subst (λ l. IsStableBy before l c.sort_by.new.self) c.as_mut_slice.ensures.value (c.in_ok-sort_by.ensures.stable before line_order_ranks (answers_always _ _ _ (λ f a r q h. search rules))))
