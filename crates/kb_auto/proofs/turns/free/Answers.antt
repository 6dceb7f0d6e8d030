use Rattle.std.proofs.Common.{arith, ap, sym, ◌∙◌}
use Rattle.std.proofs.lemmas.Grind.{common_steps}
use Rattle.kb_auto.proofs.QueueLaws.{moved_at}
use Rattle.kb_auto.specs.declared.Listed.{Listed}
use Rattle.kb_auto.proofs.RowLaws.{is_module}
use Rattle.kb_auto.proofs.turns.free.Goals as goal

pub returns-in_ok-insert-clause-queue : goal.returns-in_ok-insert-clause-queue
returns-in_ok-insert-clause-queue c =
    moved_at c.args.list.now c.args.turns.now.waits.items c.args.place c.index_mut.result.now c.in_ok-name.name c.args.turns.now.queue c.remove.new.self c.insert.new.self
    c.requires.within
    (let h = c.requires.waits_len in let l = c.requires.within in grind (arith, common_steps, h, l))
    (let h = c.index_mut.ensures.value in grind (arith, common_steps, h))
    (let h = c.index_mut.ensures.value in let p = c.requires.positive in grind (arith, common_steps, h, p))
    (let a = c.if-index-gt0.false in let b = c.index.ensures in let w = c.index_mut.ensures.writes_back in grind (arith, common_steps, a, b, w))
    (c.in_ok-name.ensures.cases ∙ ap (λ (m : Listed). m.name) (sym c.index-list-place.is) ∙ ap (λ (m : Listed). m.name) (is_module c.args.list.now c.args.place c.index-list-place.result c.requires.within c.index-list-place.is))
    (sym c.if-remove.ensures.test)
    (c.if-remove.ensures.updates.0)
    (c.in_ok-insert.ensures.updates.0)
