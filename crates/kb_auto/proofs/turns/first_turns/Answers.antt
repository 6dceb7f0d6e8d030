use Rattle.std.proofs.Common.{arith, get_or, ◌≡◌, nat_lt, length, ap, ◌∙◌, subst}
use Rattle.kb_auto.specs.Queue.{Queues}
use Rattle.kb_auto.proofs.QueueLaws.{queue_empty, queue_more}
use Rattle.kb_auto.specs.declared.Listed.{Listed}
use Rattle.kb_auto.proofs.RowLaws.{is_module}
use Rattle.kb_auto.proofs.turns.first_turns.Goals as goal

pub loop-place-init : goal.loop-place-init
loop-place-init c = queue_empty c.args.list.now c.args.waits.now c.new-queue.result c.new-queue.ensures.empty

pub loop-place-preserved : goal.loop-place-preserved
loop-place-preserved c =
    queue_more c.args.list.now c.args.waits.now c.loop-place.queue c.insert.new.self c.loop-place.place (record { cyclic = nat_lt 0 (get_or c.args.waits.now c.loop-place.place 0); name = c.in_ok-name.name; place = c.loop-place.place }) c.loop-place-test.true
    (let named = c.in_ok-name.ensures.cases ∙ ap (λ (m : Listed). m.name) (is_module c.args.list.now c.loop-place.place c.index-list-place.result c.loop-place-test.true c.index-list-place.is) in
    λ i. record { cyclic = nat_lt 0 (get_or c.args.waits.now c.loop-place.place 0); name = named i; place = c.loop-place.place })
    (c.in_ok-insert.ensures.updates.0)
    c.loop-place.invariant

pub returns : goal.returns
returns c =
    let e : c.loop-place.place ≡ length c.args.list.now = omega (arith, c.loop-place-test.false, c.loop-place.auto.place-end) in
    subst (λ n. Queues c.args.list.now c.args.waits.now (λ k. nat_lt k n) c.loop-place.queue) e c.loop-place.invariant
