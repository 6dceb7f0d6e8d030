use Rattle.std.proofs.Common.{arith, ◌≡◌, ◌≤◌, ◌+◌, ◌-◌, length, sym, ap, ◌∙◌, subst, get_or}
use Rattle.kb_auto.specs.Order.{placed, modules_in_order}
use Rattle.kb_auto.specs.Queue.{row_at, occurs}
use Rattle.kb_auto.proofs.OrderLaws.{Going, going_ends, beyond, enough, within, next, goes, ahead}
use Rattle.kb_auto.proofs.WebLaws.{row_is}
use Rattle.kb_auto.proofs.placing.order.Goals as goal

pub returns-in_default : goal.returns-in_default
returns-in_default c =
    sym (going_ends c.args.list.now c.loop.turns.waits.items c.loop.turns.queue c.loop.placed.items c.loop.invariant.going c.in_default.ensures.variant.1 (length c.args.list.now - c.loop.counter)) ∙ c.loop.invariant.ahead

pub release-requires-clause-within : goal.release-requires-clause-within
release-requires-clause-within c =
    let inside = within c.args.list.now c.in_ok-waits.field-0.rows c.requires c.in_ok-waits.ensures.linked c.loop.turns.waits.items c.loop.placed.items c.loop.turns.queue c.loop.invariant.going c.in-Some.turn c.in-Some.ensures.member in
    let size = c.in_ok-waits.ensures.rows_len in
    let row : c.deref-in-loop.result.now ≡ row_at c.in_ok-waits.field-0.rows c.in-Some.turn.place =
    c.deref-in-loop.ensures.value ∙ row_is c.in_ok-waits.field-0.rows c.in-Some.turn.place c.index.result.now (omega (arith, inside, size)) c.index.ensures in
    λ k l. ap (occurs k) row ∙ beyond c.args.list.now c.in_ok-waits.field-0.rows c.requires c.in_ok-waits.ensures.linked c.loop.turns.waits.items c.loop.placed.items c.loop.turns.queue c.loop.invariant.going c.in-Some.turn c.in-Some.ensures.member k l

pub release-requires-clause-enough : goal.release-requires-clause-enough
release-requires-clause-enough c =
    let inside = within c.args.list.now c.in_ok-waits.field-0.rows c.requires c.in_ok-waits.ensures.linked c.loop.turns.waits.items c.loop.placed.items c.loop.turns.queue c.loop.invariant.going c.in-Some.turn c.in-Some.ensures.member in
    let size = c.in_ok-waits.ensures.rows_len in
    let row : c.deref-in-loop.result.now ≡ row_at c.in_ok-waits.field-0.rows c.in-Some.turn.place =
    c.deref-in-loop.ensures.value ∙ row_is c.in_ok-waits.field-0.rows c.in-Some.turn.place c.index.result.now (omega (arith, inside, size)) c.index.ensures in
    λ k. subst (λ r. occurs k r ≤ get_or c.loop.turns.waits.items k 0) (sym row)
    (enough c.args.list.now c.in_ok-waits.field-0.rows c.requires c.in_ok-waits.ensures.linked c.loop.turns.waits.items c.loop.placed.items c.loop.turns.queue c.loop.invariant.going c.in-Some.turn c.in-Some.ensures.member k)

pub loop-preserved : goal.loop-preserved
loop-preserved c =
    let inside = within c.args.list.now c.in_ok-waits.field-0.rows c.requires c.in_ok-waits.ensures.linked c.loop.turns.waits.items c.loop.placed.items c.loop.turns.queue c.loop.invariant.going c.in-Some.turn c.in-Some.ensures.member in
    let size = c.in_ok-waits.ensures.rows_len in
    let row : c.deref-in-loop.result.now ≡ row_at c.in_ok-waits.field-0.rows c.in-Some.turn.place =
    c.deref-in-loop.ensures.value ∙ row_is c.in_ok-waits.field-0.rows c.in-Some.turn.place c.index.result.now (omega (arith, inside, size)) c.index.ensures in
    let items = c.in_ok-push.ensures.items in
    let after = goes c.args.list.now c.in_ok-waits.field-0.rows c.requires c.in_ok-waits.ensures.linked c.loop.turns.waits.items c.loop.placed.items c.loop.turns.queue c.loop.invariant.going c.in-Some.turn c.in-Some.ensures.member
    c.release.new.turns.waits.items c.pop_first.new.self c.release.new.turns.queue
    c.in-Some.ensures.updates.0
    (λ k. ap (λ r. get_or c.release.new.turns.waits.items k 0 + occurs k r) (sym row) ∙ c.in_ok-release.ensures.waits k)
    c.in_ok-release.ensures.queue in
    let found = next c.args.list.now c.in_ok-waits.field-0.rows c.requires c.in_ok-waits.ensures.linked c.loop.turns.waits.items c.loop.placed.items c.loop.turns.queue c.loop.invariant.going c.in-Some.turn c.in-Some.ensures.member
    c.in-Some.ensures.least in
    record {
      len = c.in_ok-release.ensures.len;
      going = subst (Going c.args.list.now c.release.new.turns.waits.items c.release.new.turns.queue) (sym items) after;
      ahead = ap (placed (length c.args.list.now - (c.loop.counter + 1)) c.args.list.now) items
          ∙ ahead c.args.list.now c.loop.placed.items (modules_in_order c.args.list.now) (record { name = c.in-Some.turn.name; cyclic = c.in-Some.turn.cyclic }) (length c.args.list.now) c.loop.counter c.loop-test.true found c.loop.invariant.ahead;
    }
