use Rattle.std.proofs.Common.{arith, ◌≡◌, length, sym, ◌∙◌, subst, []}
use Rattle.kb_auto.specs.Order.{waits_for}
use Rattle.kb_auto.specs.Queue.{AreLinked, module_at}
use Rattle.kb_auto.proofs.WebLaws.{linked_more, below_push}
use Rattle.kb_auto.proofs.web.web_of.Goals as goal

pub loop-place-preserved : goal.loop-place-preserved
loop-place-preserved c = record {
  waits_len = let h = c.in_ok-push.ensures.len in let e = c.loop-place.invariant.waits_len in omega (arith, h, e);
  rows_len = c.in_ok-link.ensures.len;
  waits = below_push (λ k. waits_for c.args.list.now [] (module_at c.args.list.now k)) c.loop-place.place c.in_ok-link.field-0 c.loop-place.waits.items c.push.new.self.items
      (sym c.loop-place.waits.ok.0 ∙ c.loop-place.invariant.waits_len) c.in_ok-push.ensures.items c.in_ok-link.ensures.count c.loop-place.invariant.waits;
  linked = linked_more c.args.list.now c.loop-place.place c.loop-place.rows c.link.new.rows c.loop-place.invariant.linked c.in_ok-link.ensures.linked;
}

pub returns-clause-linked : goal.returns-clause-linked
returns-clause-linked c =
    let e : c.loop-place.place ≡ length c.args.list.now = omega (arith, c.loop-place-test.false, c.loop-place.auto.place-end) in
    subst (λ n. AreLinked c.args.list.now n c.loop-place.rows) e c.loop-place.invariant.linked
