use Rattle.std.proofs.Common.{arith, ◌≡◌, length, ap, ◌∙◌, subst}
use Rattle.kb_auto.specs.declared.Listed.{Listed}
use Rattle.kb_auto.specs.Queue.{ArePlaces}
use Rattle.kb_auto.proofs.RowLaws.{is_module}
use Rattle.kb_auto.proofs.WebLaws.{places_none, places_more, places_fresh}
use Rattle.kb_auto.proofs.web.places_of.Goals as goal

pub loop-place-init : goal.loop-place-init
loop-place-init c = places_none c.args.list.now c.new-places.result c.new-places.ensures.empty

pub loop-place-preserved : goal.loop-place-preserved
loop-place-preserved c =
    let list = c.args.list.now in
    let place = c.loop-place.place in
    let named = c.in_ok-clone.ensures.cases ∙ ap (λ (m : Listed). m.name) (is_module list place c.index-list-place.result c.loop-place-test.true c.index-list-place.is) in
    places_more list place c.in_ok-clone.field-0 c.loop-place.places c.insert.new.self c.loop-place-test.true named
    (places_fresh list place c.in_ok-clone.field-0 c.loop-place.places c.requires c.loop-place-test.true named c.loop-place.invariant)
    (c.in_ok-insert.ensures.updates.0)
    c.loop-place.invariant

pub returns : goal.returns
returns c =
    let e : c.loop-place.place ≡ length c.args.list.now = omega (arith, c.loop-place-test.false, c.loop-place.auto.place-end) in
    subst (λ n. ArePlaces c.args.list.now n c.loop-place.places) e c.loop-place.invariant
