-- A place with the file's name adds its claim, and another none.
use Rattle.std.proofs.Common.{◌∙◌, sym, ap, bytes_eq, Some}
use Rattle.kb_store.specs.Accessors as part
use Rattle.kb_store.specs.Claims.{lesser}
use Rattle.kb_store.proofs.ClaimLaws.{place_counts, place_passed}
use Rattle.kb_store.proofs.store.least_claim.Goals as goal
use Rattle.kb_store.proofs.store.least_claim.Goals.{then-eq, else-eq}

pub loop-place-preserved : goal.loop-place-preserved
loop-place-preserved c =
    elim c.if-eq.branch [
      | then-eq w ↦ ap part.told w.least-is ∙ w.lesser_of-least.ensures ∙ ap (λ o. lesser o (Some (c.place-item.result, c.args.module.now))) c.loop-place.invariant
          ∙ sym (place_counts c.args.file.now c.args.module.now c.args.places.now c.loop-place.place-index c.place-item.result c.loop-place-test.true c.place-item.is
          (ap (λ name. bytes_eq name c.args.file.now) (sym c.last_name.ensures) ∙ sym c.eq.ensures ∙ w.if-eq.true))
      | else-eq w ↦ ap part.told w.least-is ∙ c.loop-place.invariant
          ∙ sym (place_passed c.args.file.now c.args.module.now c.args.places.now c.loop-place.place-index c.place-item.result c.loop-place-test.true c.place-item.is
          (ap (λ name. bytes_eq name c.args.file.now) (sym c.last_name.ensures) ∙ sym c.eq.ensures ∙ w.if-eq.false))
    ]
