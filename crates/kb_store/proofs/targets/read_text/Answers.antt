-- The lines between the first and the last give the places, or the text is none of places.
use Rattle.std.proofs.Common.{◌∙◌, ap, sym, refl, map}
use Rattle.std.specs.List.{list_all}
use Rattle.kb_world.specs.Targets.{inner, is_place}
use Rattle.kb_store.proofs.TargetsLaws.{now, split, told_is, targets_are, targets_none, ok_is, some_told, none_told}
use Rattle.kb_store.proofs.targets.read_text.Goals as goal

pub returns-in-Some : goal.returns-in-Some
returns-in-Some c =
    let lines = c.inner.ensures ∙ ap inner (ap now c.deref.ensures.value ∙ c.in_ok-lines.ensures) in
    let made = some_told c.in_ok-told.field-0 c.in-Some.told (λ v. v.items) (now c.inner.result.now) c.in-Some.is c.in_ok-told.ensures.told in
    ok_is c.checked.result _ _ c.checked.ensures (targets_are c.args.text.now c.in-Some.told.items _ _ (told_is c.args.text.now (now c.inner.result.now) c.in-Some.told.items lines made) refl refl)

pub returns : goal.returns
returns c =
    let lines = c.inner.ensures ∙ ap inner (ap now c.deref.ensures.value ∙ c.in_ok-lines.ensures) in
    targets_none c.args.text.now (ap (λ l. list_all is_place (map split l)) (sym lines) ∙ none_told c.in_ok-told.field-0 (now c.inner.result.now) c.in-None.is c.in_ok-told.ensures.unplaced)
