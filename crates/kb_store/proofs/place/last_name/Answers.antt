-- The last name is the one at the last place.
use Rattle.std.proofs.Common.{◌∙◌, ◌-◌, length, sym, ap}
use Rattle.std.specs.Prelude.{slice_get}
use Rattle.kb_store.proofs.PlaceLaws.{last_name_at}
use Rattle.kb_store.proofs.place.last_name.Goals as goal

pub returns-in-Some : goal.returns-in-Some
returns-in-Some c =
    c.as_str.ensures ∙ last_name_at c.args.place.now c.in-Some.name.now (ap (λ p. slice_get p (length p - 1)) (sym c.names.ensures.all) ∙ sym c.in-Some.ensures.value)
