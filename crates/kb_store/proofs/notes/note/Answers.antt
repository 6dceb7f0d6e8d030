-- What is noted at a path is told by what the path is for.
use Rattle.std.proofs.Common.{sym, ◌∙◌}
use Rattle.kb_store.proofs.NotesOfPlaces.{told_as, noted_place}
use Rattle.kb_world.proofs.StorePathLaws.{place_back}
use Rattle.kb_store.proofs.notes.note.Goals as goal

pub note_place-requires-clause-there : goal.note_place-requires-clause-there
note_place-requires-clause-there g c = (place_back c.args.roots.now c.args.entry.now.path c.in-Some.place (sym c.in_ok-place.ensures.told ∙ c.in-Some.is)).is

pub returns-in-Some-clause-noted : goal.returns-in-Some-clause-noted
returns-in-Some-clause-noted g c =
    told_as c.note_place.result _ _ _ _ c.note_place.ensures.noted (λ tree. noted_place c.args.roots.now tree c.args.notes.now c.args.entry.now.path c.in-Some.place (sym c.in_ok-place.ensures.told ∙ c.in-Some.is))
