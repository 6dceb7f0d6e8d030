-- The file of one more place.
use Rattle.std.proofs.Common.{◌∙◌, ◌++◌, ◌∷◌, [], Ok, take, sym, ap}
use Rattle.std.proofs.lemmas.List.{take_more}
use Rattle.kb_store.proofs.NotingLoops.{files_more}
use Rattle.kb_store.proofs.notes.note_files.Goals as goal

pub loop-place-preserved : goal.loop-place-preserved
loop-place-preserved g c =
    let more = take_more c.args.places.now c.loop-place.place-index c.place-item.result c.loop-place-test.true ∙ ap (λ place. take c.loop-place.place-index c.args.places.now ++ place ∷ []) (sym c.place-item.is) in
    files_more _ _ _ (Ok c.in_ok-note_file.field-0) _ _ _ c.args.modules.now c.args.places.now c.loop-place.place-index c.place-item.result c.loop-place.invariant more c.in_ok-note_file.ensures.same c.in_ok-note_file.ensures.noted
