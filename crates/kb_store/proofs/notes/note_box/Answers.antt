-- The build, and what is lost of it.
use Rattle.std.proofs.Common.{◌∙◌, sym, ap}
use Rattle.kb_store.specs.Notes.{harmed}
use Rattle.kb_store.proofs.NotingLoops.{lost_files, box_done}
use Rattle.kb_store.proofs.notes.note_box.Goals as goal

pub returns-in_ok-push-in-Some-clause-noted : goal.returns-in_ok-push-in-Some-clause-noted
returns-in_ok-push-in-Some-clause-noted g c = λ tree told.
    let mid = c.in_ok-note_absence.ensures.same.unchanged.tree ∙ told in
    let late = c.in_ok-targets.ensures.same.unchanged.tree ∙ mid in
    box_done c.args.roots.now tree c.args.notes.now c.note_absence.new.notes c.note_files.new.notes c.args.key c.args.spot c.push.new.self c.in-Some.targets c.in_ok-path.path
    c.in_ok-modules-in-Some.modules (c.in_ok-note_absence.ensures.noted tree told) c.in_ok-path.ensures (sym c.in-Some.is ∙ c.in_ok-targets.ensures.told tree mid) c.in_ok-modules-in-Some.ensures
    (c.in_ok-note_files-in-Some.ensures.noted tree late ∙ ap (λ places. harmed c.note_absence.new.notes (lost_files tree c.in_ok-modules-in-Some.modules places)) c.as_slice.ensures) c.in_ok-push-in-Some.ensures.ok
