-- The walk and the notes are those of the tree.
use Rattle.std.proofs.Common.{◌≡◌, ◌++◌, Some, Option, List, sym, ap, ◌∙◌, subst}
use Rattle.std.proofs.lemmas.List.{append-nil}
use Rattle.kb_world.specs.Path.{Path}
use Rattle.kb_store.specs.Notes.{AreKinds, noted_all, notes_of, no_notes}
use Rattle.kb_store.specs.Read.{paths_met, entries_over}
use Rattle.kb_store.specs.declared.notes.Notes.{Notes}
use Rattle.kb_walk.specs.declared.walking.Met.{Met}
use Rattle.kb_world.specs.Public.{is_private}
use Rattle.kb_walk.specs.Walking.{LIMITS}
use Rattle.kb_store.proofs.KindLaws.{kinds_walked}
use Rattle.kb_store.proofs.NotesOfLists.{noted_all_is}
use Rattle.kb_store.proofs.ReadingLaws.{over_stands, noted_more}
use Rattle.kb_store.proofs.read.read_entries.Goals as goal
use Rattle.kb_store.proofs.read.read_entries.Goals.{in-Some+in_ok-note_version-in-Some, in-None}

pub note_all-requires : goal.note_all-requires
note_all-requires g c tree told =
    subst (AreKinds tree) (sym c.as_slice.ensures)
    (kinds_walked LIMITS tree (is_private c.args.roots.now) c.args.roots.now.dkms c.in_ok-walk.walk (c.in_ok-walk.ensures.met tree (sym c.in_ok-walk.ensures.same.unchanged.tree ∙ told)))

pub note_version-requires : goal.note_version-requires
note_version-requires g c tree told =
    over_stands c.args.roots.now tree c.in_ok-walk.walk c.in-Some.over (c.in_ok-walk.ensures.met tree (sym (c.in_ok-note_all.ensures.same.unchanged.tree ∙ c.in_ok-walk.ensures.same.unchanged.tree) ∙ told)) c.in-Some.is

pub returns-clause-read : goal.returns-clause-read
returns-clause-read g c tree told = record {
  walk = c.in_ok-walk.ensures.met tree told;
  notes =
      let roots = c.args.roots.now in
      let met = c.in_ok-walk.walk.met in
      let mid = c.in_ok-walk.ensures.same.unchanged.tree ∙ told in
      let noted : c.note_all.new.notes ≡ noted_all roots tree no_notes (paths_met met) =
      c.in_ok-note_all.ensures.noted tree mid ∙ ap (λ (m : List Met). noted_all roots tree c.new-notes.result (paths_met m)) c.as_slice.ensures
      ∙ ap (λ (n : Notes). noted_all roots tree n (paths_met met)) c.new-notes.ensures in
      elim c.match-walk-2.branch [
        | in-Some+in_ok-note_version-in-Some w ↦
            w.notes-is ∙ w.in_ok-note_version-in-Some.ensures.noted tree (c.in_ok-note_all.ensures.same.unchanged.tree ∙ mid)
            ∙ ap (λ (n : Notes). noted_all roots tree n (entries_over roots tree (Some w.in-Some.over))) noted ∙ noted_more roots tree (paths_met met) (entries_over roots tree (Some w.in-Some.over))
            ∙ ap (λ (o : Option Path). notes_of roots tree (paths_met met ++ entries_over roots tree o)) (sym w.in-Some.is)
        | in-None w ↦
            w.notes-is ∙ noted ∙ noted_all_is roots tree (paths_met met) ∙ ap (notes_of roots tree) (sym (append-nil (paths_met met)))
            ∙ ap (λ (o : Option Path). notes_of roots tree (paths_met met ++ entries_over roots tree o)) (sym w.in-None.is)
      ];
}
