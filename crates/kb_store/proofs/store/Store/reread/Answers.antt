-- What was read is the public tree's store.
use Rattle.std.proofs.Common.{◌≡◌, List, Ok, Err, sym, ap, ◌∙◌, subst}
use Rattle.kb_world.specs.Public.{public_tree}
use Rattle.kb_world.specs.declared.stop.Stop.TheVariants.{Fault}
use Rattle.kb_store.specs.Contents.{store_of}
use Rattle.kb_store.specs.Notes.{AreKinds, noted_all, notes_of}
use Rattle.kb_store.specs.Read.{paths_met}
use Rattle.kb_store.specs.declared.notes.Notes.{Notes}
use Rattle.kb_walk.specs.declared.walking.Met.{Met}
use Rattle.kb_store.proofs.PublicNotes.{hurt_public, store_public}
use Rattle.kb_store.proofs.NotesOfLists.{noted_all_is}
use Rattle.kb_store.proofs.KindLaws.{kinds_met}
use Rattle.kb_store.proofs.ReadingLaws.{gives_read, looks_twice}
use Rattle.kb_store.proofs.store.Store.reread.Goals as goal

pub note_all-requires : goal.note_all-requires
note_all-requires g c tree told = subst (AreKinds tree) (sym c.as_slice.ensures) (kinds_met tree c.in_ok-met.met _ (c.in_ok-met.ensures.met tree (sym c.in_ok-met.ensures.same.unchanged.tree ∙ told)))

pub returns-clause-store : goal.returns-clause-store
returns-clause-store g c =
    let roots = c.args.roots.now in
    gives_read (λ tree. Ok (store_of roots (public_tree roots tree))) _ _ _ (Ok c.in_ok-store_from.field-0) (looks_twice _ _ _ _ _ c.in_ok-met.ensures.same c.in_ok-note_all.ensures.same)
    (λ tree told.
    let met_is = c.as_slice-2.ensures in
    let notes : c.note_all.new.notes ≡ notes_of roots tree (paths_met c.in_ok-met.met) =
    c.in_ok-note_all.ensures.noted tree (c.in_ok-met.ensures.same.unchanged.tree ∙ told) ∙ ap (λ (m : List Met). noted_all roots tree c.new-notes.result (paths_met m)) c.as_slice.ensures
    ∙ ap (λ (n : Notes). noted_all roots tree n (paths_met c.in_ok-met.met)) c.new-notes.ensures ∙ noted_all_is roots tree (paths_met c.in_ok-met.met) in
    let here = notes ∙ ap (λ (m : List Met). notes_of roots tree (paths_met m)) (sym met_is) in
    ap Ok (store_public roots c.requires.apart tree ∙ sym (c.in_ok-store_from.ensures c.requires.apart tree (sym (hurt_public roots c.requires.apart tree) ∙ c.requires.sound tree told) (record {
      all = met_is ∙ c.in_ok-met.ensures.met tree told;
      added = ap (λ (n : Notes). n.added) here;
      builds = ap (λ (n : Notes). n.builds) here;
      installed = ap (λ (n : Notes). n.installed) here;
    }))))
    (λ failed. let impossible : Ok c.in_ok-store_from.field-0 ≡ Err Fault = failed in cc)
