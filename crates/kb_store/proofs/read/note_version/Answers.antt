-- The version's directory is one, and what is below it is noted.
use Rattle.std.proofs.Common.{Option, List, sym, ap, ◌∙◌, subst}
use Rattle.kb_world.specs.Path.{Path}
use Rattle.kb_store.specs.Notes.{AreKinds, noted_all, entries_if}
use Rattle.kb_store.specs.Read.{paths_met}
use Rattle.kb_walk.specs.declared.walking.Met.{Met}
use Rattle.kb_store.proofs.KindLaws.{kinds_met}
use Rattle.kb_store.proofs.ReadingLaws.{version_is_dir, on_ok, paths_of_met}
use Rattle.kb_store.proofs.read.note_version.Goals as goal

pub walk_all-requires : goal.walk_all-requires
walk_all-requires g c tree told =
    version_is_dir c.args.roots.now tree c.args.over.now c.in-Some.directory (g.met.W.World.formed c.args.world.now tree told) (sym c.in_ok-directory.ensures ∙ c.in-Some.is) (c.requires tree told)

pub note_all-requires : goal.note_all-requires
note_all-requires g c tree told = subst (AreKinds tree) (sym c.as_slice.ensures) (kinds_met tree c.in_ok-met-in-Some.met _ (c.in_ok-met-in-Some.ensures.met tree (sym c.in_ok-met-in-Some.ensures.same.unchanged.tree ∙ told)))

pub returns-in_ok-met-in-Some-clause-noted : goal.returns-in_ok-met-in-Some-clause-noted
returns-in_ok-met-in-Some-clause-noted g c = on_ok c.note_all.result c.note_all.ensures.noted (λ noted tree told.
    let roots = c.args.roots.now in
    let paths = ap (λ (m : List Met). paths_met m) (c.as_slice.ensures ∙ c.in_ok-met-in-Some.ensures.met tree told) ∙ paths_of_met tree _ in
    noted tree (c.in_ok-met-in-Some.ensures.same.unchanged.tree ∙ told)
    ∙ ap (noted_all roots tree c.args.notes.now) (paths ∙ ap (λ (d : Option Path). entries_if roots tree d) (sym (sym c.in_ok-directory.ensures ∙ c.in-Some.is))))
