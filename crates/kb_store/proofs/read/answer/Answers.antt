-- The answer is the store's, or its refusal.
use Rattle.std.proofs.Common.{◌≡◌, None, sym, ap, ◌∙◌}
use Rattle.std.specs.Prelude.{filter_map, List}
use Rattle.kb_world.specs.Store.{added_at}
use Rattle.kb_store.specs.Notes.{told_build, told_installation}
use Rattle.kb_store.specs.Read.{first_refusal, paths_met}
use Rattle.kb_walk.specs.declared.walking.Met.{Met}
use Rattle.kb_store.proofs.ReadingLaws.{answer_refused, answer_read, answer_sound, answer_whole}
use Rattle.kb_store.proofs.read.answer.Goals as goal

pub returns-in-Some-clause-read : goal.returns-in-Some-clause-read
returns-in-Some-clause-read c tree is =
    answer_refused c.args.roots.now c.requires tree c.args.reading c.in-Some.refusal is
    (sym (c.first_refusal.ensures ∙ ap (λ h. first_refusal h c.args.reading.walk.over) c.take.ensures.value) ∙ c.in-Some.is)

pub returns-clause-read : goal.returns-clause-read
returns-clause-read c tree is =
    let none : first_refusal c.args.reading.notes.hurt c.args.reading.walk.over ≡ None =
    sym (c.first_refusal.ensures ∙ ap (λ h. first_refusal h c.args.reading.walk.over) c.take.ensures.value) ∙ c.in-None.is in
    let whole = answer_whole c.args.roots.now tree c.args.reading is none in
    let met = sym c.as_slice.ensures in
    answer_read c.args.roots.now c.requires tree c.args.reading c.in_ok-store_from-in-None.field-0 is none
    (c.in_ok-store_from-in-None.ensures c.requires tree (answer_sound c.args.roots.now c.requires tree c.args.reading is none) (record {
      all = c.as_slice.ensures ∙ whole.all;
      added = whole.added ∙ ap (λ (m : List Met). filter_map (added_at c.args.roots.now tree) (paths_met m)) met;
      builds = whole.builds ∙ ap (λ (m : List Met). filter_map (told_build c.args.roots.now tree) (paths_met m)) met;
      installed = whole.installed ∙ ap (λ (m : List Met). filter_map (told_installation c.args.roots.now tree) (paths_met m)) met;
    }))
