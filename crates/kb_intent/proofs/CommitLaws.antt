-- A transaction is committed, or stops where one of its stores stands.
use Rattle.std.proofs.Common.{◌≡◌, ◌⊎◌, ℕ, true, List, [], ◌++◌, Some, None, Result, Ok, Err, refl, sym, ap, ◌∙◌, subst, inl, inr}
use Rattle.std.specs.Prelude.{option_map}
use Rattle.std.specs.Option.{ForSome}
use Rattle.std.proofs.lemmas.Bool.{cases_Bool}
use Rattle.kb_world.specs.Crash.{Adds}
use Rattle.kb_world.specs.Public.{intent_path, is_private, public_tree}
use Rattle.kb_world.specs.Roots.{AreApart}
use Rattle.kb_world.specs.State.{State}
use Rattle.kb_world.specs.Stop.{stop_for}
use Rattle.kb_world.specs.Tree.{Tree, node_at, is_dir}
use Rattle.kb_world.specs.declared.child.Reply.{Reply}
use Rattle.kb_world.specs.declared.roots.Roots.{Roots}
use Rattle.kb_world.specs.declared.stop.Stop.{Stop}
use Rattle.kb_world.specs.declared.stop.Stop.TheVariants as stops
use Rattle.kb_world.specs.declared.world.WorldError.{WorldError}
use Rattle.kb_world.specs.declared.world.WorldError.TheVariants.{Failed, NoMemory}
use Rattle.kb_world.proofs.CrashLaws.{turns_wider, turns_none, turns_adds_more}
use Rattle.kb_world.proofs.CallLaws.{cause_then, lasts_then, unchanged_none}
use Rattle.kb_world.proofs.Told.{told_before}
use Rattle.kb_changes.specs.Change.{requests_of}
use Rattle.kb_changes.specs.Text.{AreTexts, IsJournal, intent_text}
use Rattle.kb_changes.specs.Valid.{new_intent_path, is_valid}
use Rattle.kb_changes.specs.declared.change.Intent.{Intent}
use Rattle.kb_again.specs.Sparing.{AreSparing, areas_of}
use Rattle.kb_again.proofs.EditLaws.{same_or_not}
use Rattle.kb_machine.specs.Aside.{IsSameBut}
use Rattle.kb_machine.specs.Behind.{RanFront, touched_by, LeavesBehind}
use Rattle.kb_machine.specs.Commits.{IsBareOf, Transacted, transacted, TurnsOver, IsCommitted, CommitLeaves, Commits}
use Rattle.kb_machine.specs.Opens.{Opens}
use Rattle.kb_machine.specs.Stands.{Stands, Rests}
use Rattle.kb_machine.proofs.BehindLaws.{front_none, front_since, keeps_then}
use Rattle.kb_machine.proofs.RestLaws.{rests_spares}
use Rattle.kb_walk.proofs.WipeCalls.{HasFormedTree}
use Rattle.kb_intent.specs.Finish.{HasJournal, store_after, IsFinished, KeepsOpening, EndsTransaction}
use Rattle.kb_intent.specs.Journaling.{with_journal, is_begun_at, PutsJournal}
use Rattle.kb_intent.specs.declared.changing.Ran.{Ran}
use Rattle.kb_intent.proofs.BehindLaws.{foreign_but, keeps_but, private_but, unchanged_behind}
use Rattle.kb_intent.proofs.JournaledLaws.{sparing_more, has_journal, same_done, same_cleaned, second_is, early_bare, early_stands, late_opens, late_stands}
use Rattle.kb_intent.proofs.PutJournalLaws.{journal_apart}
use Rattle.kb_intent.proofs.StandingLaws.{IsHiddenFrom, begun_private, journal_private}
use Rattle.kb_intent.proofs.StopLaws.{done_unrefused, done_cause, stop_unrefused, stop_cause, wanting_cause}

-- one of the two stores stands where it stopped
leaves_stop : (roots : Roots) (first second : Tree) (new : State) (error : WorldError) → Stands roots first new ⊎ Stands roots second new → CommitLeaves roots first second (Err (stop_for error)) new
leaves_stop roots first second new Failed either = either
leaves_stop roots first second new NoMemory either = either

-- ---- what is begun, and the journal, are private

begun_hides : (roots : Roots) (tree now : Tree) → IsSameBut (is_begun_at roots) tree now → IsHiddenFrom roots tree now
begun_hides roots tree now same q = elim (cases_Bool (is_begun_at roots q)) [
  | inl begun ↦ inr (begun_private roots q begun)
  | inr elsewhere ↦ inl (same q elsewhere)
]

journal_hides : (roots : Roots) (tree : Tree) → is_dir (node_at tree roots.dkms) ≡ true → node_at tree (intent_path roots) ≡ None → node_at tree (new_intent_path roots) ≡ None → (text : List ℕ)
    → IsHiddenFrom roots tree (with_journal roots text tree)
journal_hides roots tree home bare free text q = elim (same_or_not q (intent_path roots)) [
  | inl same ↦ inr (ap (is_private roots) same ∙ journal_private roots)
  | inr other ↦ inl (journal_apart roots tree home bare free text q other)
]

-- nothing was begun, for want of memory
pub commits_wanting : (roots : Roots) (made : Tree → Transacted) (state : State) → Commits roots made state state (Err stops.NoMemory)
commits_wanting roots made state = record {
  done = λ tree told. tt;
  behind = λ tree told. unchanged_behind roots (made tree).requests (made tree).touched tree state state told (unchanged_none state);
  unrefused = stop_unrefused NoMemory;
  lasts = (unchanged_none state).ran_none.lasts;
  cause = stop_cause {A = List Reply} state state NoMemory (wanting_cause state);
  survives = λ tree told rests. record { turns = turns_none _ _ state.history state.history refl; leaves = inl rests.stands };
}

module _ (roots : Roots) (intent : Intent) (text : List ℕ) (apart : AreApart roots) (texts : AreTexts intent) (spelled : intent_text intent ≡ text) (old mid : State)
    (valid : ForSome old.tree (λ tree. is_valid roots intent.changes ≡ true)) (formed : HasFormedTree old) (home : ForSome old.tree (λ tree. is_dir (node_at tree roots.dkms) ≡ true))
    (bare : ForSome old.tree (λ tree. (node_at tree (intent_path roots) ≡ None) × (node_at tree (new_intent_path roots) ≡ None))) where
  abbrev made : Tree → Transacted
  made = transacted roots old.script intent.changes

  journal : (tree : Tree) → old.tree ≡ Some tree → IsJournal roots text intent
  journal tree told = record { texts = texts; valid = valid tree told; spelled = spelled }

  abbrev first_of : Tree → Tree
  first_of tree = public_tree roots tree

  abbrev second_of : Tree → Tree
  second_of tree = public_tree roots (made tree).tree

  module _ (tree : Tree) (told : old.tree ≡ Some tree) (rests : Rests roots (first_of tree) old) where
    spares : AreSparing roots [] old.history.soft
    spares = rests_spares roots (first_of tree) old tree told (formed tree told) rests

    turned : {T : Type 0} (result : Result T WorldError) → PutsJournal roots text old mid result → TurnsOver roots old.script (first_of tree) (second_of tree) old.history mid.history
    turned result p = turns_wider _ _ (IsBareOf roots (first_of tree)) (λ image. Opens roots old.script image (second_of tree)) old.history mid.history
        (early_bare roots old.script intent text apart (valid tree told) (journal tree told) tree (formed tree told) (home tree told) (bare tree told).0 (bare tree told).1 old.history.soft spares)
        (late_opens roots old.script intent text apart (valid tree told) (journal tree told) tree (formed tree told) (home tree told) (bare tree told).0 (bare tree told).1 old.history.soft spares) (p.moments tree told)

    stands_stopped : {T : Type 0} (result : Result T WorldError) → PutsJournal roots text old mid result → Stands roots (first_of tree) mid ⊎ Stands roots (second_of tree) mid
    stands_stopped result p =
        let n = p.now tree told in
        elim n.2 [
          | inl begun ↦ inl (early_stands roots old.script intent text apart (valid tree told) (journal tree told) tree (formed tree told) (home tree told) (bare tree told).0 (bare tree told).1 old.history.soft spares mid n.0 n.1 p.soft begun)
          | inr stands ↦ inr (late_stands roots old.script intent text apart (valid tree told) (journal tree told) tree (formed tree told) (home tree told) (bare tree told).0 (bare tree told).1 mid (n.1 ∙ ap Some stands) p.ran_none.lasts.script
              (subst (AreSparing roots []) (sym p.soft) spares))
        ]

  -- a journal that is begun or stands is private
  journaled_hidden : (tree : Tree) → old.tree ≡ Some tree → IsHiddenFrom roots tree (with_journal roots text tree)
  journaled_hidden tree told = journal_hides roots tree (home tree told) (bare tree told).0 (bare tree told).1 text

  -- no child ran, and what is foreign stands as it did
  aside_behind : (tree : Tree) → old.tree ≡ Some tree → {T : Type 0} (result : Result T WorldError) → PutsJournal roots text old mid result
      → LeavesBehind roots (made tree).requests (made tree).touched tree old mid
  aside_behind tree told result p =
      let n = p.now tree told in
      record {
        ran = front_none (made tree).requests old mid p.ran_none.ran;
        foreign = keeps_but roots (touched_by intent.changes) tree n.0 mid n.1 (private_but roots (touched_by intent.changes) tree n.0 (elim n.2 [
          | inl begun ↦ begun_hides roots tree n.0 begun
          | inr stands ↦ subst (IsHiddenFrom roots tree) (sym stands) (journaled_hidden tree told)
        ]));
      }

  -- it stopped before its journal stood, or as it came to stand
  pub commits_stopped : (error : WorldError) (stop : Stop) → stop ≡ stop_for error → PutsJournal roots text {T = Unit {0}} old mid (Err error) → Commits roots made old mid (Err stop)
  commits_stopped error stop is p = subst (λ s. Commits roots made old mid (Err s)) (sym is) (record {
    done = λ tree told. tt;
    behind = λ tree told. aside_behind tree told {T = Unit {0}} (Err error) p;
    unrefused = stop_unrefused error;
    lasts = p.ran_none.lasts;
    cause = stop_cause old mid error p.cause;
    survives = λ tree told rests. record {
      turns = turned tree told rests {T = Unit {0}} (Err error) p;
      leaves = leaves_stop roots (first_of tree) (second_of tree) mid error (stands_stopped tree told rests {T = Unit {0}} (Err error) p);
    };
  })

  module _ (p : PutsJournal roots text {T = Unit {0}} old mid (Ok tt)) where
    mid_told : (tree : Tree) → old.tree ≡ Some tree → mid.tree ≡ Some (with_journal roots text tree)
    mid_told tree told = p.done ∙ ap (option_map (with_journal roots text)) told

    journal_of : (tree : Tree) → old.tree ≡ Some tree → HasJournal roots intent (with_journal roots text tree)
    journal_of tree told = has_journal roots old.script intent text apart (valid tree told) (journal tree told) tree (formed tree told) (home tree told) (bare tree told).0 (bare tree told).1

    -- its journal stands
    pub journal_there : ForSome mid.tree (λ tree. (other : Intent) × HasJournal roots other tree × (other.changes ≡ intent.changes))
    journal_there now told =
        let was = told_before (with_journal roots text) old.tree mid.tree now p.done told in
        (intent, subst (HasJournal roots intent) (sym was.changed) (journal_of was.tree was.was), refl)

    module _ (new : State) where
      -- what finishing keeps is told of the tree before
      module _ {T : Type 0} (result : Result T WorldError) (keeps : (tree : Tree) → mid.tree ≡ Some tree → (other : Intent) → HasJournal roots other tree → other.changes ≡ intent.changes
          → AreSparing roots (areas_of intent.changes) mid.history.soft → KeepsOpening roots (store_after roots mid.script intent.changes tree) mid new result)
          (tree : Tree) (told : old.tree ≡ Some tree) (rests : Rests roots (first_of tree) old) where
        store_is : store_after roots mid.script intent.changes (with_journal roots text tree) ≡ second_of tree
        store_is =
            ap (λ script. store_after roots script intent.changes (with_journal roots text tree)) p.ran_none.lasts.script
            ∙ second_is roots old.script intent text apart (valid tree told) (journal tree told) tree (formed tree told) (home tree told) (bare tree told).0 (bare tree told).1

        kept : KeepsOpening roots (second_of tree) mid new result
        kept = subst (λ s. KeepsOpening roots s mid new result) store_is
            (keeps (with_journal roots text tree) (mid_told tree told) intent (journal_of tree told) refl
            (sparing_more roots (areas_of intent.changes) mid.history.soft (subst (AreSparing roots []) (sym p.soft) (spares tree told rests))))

        turned_over : TurnsOver roots old.script (first_of tree) (second_of tree) old.history new.history
        turned_over = turns_adds_more (IsBareOf roots (first_of tree)) (λ image. Opens roots old.script image (second_of tree)) old.history mid.history new.history (turned tree told rests {T = Unit {0}} (Ok tt) p)
            (subst (λ script. Adds (λ image. Opens roots script image (second_of tree)) mid.history new.history) p.ran_none.lasts.script kept.each_moment)

      -- what finishing leaves behind is told of the tree before
      left_behind : ForSome mid.tree (λ tree. LeavesBehind roots (requests_of roots mid.script intent.changes tree) (touched_by intent.changes) tree mid new)
          → ForSome old.tree (λ tree. LeavesBehind roots (made tree).requests (made tree).touched tree old new)
      left_behind behind tree told =
          let journaled : Tree = with_journal roots text tree in
          let b = behind journaled (mid_told tree told) in
          let alike = same_done roots old.script intent text apart (valid tree told) (journal tree told) tree (formed tree told) (home tree told) (bare tree told).0 (bare tree told).1 in
          record {
            ran = subst (λ requests. RanFront requests old new) (ap (λ script. requests_of roots script intent.changes journaled) p.ran_none.lasts.script ∙ alike.requests)
                (front_since (requests_of roots mid.script intent.changes journaled) old mid new p.ran_none.ran b.ran);
            foreign = keeps_then roots (touched_by intent.changes) tree journaled new
                (foreign_but roots (touched_by intent.changes) tree journaled (private_but roots (touched_by intent.changes) tree journaled (journaled_hidden tree told))) b.foreign;
          }

      -- it came about
      pub commits_done : (ran : Ran) → EndsTransaction roots intent.changes mid new (Ok ran) → Commits roots made old new (Ok ran.replies)
      commits_done ran f = record {
        done = λ tree told.
            let finished : IsFinished roots intent.changes mid new (with_journal roots text tree) ran = f.done (with_journal roots text tree) (mid_told tree told) in
            let is = subst (λ script. IsCommitted (transacted roots script intent.changes (with_journal roots text tree)) mid new ran.replies) p.ran_none.lasts.script finished.committed in
            let alike = same_done roots old.script intent text apart (valid tree told) (journal tree told) tree (formed tree told) (home tree told) (bare tree told).0 (bare tree told).1 in
            record {
              tree = is.tree ∙ ap Some (same_cleaned roots old.script intent text apart (valid tree told) (journal tree told) tree (formed tree told) (home tree told) (bare tree told).0 (bare tree told).1);
              ran = is.ran ∙ ap (λ r. r ++ requests_of roots old.script intent.changes (with_journal roots text tree)) p.ran_none.ran ∙ ap (λ r. old.ran ++ r) alike.requests;
              said = is.said ∙ alike.replies;
            };
        behind = left_behind f.behind;
        unrefused = done_unrefused ran.replies;
        lasts = lasts_then old mid new p.ran_none.lasts f.lasts;
        cause = done_cause old new ran ran.replies (cause_then Failed old mid new (Ok tt) (Ok ran) p.ran_none.lasts.told p.cause f.cause);
        survives = λ tree told rests. record {
          turns = turned_over (Ok ran) f.survives tree told rests;
          leaves = (kept (Ok ran) f.survives tree told rests).rests;
        };
      }

      -- it stopped behind its journal
      pub commits_cut : (error : WorldError) (stop : Stop) → stop ≡ stop_for error → EndsTransaction roots intent.changes mid new (Err error) → Commits roots made old new (Err stop)
      commits_cut error stop is f = subst (λ s. Commits roots made old new (Err s)) (sym is) (record {
        done = λ tree told. tt;
        behind = left_behind f.behind;
        unrefused = stop_unrefused error;
        lasts = lasts_then old mid new p.ran_none.lasts f.lasts;
        cause = stop_cause old new error (cause_then Failed old mid new (Ok tt) (Err error) p.ran_none.lasts.told p.cause f.cause);
        survives = λ tree told rests. record {
          turns = turned_over {T = Ran} (Err error) f.survives tree told rests;
          leaves = leaves_stop roots (first_of tree) (second_of tree) new error (inr (kept {T = Ran} (Err error) f.survives tree told rests).stands);
        };
      })
