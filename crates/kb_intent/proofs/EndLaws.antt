-- The journal goes last.
use Rattle.std.proofs.Common.{◌≡◌, ◌⊎◌, true, false, List, [], Option, Some, None, is_some, Result, Ok, Err, refl, sym, ap, ◌∙◌, subst, inl, inr, arith}
use Rattle.std.specs.Prelude.{option_map}
use Rattle.std.specs.Option.{ForSome}
use Rattle.kb_world.specs.Area.{IsLeft}
use Rattle.kb_world.specs.Crash.{LeftOf, Adds}
use Rattle.kb_world.specs.Public.{intent_path, public_tree}
use Rattle.kb_world.specs.Roots.{AreApart}
use Rattle.kb_world.specs.State.{State, Changes}
use Rattle.kb_world.specs.Tree.{Tree, node_at, without, is_dir, is_leaf}
use Rattle.kb_world.specs.declared.roots.Roots.{Roots}
use Rattle.kb_world.specs.declared.world.WorldError.{WorldError}
use Rattle.kb_world.specs.declared.world.WorldError.TheVariants.{Failed, NoMemory}
use Rattle.kb_world.proofs.CrashLaws.{adds_then, adds_wider, turns_adds, turns_none}
use Rattle.kb_world.proofs.CallLaws.{cause_then, lasts_then}
use Rattle.kb_changes.specs.Change.{done, requests_of}
use Rattle.kb_changes.specs.Valid.{is_valid}
use Rattle.kb_changes.specs.declared.change.Change.{Change}
use Rattle.kb_changes.specs.declared.change.Intent.{Intent}
use Rattle.kb_again.specs.Sparing.{AreSparing, areas_of}
use Rattle.kb_again.specs.Within.{staging_paths}
use Rattle.kb_again.proofs.Laws.{settled_sparing}
use Rattle.kb_machine.specs.Behind.{touched_by, LeavesBehind}
use Rattle.kb_machine.specs.Commits.{cleaned}
use Rattle.kb_machine.specs.Opens.{IsReady, Opens, own_areas}
use Rattle.kb_machine.specs.Stands.{Stands, Rests}
use Rattle.kb_machine.proofs.BehindLaws.{front_all}
use Rattle.kb_machine.proofs.RestLaws.{spared_public, spared_journal, opens-none, rests_from}
use Rattle.kb_walk.proofs.WipeCalls.{HasFormedTree, cause_handed}
use Rattle.kb_intent.specs.Clearing.{SettlesAll, without_trees, TakesAllAway}
use Rattle.kb_intent.specs.Doing.{DoesChanges}
use Rattle.kb_intent.specs.Finish.{HasJournal, store_after, EndsTransaction}
use Rattle.kb_intent.specs.declared.changing.Ran.{Ran}
use Rattle.kb_intent.proofs.BehindLaws.{keeps_but, but_then}
use Rattle.kb_intent.proofs.ChangeLaws.{cause_of_ok}
use Rattle.kb_intent.proofs.FinishLaws.{unstaged_but, journal_valid, IsOnTheWay, way_begins, way_settles, way_takes, way_opens, way_stands}
use Rattle.kb_intent.proofs.StandingLaws.{bare_hidden, sparing_now, unstaged_journal, done_journal, cleaned_is, unstaged_public, bare_public, bare_journal}

-- nothing was begun, for want of memory
pub wants_change : {T : Type 0} (change : Tree → Tree) (state : State) → Changes change {T = T} state state (Err NoMemory)
wants_change {T = T} change state = record {
  done = tt;
  failed = λ failed. absurd (wanting failed);
  no_memory = λ wants. refl;
  soft = refl;
  moments = turns_none _ _ state.history state.history refl;
  none_forgotten = λ image left. inr left;
  ran_none = record { ran = refl; lasts = record { roots = refl; script = refl; told = refl } };
  cause = record { later = omega arith; rose = λ failed. absurd (wanting failed); steady = λ is. is; never = λ told is failed. wanting failed };
}
  where
    stopped : WorldError → Result T WorldError
    stopped error = Err error

    wanting : stopped NoMemory ≡ stopped Failed → ⊥
    wanting e = cc

-- what is told now was told
told_before : (old new : Option Tree) (tree : Tree) → is_some new ≡ is_some old → new ≡ Some tree → (was : Tree) × (old ≡ Some was)
told_before (Some was) new tree same told = (was, refl)
told_before None new tree same told = let impossible : true ≡ false = sym (ap is_some told) ∙ same in absurd (cc)

pub stands_same : (roots : Roots) (store : Tree) (old new : State) → new.tree ≡ old.tree → new.history.soft ≡ old.history.soft → new.script ≡ old.script → Stands roots store old → Stands roots store new
stands_same roots store old new same soft scripted s = record {
  opens = λ image left. subst (λ f. Opens roots f image store) (sym scripted) (s.opens image (subst (λ o. LeftOf old.history.soft o image) same (subst (λ l. LeftOf l new.tree image) soft left)));
  spares = λ tree told.
      let was = s.spares tree (sym same ∙ told) in
      (was.0, was.1, subst (λ f. IsReady roots f tree was.0 was.1) (sym scripted) was.2, subst (AreSparing roots (own_areas was.1)) (sym soft) was.3);
}

-- ---- the states that the call goes through: behind the changes, what is settled, what is unstaged, and the journal's end

module _ (roots : Roots) (changes : List Change) (old ran settling bare : State) (apart : AreApart roots) (formed : HasFormedTree old) (made : Ran)
    (d : DoesChanges roots changes old ran (Ok made)) (s : SettlesAll (areas_of changes) {T = Unit {0}} ran settling (Ok tt)) (t : TakesAllAway (staging_paths roots) {T = Unit {0}} settling bare (Ok tt)) where
  way_there : IsOnTheWay roots changes {T = Unit {0}} old bare (Ok tt)
  way_there = way_takes roots changes old settling bare tt (Ok tt) (way_settles roots changes old ran settling made (Ok tt) (way_begins roots changes old ran made d) s) t

  -- what is left behind, with the journal or without it
  end_behind : (new : State) → new.ran ≡ bare.ran → (new.tree ≡ bare.tree) ⊎ (new.tree ≡ option_map (without (intent_path roots)) bare.tree)
      → ForSome old.tree (λ tree. LeavesBehind roots (requests_of roots old.script changes tree) (touched_by changes) tree old new)
  end_behind new ran either tree told =
      let before = way_there.tree tree told in
      let but = unstaged_but roots old.script changes tree before.0 before.2 in
      record {
        ran = front_all (requests_of roots old.script changes tree) old new (ran ∙ way_there.ran tree told);
        foreign = elim either [
          | inl same ↦ keeps_but roots (touched_by changes) tree before.0 new (same ∙ before.1) but
          | inr gone ↦ keeps_but roots (touched_by changes) tree (without (intent_path roots) before.0) new (gone ∙ ap (option_map (without (intent_path roots))) before.1)
              (but_then roots (touched_by changes) tree before.0 (without (intent_path roots) before.0) but (bare_hidden roots before.0))
        ];
      }

  -- no soft area does harm then
  spares_there : is_valid roots changes ≡ true → AreSparing roots (areas_of changes) old.history.soft → AreSparing roots [] bare.history.soft
  spares_there valid spares = subst (AreSparing roots []) (sym (t.soft ∙ s.done))
      (settled_sparing roots changes ran.history.soft apart valid (sparing_now roots changes old.history.soft ran.history.soft apart valid spares d.soft))

  -- the tree that the transaction makes
  tree_made : is_valid roots changes ≡ true → HasFormedTree ran → (new : State) → new.tree ≡ option_map (without (intent_path roots)) bare.tree → (tree : Tree) → old.tree ≡ Some tree
      → is_dir (node_at tree (intent_path roots)) ≡ false → new.tree ≡ Some (cleaned roots (done roots old.script changes tree))
  tree_made valid formed_ran new gone tree told file =
      let ended : Tree = done roots old.script changes tree in
      gone ∙ ap (option_map (without (intent_path roots))) (t.done ∙ ap (option_map (without_trees (staging_paths roots))) (s.tree ∙ (d.done tree told).tree))
      ∙ ap Some (cleaned_is roots ended (formed_ran ended (d.done tree told).tree) (ap is_dir (done_journal roots old.script changes tree apart valid (formed tree told)) ∙ file))

  -- the journal stands till then
  pub leaf_there : HasFormedTree bare → ForSome old.tree (λ tree. (intent : Intent) × HasJournal roots intent tree × (intent.changes ≡ changes)) → ForSome bare.tree (λ tree. is_leaf (node_at tree (intent_path roots)) ≡ true)
  leaf_there formed_bare has now told =
      let before = told_before old.tree bare.tree now way_there.lasts.told told in
      let there = way_there.tree before.0 before.1 in
      let has_one = has before.0 before.1 in
      let journal = has_one.1 in
      let valid = journal_valid roots changes before.0 has_one.0 has_one.1 has_one.2 in
      let same : there.0 ≡ now = some_same there.0 now (sym there.1 ∙ told) in
      subst (λ x. is_leaf (node_at x (intent_path roots)) ≡ true) same
      (ap is_leaf (unstaged_journal roots old.script changes before.0 apart valid (formed before.0 before.1) there.0 (formed_bare there.0 there.1) there.2 ∙ journal.stands))
    where
      some_same : (a b : Tree) → Some a ≡ Some b → a ≡ b
      some_same a b e = cc

  module _ (formed_bare : HasFormedTree bare) (new : State) where
    -- a journal of theirs stood, and no soft area did harm
    module _ (tree : Tree) (told : old.tree ≡ Some tree) (intent : Intent) (journal : HasJournal roots intent tree) (same : intent.changes ≡ changes) (spares : AreSparing roots (areas_of changes) old.history.soft) where
      abbrev store : Tree
      store = store_after roots old.script changes tree

      valid : is_valid roots changes ≡ true
      valid = journal_valid roots changes tree intent journal same

      abbrev before : Tree
      before = (way_there.tree tree told).0

      abbrev ended : Tree
      ended = without (intent_path roots) before

      public_ended : public_tree roots ended ≡ store
      public_ended = bare_public roots before ∙ unstaged_public roots (done roots old.script changes tree) before (way_there.tree tree told).2

      stands_before : Stands roots store bare
      stands_before = way_stands roots changes old apart formed tree told intent journal same spares bare (Ok tt) formed_bare way_there

      ended_opens : (image : Tree) → IsLeft bare.history.soft ended image → Opens roots old.script image store
      ended_opens image left =
          opens-none roots old.script image store (spared_journal roots [] bare.history.soft ended image (spares_there valid spares) left ∙ bare_journal roots before)
          (spared_public roots bare.history.soft ended image (spares_there valid spares) left ∙ public_ended)

      ended_told : new.tree ≡ option_map (without (intent_path roots)) bare.tree → new.tree ≡ Some ended
      ended_told gone = gone ∙ ap (option_map (without (intent_path roots))) (way_there.tree tree told).1

      end_rests : new.history.soft ≡ bare.history.soft → new.tree ≡ option_map (without (intent_path roots)) bare.tree → Rests roots store new
      end_rests soft gone = subst (λ public. Rests roots public new) public_ended (rests_from roots new ended (ended_told gone) (bare_journal roots before) (subst (AreSparing roots []) (sym soft) (spares_there valid spares)))

      end_opens : {T : Type 0} (result : Result T WorldError) → Changes (without (intent_path roots)) bare new result → Adds (λ image. Opens roots old.script image store) old.history new.history
      end_opens result c =
          adds_then _ old.history bare.history new.history (way_opens roots changes old apart formed tree told intent journal same spares bare (Ok tt) way_there)
          (adds_wider _ (λ image. Opens roots old.script image store) bare.history new.history (λ image left. elim left [
            | inl early ↦ subst (λ f. Opens roots f image store) way_there.lasts.script (stands_before.opens image early)
            | inr late ↦ ended_opens image (subst (λ o. LeftOf bare.history.soft (option_map (without (intent_path roots)) o) image) (way_there.tree tree told).1 late)
          ]) (turns_adds _ _ bare.history new.history c.moments))

      end_stands : (error : WorldError) → Changes (without (intent_path roots)) {T = Unit {0}} bare new (Err error) → Stands roots store new
      end_stands Failed c = elim (c.failed refl) [
        | inl as_before ↦ stands_same roots store bare new as_before c.soft c.ran_none.lasts.script stands_before
        | inr gone ↦ (end_rests c.soft gone).stands
      ]
      end_stands NoMemory c = stands_same roots store bare new (c.no_memory refl) c.soft c.ran_none.lasts.script stands_before

    -- the journal's end stopped
    pub end_stopped : (error : WorldError) → Changes (without (intent_path roots)) {T = Unit {0}} bare new (Err error) → EndsTransaction roots changes old new (Err error)
    end_stopped error c = record {
      done = λ tree told. tt;
      behind = end_behind new c.ran_none.ran (either error c);
      survives = λ tree told intent journal same spares. record {
        each_moment = end_opens tree told intent journal same spares (Err error) c;
        stands = end_stands tree told intent journal same spares error c;
        rests = tt;
      };
      lasts = lasts_then old bare new way_there.lasts c.ran_none.lasts;
      cause = cause_handed old new error (cause_then Failed old bare new (Ok tt) (Err error) way_there.lasts.told way_there.cause c.cause);
    }
      where
        either : (error : WorldError) → Changes (without (intent_path roots)) {T = Unit {0}} bare new (Err error) → (new.tree ≡ bare.tree) ⊎ (new.tree ≡ option_map (without (intent_path roots)) bare.tree)
        either Failed c = c.failed refl
        either NoMemory c = inl (c.no_memory refl)

    -- it is gone
    pub end_done : HasFormedTree ran → ForSome old.tree (λ tree. (intent : Intent) × HasJournal roots intent tree × (intent.changes ≡ changes)) → Changes (without (intent_path roots)) {T = Unit {0}} bare new (Ok tt)
        → EndsTransaction roots changes old new (Ok made)
    end_done formed_ran has c = record {
      done = λ tree told.
          let has_one = has tree told in
          let valid = journal_valid roots changes tree has_one.0 has_one.1 has_one.2 in
          record {
            committed = record {
              tree = tree_made valid formed_ran new c.done tree told (ap is_dir has_one.1.stands);
              ran = c.ran_none.ran ∙ way_there.ran tree told;
              said = (d.done tree told).said;
            };
            requests = (d.done tree told).requests;
          };
      behind = end_behind new c.ran_none.ran (inr c.done);
      survives = λ tree told intent journal same spares.
          let rests = end_rests tree told intent journal same spares c.soft c.done in
          record { each_moment = end_opens tree told intent journal same spares (Ok tt) c; stands = rests.stands; rests = rests };
      lasts = lasts_then old bare new way_there.lasts c.ran_none.lasts;
      cause = cause_of_ok old new tt made (cause_then Failed old bare new (Ok tt) (Ok tt) way_there.lasts.told way_there.cause c.cause);
    }
