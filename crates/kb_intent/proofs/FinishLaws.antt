-- The parts of what ends a transaction, one after another.
use Rattle.std.proofs.Common.{◌≡◌, ◌⊎◌, true, List, ◌++◌, Option, Some, Result, Ok, Err, sym, ap, ◌∙◌, subst, inl, inr}
use Rattle.std.specs.List.{AllByRecursion}
use Rattle.std.specs.Option.{ForSome}
use Rattle.kb_world.specs.Crash.{LeftOf, Adds}
use Rattle.kb_world.specs.Roots.{AreApart}
use Rattle.kb_world.specs.Script.{Script}
use Rattle.kb_world.specs.State.{State, HasCause, Lasts}
use Rattle.kb_world.specs.Tree.{Tree}
use Rattle.kb_world.specs.declared.child.Area.{Area}
use Rattle.kb_world.specs.declared.roots.Roots.{Roots}
use Rattle.kb_world.specs.declared.world.WorldError.{WorldError}
use Rattle.kb_world.specs.declared.world.WorldError.TheVariants.{Failed}
use Rattle.kb_world.proofs.CrashLaws.{adds_then, adds_wider}
use Rattle.kb_world.proofs.CallLaws.{cause_then, lasts_then}
use Rattle.kb_changes.specs.Change.{done, requests_of}
use Rattle.kb_changes.specs.Valid.{is_valid}
use Rattle.kb_changes.specs.declared.change.Change.{Change}
use Rattle.kb_changes.specs.declared.change.Intent.{Intent}
use Rattle.kb_again.specs.Sparing.{AreSparing, areas_of}
use Rattle.kb_again.specs.Within.{IsBetween, IsUnstaged, staging_paths}
use Rattle.kb_again.proofs.Laws.{between_done_alike, own_sparing}
use Rattle.kb_machine.specs.Aside.{IsOneArea, IsSameBut}
use Rattle.kb_machine.specs.Behind.{touched_by}
use Rattle.kb_machine.specs.Opens.{Opens}
use Rattle.kb_machine.specs.Stands.{Stands}
use Rattle.kb_machine.proofs.AsideThenLaws.{all_append, left_by_members}
use Rattle.kb_machine.proofs.BehindLaws.{front_all}
use Rattle.kb_walk.proofs.WipeCalls.{HasFormedTree, cause_handed}
use Rattle.kb_intent.specs.Clearing.{SettlesAll, LeftOfGone, TakesAllAway}
use Rattle.kb_intent.specs.Doing.{DoesChanges}
use Rattle.kb_intent.specs.Finish.{HasJournal, store_after, KeepsOpening, EndsTransaction}
use Rattle.kb_intent.specs.declared.changing.Ran.{Ran}
use Rattle.kb_intent.proofs.BehindLaws.{or_private, keeps_but, but_then, done_but, cut_but}
use Rattle.kb_intent.proofs.ClearingLaws.{all_through, gone_none, gone_then}
use Rattle.kb_intent.proofs.StandingLaws.{unstaged_hidden, sparing_now, cut_alike, unstaged_alike, opens_alike, stands_alike}

-- ---- behind the changes, while what their children left is settled and what is staged goes

-- a crash leaves it while they are done, or of a tree behind them
abbrev LeftOnTheWay : Roots → Script → List Change → List Area → Tree → Tree → Type 0
LeftOnTheWay roots script changes soft tree image = IsBetween roots script changes soft tree image ⊎ LeftOfGone (staging_paths roots) (areas_of changes ++ soft) (done roots script changes tree) image

abbrev IsUnstagedNow : Roots → Script → List Change → Option Tree → Tree → Type 0
IsUnstagedNow roots script changes new tree = (now : Tree) × (new ≡ Some now) × IsUnstaged roots (done roots script changes tree) now

pub record IsOnTheWay (roots : Roots) (changes : List Change) {T : Type 0} (old new : State) (result : Result T WorldError) : Type 0 where
  pub tree : ForSome old.tree (IsUnstagedNow roots old.script changes new.tree)
  pub ran : ForSome old.tree (λ tree. new.ran ≡ old.ran ++ requests_of roots old.script changes tree)
  pub soft : AllByRecursion (λ area. IsOneArea area (areas_of changes ++ old.history.soft)) new.history.soft
  pub moments : ForSome old.tree (λ tree. Adds (LeftOnTheWay roots old.script changes old.history.soft tree) old.history new.history)
  pub lasts : Lasts old new
  pub cause : HasCause Failed old new result

pub way_begins : (roots : Roots) (changes : List Change) (old new : State) (made : Ran) → DoesChanges roots changes old new (Ok made) → IsOnTheWay roots changes old new (Ok made)
way_begins roots changes old new made d = record {
  tree = λ tree told. (done roots old.script changes tree, (d.done tree told).tree, gone_none (staging_paths roots) (done roots old.script changes tree));
  ran = λ tree told. (d.done tree told).ran;
  soft = d.soft;
  moments = λ tree told. adds_wider _ (LeftOnTheWay roots old.script changes old.history.soft tree) old.history new.history (λ image left. inl left) (d.moments tree told);
  lasts = d.lasts;
  cause = d.cause;
}

pub way_settles : {S T : Type 0} (roots : Roots) (changes : List Change) (old mid new : State) (value : S) (result : Result T WorldError) → IsOnTheWay roots changes old mid (Ok value)
    → SettlesAll (areas_of changes) mid new result → IsOnTheWay roots changes old new result
way_settles roots changes old mid new value result w s = record {
  tree = λ tree told. let now = w.tree tree told in (now.0, s.tree ∙ now.1, now.2);
  ran = λ tree told. s.ran_none.ran ∙ w.ran tree told;
  soft = all_through (areas_of changes ++ old.history.soft) mid.history.soft new.history.soft w.soft s.soft;
  moments = λ tree told.
      let now = w.tree tree told in
      adds_then _ old.history mid.history new.history (w.moments tree told)
      (adds_wider _ (LeftOnTheWay roots old.script changes old.history.soft tree) mid.history new.history (λ image left. inr (record {
        now = now.0;
        gone = now.2;
        left = left_by_members mid.history.soft (areas_of changes ++ old.history.soft) now.0 image w.soft (subst (λ o. LeftOf mid.history.soft o image) now.1 left);
      })) s.moments);
  lasts = lasts_then old mid new w.lasts s.ran_none.lasts;
  cause = cause_then Failed old mid new (Ok value) result w.lasts.told w.cause s.cause;
}

pub way_takes : {S T : Type 0} (roots : Roots) (changes : List Change) (old mid new : State) (value : S) (result : Result T WorldError) → IsOnTheWay roots changes old mid (Ok value)
    → TakesAllAway (staging_paths roots) mid new result → IsOnTheWay roots changes old new result
way_takes roots changes old mid new value result w t = record {
  tree = λ tree told.
      let now = w.tree tree told in
      let next = t.partly now.0 now.1 in
      (next.0, next.1, gone_then (staging_paths roots) (done roots old.script changes tree) now.0 next.0 now.2 next.2);
  ran = λ tree told. t.ran_none.ran ∙ w.ran tree told;
  soft = subst (AllByRecursion (λ area. IsOneArea area (areas_of changes ++ old.history.soft))) (sym t.soft) w.soft;
  moments = λ tree told.
      let now = w.tree tree told in
      adds_then _ old.history mid.history new.history (w.moments tree told)
      (adds_wider _ (LeftOnTheWay roots old.script changes old.history.soft tree) mid.history new.history (λ image left. inr (record {
        now = left.now;
        gone = gone_then (staging_paths roots) (done roots old.script changes tree) now.0 left.now now.2 left.gone;
        left = left_by_members mid.history.soft (areas_of changes ++ old.history.soft) left.now image w.soft left.left;
      })) (t.moments now.0 now.1));
  lasts = lasts_then old mid new w.lasts t.ran_none.lasts;
  cause = cause_then Failed old mid new (Ok value) result w.lasts.told w.cause t.cause;
}

-- of what is foreign that leaves what the changes don't touch
pub unstaged_but : (roots : Roots) (script : Script) (changes : List Change) (tree now : Tree) → IsUnstaged roots (done roots script changes tree) now
    → IsSameBut (or_private roots (touched_by changes)) tree now
unstaged_but roots script changes tree now gone =
    but_then roots (touched_by changes) tree (done roots script changes tree) now (done_but roots script changes tree) (unstaged_hidden roots (done roots script changes tree) now gone)

-- ---- what survives

-- what a journal has is valid
pub journal_valid : (roots : Roots) (changes : List Change) (tree : Tree) (intent : Intent) → HasJournal roots intent tree → intent.changes ≡ changes → is_valid roots changes ≡ true
journal_valid roots changes tree intent journal same = ap (is_valid roots) (sym same) ∙ journal.journal.valid

module _ (roots : Roots) (changes : List Change) (old : State) (apart : AreApart roots) (formed : HasFormedTree old) where
  abbrev Survives : {T : Type 0} → State → Result T WorldError → Type 0
  Survives new result = ForSome old.tree (λ tree. (intent : Intent) → HasJournal roots intent tree → intent.changes ≡ changes → AreSparing roots (areas_of changes) old.history.soft
      → KeepsOpening roots (store_after roots old.script changes tree) old new result)

  -- it stopped within the changes
  pub changes_stopped : (new : State) (error : WorldError) → HasFormedTree new → DoesChanges roots changes old new (Err error) → EndsTransaction roots changes old new (Err error)
  changes_stopped new error formed_new d = record {
    done = λ tree told. tt;
    behind = λ tree told.
        let cut = d.cut_off tree told in
        record { ran = d.ran tree told; foreign = keeps_but roots (touched_by changes) tree cut.now new cut.told (cut_but roots old.script changes new.tree tree cut) };
    survives = λ tree told intent journal same spares.
        let valid = journal_valid roots changes tree intent journal same in
        let cut = d.cut_off tree told in
        record {
          each_moment = adds_wider _ (λ image. Opens roots old.script image (store_after roots old.script changes tree)) old.history new.history
              (λ image left. opens_alike roots old.script changes tree apart valid (formed tree told) intent journal same image
              (between_done_alike roots old.script changes old.history.soft tree image apart valid (formed tree told) spares left)) (d.moments tree told);
          stands = stands_alike roots old.script changes tree apart valid (formed tree told) intent journal same new cut.now cut.told d.lasts.script (formed_new cut.now cut.told)
              (sparing_now roots changes old.history.soft new.history.soft apart valid spares d.soft)
              (λ image soft spares_now left. cut_alike roots old.script changes tree apart valid (formed tree told) new.tree cut.now image soft cut.told cut spares_now left);
          rests = tt;
        };
    lasts = d.lasts;
    cause = d.cause;
  }

  -- on the way behind them each crash leaves what opens the store
  module _ (tree : Tree) (told : old.tree ≡ Some tree) (intent : Intent) (journal : HasJournal roots intent tree) (same : intent.changes ≡ changes) (spares : AreSparing roots (areas_of changes) old.history.soft) where
    abbrev store : Tree
    store = store_after roots old.script changes tree

    valid : is_valid roots changes ≡ true
    valid = journal_valid roots changes tree intent journal same

    left_opens : (image : Tree) → LeftOnTheWay roots old.script changes old.history.soft tree image → Opens roots old.script image store
    left_opens image left = opens_alike roots old.script changes tree apart valid (formed tree told) intent journal same image (elim left [
      | inl between ↦ between_done_alike roots old.script changes old.history.soft tree image apart valid (formed tree told) spares between
      | inr gone ↦ unstaged_alike roots old.script changes tree apart valid (formed tree told) gone.now image (areas_of changes ++ old.history.soft) gone.gone
          (all_append _ (areas_of changes) old.history.soft (own_sparing roots changes apart valid) spares) gone.left
    ])

    pub way_opens : {T : Type 0} (new : State) (result : Result T WorldError) → IsOnTheWay roots changes old new result → Adds (λ image. Opens roots old.script image store) old.history new.history
    way_opens new result w = adds_wider _ (λ image. Opens roots old.script image store) old.history new.history left_opens (w.moments tree told)

    pub way_stands : {T : Type 0} (new : State) (result : Result T WorldError) → HasFormedTree new → IsOnTheWay roots changes old new result → Stands roots store new
    way_stands new result formed_new w =
        let now = w.tree tree told in
        stands_alike roots old.script changes tree apart valid (formed tree told) intent journal same new now.0 now.1 w.lasts.script (formed_new now.0 now.1)
        (sparing_now roots changes old.history.soft new.history.soft apart valid spares w.soft)
        (λ image soft spares_now left. unstaged_alike roots old.script changes tree apart valid (formed tree told) now.0 image soft now.2 spares_now left)

  -- it stopped behind them
  pub way_stopped : {T : Type 0} (new : State) (error : WorldError) → HasFormedTree new → IsOnTheWay roots changes {T = T} old new (Err error) → EndsTransaction roots changes old new (Err error)
  way_stopped new error formed_new w = record {
    done = λ tree told. tt;
    behind = λ tree told.
        let now = w.tree tree told in
        record {
          ran = front_all (requests_of roots old.script changes tree) old new (w.ran tree told);
          foreign = keeps_but roots (touched_by changes) tree now.0 new now.1 (unstaged_but roots old.script changes tree now.0 now.2);
        };
    survives = λ tree told intent journal same spares. record {
      each_moment = way_opens tree told intent journal same spares new (Err error) w;
      stands = way_stands tree told intent journal same spares new (Err error) formed_new w;
      rests = tt;
    };
    lasts = w.lasts;
    cause = cause_handed old new error w.cause;
  }
