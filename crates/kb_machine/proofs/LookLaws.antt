-- A call that only looks, before an action or in place of it.
use Rattle.std.proofs.Common.{◌≡◌, ℕ, List, [], ◌∷◌, ◌++◌, Option, Some, refl, sym, ap, ◌∙◌, subst, inl}
use Rattle.std.specs.Prelude.{Result, Ok, Err}
use Rattle.std.specs.Option.{ForSome}
use Rattle.kb_world.specs.Crash.{LeftOf, Adds, History}
use Rattle.kb_world.specs.Read.{Agrees, Decides, Gives, IsAnswer}
use Rattle.kb_world.specs.Layout.{united, whole_tree}
use Rattle.kb_machine.specs.Outcome.{Outcome, Action, last_of, go_on, refuse_if, unless, by_answer, reads, warn, ◌then◌}
use Rattle.kb_world.specs.Public.{public_tree, foreign_tree}
use Rattle.kb_world.specs.State.{State, HasCause, Lasts, Unchanged}
use Rattle.kb_world.specs.Tree.{Tree}
use Rattle.kb_world.specs.declared.job.Report.{Report}
use Rattle.kb_world.specs.declared.refusal.Refusal.{Refusal}
use Rattle.kb_world.specs.declared.roots.Roots.{Roots}
use Rattle.kb_world.specs.declared.stop.Stop.{Stop}
use Rattle.kb_world.specs.declared.stop.Stop.TheVariants.{Refused, Fault, NoMemory}
use Rattle.kb_world.proofs.CrashLaws.{adds_none}
use Rattle.kb_machine.proofs.DoesLaws as decides
use Rattle.kb_machine.proofs.OutcomeLaws as low
use Rattle.kb_again.specs.Sparing.{AreSparing}
use Rattle.kb_machine.specs.Across.{Survives, LeavesStanding, SurvivesAs, LeavesBehindAs, DoesAcrossCrashes}
use Rattle.kb_machine.specs.Behind.{LeavesBehindOf}
use Rattle.kb_machine.proofs.BehindLaws.{behind_none, behind_since}
use Rattle.kb_machine.specs.Opens.{IsReady, Opens, own_areas}
use Rattle.kb_machine.specs.Stands.{Stands, Rests, OpensOneOf}

-- ---- what is unchanged stands and rests as it did

module _ (roots : Roots) (old mid : State) (same : Unchanged old mid) where
  was_left : (image : Tree) → LeftOf mid.history.soft mid.tree image → LeftOf old.history.soft old.tree image
  was_left image left = subst (λ (h : History). LeftOf h.soft old.tree image) same.history (subst (λ t. LeftOf mid.history.soft t image) same.tree left)

  pub looked_stands : (store : Tree) → Stands roots store old → Stands roots store mid
  looked_stands store stands = record {
    opens = λ image left. subst (λ script. Opens roots script image store) (sym same.ran_none.lasts.script) (stands.opens image (was_left image left));
    spares = λ tree told.
        let was = stands.spares tree (sym same.tree ∙ told) in (
          was.0,
          was.1,
          subst (λ script. IsReady roots script tree was.0 was.1) (sym same.ran_none.lasts.script) was.2,
          subst (λ (h : History). AreSparing roots (own_areas was.1) h.soft) (sym same.history) was.3,
        );
  }

  pub looked_rests : (store : Tree) → Rests roots store old → Rests roots store mid
  looked_rests store rests = record { no_journal = λ image left. rests.no_journal image (was_left image left); stands = looked_stands store rests.stands }

  -- it goes on as another action
  looked_on : (action next : Action) (new : State) (result : Result (Unit {0}) Stop)
      → ((tree : Tree) → old.tree ≡ Some tree → action (public_tree roots tree) (foreign_tree roots tree) ≡ next (public_tree roots tree) (foreign_tree roots tree))
      → SurvivesAs roots next mid new result → SurvivesAs roots action old new result
  looked_on action next new result outcomes goes tree told rooted rests =
      let store = public_tree roots tree in
      let foreign = foreign_tree roots tree in
      let two : Survives roots store (next store foreign) mid new result = goes tree (same.tree ∙ told) (same.ran_none.lasts.roots ∙ rooted) (looked_rests store rests) in
      let is = ap (λ (outcome : Outcome). outcome.after) (sym (outcomes tree told)) in
      record {
        each_moment =
            subst (λ (h : History). Adds (OpensOneOf roots old.script (store ∷ (action store foreign).after)) h new.history) same.history
            (subst (λ script. Adds (OpensOneOf roots script (store ∷ (action store foreign).after)) mid.history new.history) same.ran_none.lasts.script
            (subst (λ after. Adds (OpensOneOf roots mid.script (store ∷ after)) mid.history new.history) is two.each_moment));
        end = subst (λ after. LeavesStanding roots store after result new) is two.end;
      }

  behind_on : (action next : Action) (new : State)
      → ((tree : Tree) → old.tree ≡ Some tree → action (public_tree roots tree) (foreign_tree roots tree) ≡ next (public_tree roots tree) (foreign_tree roots tree))
      → LeavesBehindAs roots next mid new → LeavesBehindAs roots action old new
  behind_on action next new outcomes goes tree told rooted =
      let store = public_tree roots tree in
      let foreign = foreign_tree roots tree in
      subst (λ (outcome : Outcome). LeavesBehindOf roots outcome tree old new) (sym (outcomes tree told))
      (behind_since roots (next store foreign) tree tree old mid new same.ran_none.ran refl (goes tree (same.tree ∙ told) (same.ran_none.lasts.roots ∙ rooted)))

  behind_stop : (action : Action) → LeavesBehindAs roots action old mid
  behind_stop action tree told rooted = behind_none roots (action (public_tree roots tree) (foreign_tree roots tree)) tree old mid (same.tree ∙ told) same.ran_none.ran

  -- it stops there
  looked_stop : (action : Action) (stop : Stop)
      → ((tree : Tree) → old.tree ≡ Some tree → (why : Refusal) → stop ≡ Refused why → (action (public_tree roots tree) (foreign_tree roots tree)).after ≡ [])
      → SurvivesAs {T = Unit {0}} roots action old mid (Err stop)
  looked_stop action stop none tree told rooted rests = record {
    each_moment = adds_none (OpensOneOf roots old.script (store ∷ (action store foreign).after)) old.history mid.history (ap (λ (h : History). h.past) same.history);
    end = by stop refl;
  }
    where
      store : Tree
      store = public_tree roots tree

      foreign : Tree
      foreign = foreign_tree roots tree

      by : (s : Stop) → stop ≡ s → LeavesStanding {T = Unit {0}} roots store (action store foreign).after (Err s) mid
      by (Refused why) is = subst (λ after. Rests roots (last_of store after) mid) (sym (none tree told why is)) (looked_rests store rests)
      by Fault is = (store, inl refl, looked_stands store rests.stands)
      by NoMemory is = (store, inl refl, looked_stands store rests.stands)

-- ---- a refusal that is decided on

unless_stops : (due : Tree → Option Refusal) (second : Action) (store foreign : Tree) (why : Refusal) → due (united store foreign) ≡ Some why → ((unless due then second) store foreign).after ≡ []
unless_stops due second store foreign why is = ap (λ (o : Option Refusal). (go_on store (refuse_if o store foreign) second).after) is

pub refused : (roots : Roots) (read due : Tree → Option Refusal) (second : Action) (old mid : State) (report : Report) (stop : Stop)
    → ((tree : Tree) → read tree ≡ due (whole_tree roots tree)) → Decides read {T = Unit {0}} old mid (Err stop)
    → DoesAcrossCrashes roots (unless due then second) {T = Unit {0}} old mid report report (Err stop)
refused roots read due second old mid report stop same d = record {
  does = decides.does_refused roots read due second old mid report stop same d;
  survives = looked_stop roots old mid d.unchanged (unless due then second) stop (λ tree told why is.
      unless_stops due second (public_tree roots tree) (foreign_tree roots tree) why (sym (same tree) ∙ by tree told why is));
  behind = behind_stop roots old mid d.unchanged (unless due then second);
}
  where
    by : (tree : Tree) → old.tree ≡ Some tree → (why : Refusal) → stop ≡ Refused why → read tree ≡ Some why
    by tree told why is = subst (λ (s : Stop). Agrees {T = Unit {0}} (Err s) (read tree)) is (d.agrees tree told)

pub passed : (roots : Roots) (read due : Tree → Option Refusal) (second : Action) (old mid new : State) (before after : Report) (result : Result (Unit {0}) Stop)
    → ((tree : Tree) → read tree ≡ due (whole_tree roots tree)) → Decides read {T = Unit {0}} old mid (Ok tt) → DoesAcrossCrashes roots second mid new before after result
    → DoesAcrossCrashes roots (unless due then second) old new before after result
passed roots read due second old mid new before after result same d e = record {
  does = decides.does_passed roots read due second old mid new before after result same d e.does;
  survives = looked_on roots old mid d.unchanged (unless due then second) second new result passes e.survives;
  behind = behind_on roots old mid d.unchanged (unless due then second) second new passes e.behind;
}
  where
    passes : (tree : Tree) → old.tree ≡ Some tree → (unless due then second) (public_tree roots tree) (foreign_tree roots tree) ≡ second (public_tree roots tree) (foreign_tree roots tree)
    passes tree told = decides.unless_passed due second (public_tree roots tree) (foreign_tree roots tree) (sym (same tree) ∙ d.agrees tree told)

-- ---- what is read says how it goes on

pub unread : {A : Type 0} (roots : Roots) (read right : Tree → Result A Refusal) (next : A → Action) (old mid : State) (report : Report) (stop : Stop)
    → ((tree : Tree) → read tree ≡ right (whole_tree roots tree)) → Gives {T = A} read old mid (Err stop)
    → DoesAcrossCrashes roots (reads right next) {T = Unit {0}} old mid report report (Err stop)
unread {A = A} roots read right next old mid report stop same g = record {
  does = low.does_unread {A = A} roots read right next old mid report stop same g;
  survives = looked_stop roots old mid g.unchanged (reads right next) stop (λ tree told why is.
      ap (λ r. (by_answer next r (public_tree roots tree) (foreign_tree roots tree)).after) (sym (same tree) ∙ by tree told why is));
  behind = behind_stop roots old mid g.unchanged (reads right next);
}
  where
    by : (tree : Tree) → old.tree ≡ Some tree → (why : Refusal) → stop ≡ Refused why → read tree ≡ Err why
    by tree told why is = subst (λ (s : Stop). IsAnswer {T = A} (Err s) (read tree)) is (g.answers tree told)

pub read_on : {A : Type 0} (roots : Roots) (read right : Tree → Result A Refusal) (next : A → Action) (value : A) (old mid new : State) (before after : Report) (result : Result (Unit {0}) Stop)
    → ((tree : Tree) → read tree ≡ right (whole_tree roots tree)) → Gives {T = A} read old mid (Ok value) → DoesAcrossCrashes roots (next value) mid new before after result
    → DoesAcrossCrashes roots (reads right next) old new before after result
read_on {A = A} roots read right next value old mid new before after result same g e = record {
  does = low.does_read {A = A} roots read right next value old mid new before after result same g e.does;
  survives = looked_on roots old mid g.unchanged (reads right next) (next value) new result goes e.survives;
  behind = behind_on roots old mid g.unchanged (reads right next) (next value) new goes e.behind;
}
  where
    goes : (tree : Tree) → old.tree ≡ Some tree → reads right next (public_tree roots tree) (foreign_tree roots tree) ≡ next value (public_tree roots tree) (foreign_tree roots tree)
    goes tree told = ap (λ r. by_answer next r (public_tree roots tree) (foreign_tree roots tree)) (sym (same tree) ∙ g.answers tree told)

-- it goes on with the whole that stands
pub whole_on : (roots : Roots) (next : Tree → Action) (old new : State) (before after : Report) (result : Result (Unit {0}) Stop)
    → Lasts old new → HasCause Fault old new result → ForSome old.tree (λ tree. DoesAcrossCrashes roots (next (whole_tree roots tree)) old new before after result)
    → DoesAcrossCrashes roots (reads Ok next) old new before after result
whole_on roots next old new before after result lasts cause d = record {
  does = low.does_whole roots next old new before after result lasts cause (λ tree told. (d tree told).does);
  survives = λ tree told. (d tree told).survives tree told;
  behind = λ tree told. (d tree told).behind tree told;
}

-- ---- a text for standard error

pub warned : (roots : Roots) (text : List ℕ) (state : State) (before after : Report) → after.out ≡ before.out → after.err ≡ before.err ++ text
    → DoesAcrossCrashes roots (warn text) {T = Unit {0}} state state before after (Ok tt)
warned roots text state before after out err = record {
  does = low.does_warn roots text state before after out err;
  survives = λ tree told rooted rests. record { each_moment = adds_none (OpensOneOf roots state.script (public_tree roots tree ∷ [])) state.history state.history refl; end = rests };
  behind = λ tree told rooted. behind_none roots (warn text (public_tree roots tree) (foreign_tree roots tree)) tree state state told refl;
}
