-- An action that is one transaction.
use Rattle.std.proofs.Common.{◌≡◌, ◌⊎◌, ℕ, Bool, true, false, List, [], ◌∷◌, ◌++◌, Some, None, refl, sym, ap, ◌∙◌, subst, inl, inr}
use Rattle.std.specs.Prelude.{Result, Ok, Err}
use Rattle.kb_world.specs.Path.{Path}
use Rattle.kb_world.specs.Tree.{Tree, node_at}
use Rattle.kb_world.specs.Public.{public_tree, foreign_tree}
use Rattle.kb_world.specs.Script.{Script}
use Rattle.kb_world.specs.Crash.{Adds, History}
use Rattle.kb_world.specs.State.{State}
use Rattle.kb_machine.specs.Outcome.{Outcome, Action}
use Rattle.kb_machine.specs.Does.{CameAbout}
use Rattle.kb_world.specs.declared.child.Reply.{Reply}
use Rattle.kb_world.specs.declared.roots.Roots.{Roots}
use Rattle.kb_world.specs.declared.job.Report.{Report}
use Rattle.kb_world.specs.declared.stop.Stop.{Stop}
use Rattle.kb_world.specs.declared.stop.Stop.TheVariants.{Refused, Fault, NoMemory}
use Rattle.kb_world.proofs.CrashLaws.{adds_wider, turns_adds}
use Rattle.kb_world.proofs.CallLaws.{cause_other}
use Rattle.kb_machine.specs.Stands.{Rests, Stands, OpensOneOf, StandsOneOf}
use Rattle.kb_machine.specs.Commits.{TurnsOver, Transacted, Commits, CommitLeaves, CommitSurvives, IsCommitted}
use Rattle.kb_machine.specs.Across.{Survives, LeavesStanding, DoesAcrossCrashes, SaysSo}
use Rattle.kb_machine.specs.Behind.{is_reached, LeavesBehind, LeavesBehindOf}
use Rattle.kb_machine.proofs.AsideLaws.{IsUnrefused}
use Rattle.kb_machine.proofs.BehindLaws.{never_shown}
use Rattle.kb_machine.proofs.RestLaws.{opens-none}

-- at each moment of a transaction a crash leaves one of its two stores
pub turned_adds : (roots : Roots) (script : Script) (first second : Tree) (old new : History) → TurnsOver roots script first second old new → Adds (OpensOneOf roots script (first ∷ second ∷ [])) old new
turned_adds roots script first second old new t = adds_wider _ (OpensOneOf roots script (first ∷ second ∷ [])) old new
    (λ image one. elim one [ inl early ↦ (first, inl refl, opens-none roots script image first early.bare early.public) | inr late ↦ (second, inr (inl refl), late) ]) (turns_adds _ _ old new t)

-- what the transaction may touch is never foreign, but in the areas of its children
pub behind_says : (roots : Roots) (action : Action) (made : Tree → Transacted) (line : List ℕ) (texts : List Reply → List ℕ) (tree : Tree) (old new : State)
    → SaysSo roots action made line texts tree → LeavesBehind roots (made tree).requests (made tree).touched tree old new
    → LeavesBehindOf roots (action (public_tree roots tree) (foreign_tree roots tree)) tree old new
behind_says roots action made line texts tree old new says b =
    subst (λ (outcome : Outcome). LeavesBehindOf roots outcome tree old new) (sym says.says)
    (record { ran = b.ran; foreign = record { now = b.foreign.now; told = b.foreign.told; same = λ path out. by path out ((made tree).touched path) refl } })
  where
    by : (path : Path) → is_reached (made tree).requests path ≡ false → (touched : Bool) → (made tree).touched path ≡ touched
        → node_at (foreign_tree roots b.foreign.now) path ≡ node_at (foreign_tree roots tree) path
    by path out true e = never_shown roots b.foreign.now tree path (says.spares path e out)
    by path out false e = b.foreign.same path e

abbrev stopped : Stop → Result (Unit {0}) Stop
stopped stop = Err stop

one_of_two : (roots : Roots) (first second : Tree) (new : State) → Stands roots first new ⊎ Stands roots second new → StandsOneOf roots (first ∷ second ∷ []) new
one_of_two roots first second new (inl one) = (first, inl refl, one)
one_of_two roots first second new (inr one) = (second, inr (inl refl), one)

survived : (roots : Roots) (action : Action) (made : Tree → Transacted) (line : List ℕ) (texts : List Reply → List ℕ) (old new : State) (tree : Tree) → SaysSo roots action made line texts tree
    → Rests roots (public_tree roots tree) old → (stop : Stop) → IsUnrefused stop
    → CommitSurvives roots (public_tree roots tree) (public_tree roots (made tree).tree) old new (Err stop)
    → Survives {T = Unit {0}} roots (public_tree roots tree) (action (public_tree roots tree) (foreign_tree roots tree)) old new (Err stop)
survived roots action made line texts old new tree says rests stop unrefused s =
    subst (λ (outcome : Outcome). Survives {T = Unit {0}} roots (public_tree roots tree) outcome old new (Err stop)) (sym says.says) (record {
      each_moment = turned_adds roots old.script (public_tree roots tree) _ old.history new.history s.turns;
      end = by stop unrefused s.leaves;
    })
  where
    by : (stop : Stop) → IsUnrefused stop → CommitLeaves roots (public_tree roots tree) (public_tree roots (made tree).tree) (Err stop) new
        → LeavesStanding {T = Unit {0}} roots (public_tree roots tree) (public_tree roots (made tree).tree ∷ []) (Err stop) new
    by (Refused why) u leaves = absurd u
    by Fault u leaves = one_of_two roots _ _ new leaves
    by NoMemory u leaves = one_of_two roots _ _ new leaves

pub does_commit : (roots : Roots) (action : Action) (made : Tree → Transacted) (line : List ℕ) (texts : List Reply → List ℕ) (old new : State) (before after : Report) (replies : List Reply)
    → ((tree : Tree) → old.tree ≡ Some tree → old.roots ≡ roots → SaysSo roots action made line texts tree)
    → Commits roots made old new (Ok replies) → after.out ≡ before.out ++ line → after.err ≡ before.err ++ texts replies
    → DoesAcrossCrashes roots action {T = Unit {0}} old new before after (Ok tt)
does_commit roots action made line texts old new before after replies says c out err = record {
  does = record {
    answers = λ tree told rooted.
        let store = public_tree roots tree in
        let done : IsCommitted (made tree) old new replies = c.done tree told in
        subst (λ (outcome : Outcome). CameAbout roots store outcome None old new before after) (sym (says tree told rooted).says) (record {
          end = refl;
          tree = ((made tree).tree, done.tree, record { public_part = refl; foreign_part = refl });
          ran = done.ran;
          out = out;
          err = err ∙ ap (λ r. before.err ++ texts r) done.said;
        });
    lasts = c.lasts;
    cause = cause_other old new (Ok replies) (Ok tt) c.cause (λ failed. let impossible : Ok tt ≡ stopped Fault = failed in cc);
  };
  survives = λ tree told rooted rests.
      let store = public_tree roots tree in
      let s = c.survives tree told rests in
      subst (λ (outcome : Outcome). Survives {T = Unit {0}} roots store outcome old new (Ok tt)) (sym (says tree told rooted).says) (record {
        each_moment = turned_adds roots old.script store _ old.history new.history s.turns;
        end = s.leaves;
      });
  behind = λ tree told rooted. behind_says roots action made line texts tree old new (says tree told rooted) (c.behind tree told);
}

-- a transaction that stopped
pub does_uncommitted : (roots : Roots) (action : Action) (made : Tree → Transacted) (line : List ℕ) (texts : List Reply → List ℕ) (old new : State) (before after : Report) (stop : Stop)
    → ((tree : Tree) → old.tree ≡ Some tree → old.roots ≡ roots → SaysSo roots action made line texts tree)
    → Commits roots made old new (Err stop)
    → DoesAcrossCrashes roots action {T = Unit {0}} old new before after (Err stop)
does_uncommitted roots action made line texts old new before after (Refused why) says c = absurd (c.unrefused why refl)
does_uncommitted roots action made line texts old new before after Fault says c = record {
  does = record {
    answers = λ tree told rooted. tt;
    lasts = c.lasts;
    cause = record { later = c.cause.later; rose = λ failed. c.cause.rose refl; steady = c.cause.steady; never = λ told is failed. c.cause.never told is refl };
  };
  survives = λ tree told rooted rests. survived roots action made line texts old new tree (says tree told rooted) rests Fault tt (c.survives tree told rests);
  behind = λ tree told rooted. behind_says roots action made line texts tree old new (says tree told rooted) (c.behind tree told);
}
does_uncommitted roots action made line texts old new before after NoMemory says c = record {
  does = record {
    answers = λ tree told rooted. tt;
    lasts = c.lasts;
    cause = cause_other old new (Err NoMemory) (Err NoMemory) c.cause (λ failed. let impossible : stopped NoMemory ≡ stopped Fault = failed in cc);
  };
  survives = λ tree told rooted rests. survived roots action made line texts old new tree (says tree told rooted) rests NoMemory tt (c.survives tree told rests);
  behind = λ tree told rooted. behind_says roots action made line texts tree old new (says tree told rooted) (c.behind tree told);
}

-- it came about, and then memory ran out for what is said of it
pub does_untold : (roots : Roots) (action : Action) (made : Tree → Transacted) (line : List ℕ) (texts : List Reply → List ℕ) (old new : State) (before after : Report) (replies : List Reply)
    → ((tree : Tree) → old.tree ≡ Some tree → old.roots ≡ roots → SaysSo roots action made line texts tree)
    → Commits roots made old new (Ok replies)
    → DoesAcrossCrashes roots action {T = Unit {0}} old new before after (Err NoMemory)
does_untold roots action made line texts old new before after replies says c = record {
  does = record {
    answers = λ tree told rooted. tt;
    lasts = c.lasts;
    cause = cause_other old new (Ok replies) (Err NoMemory) c.cause (λ failed. let impossible : stopped NoMemory ≡ stopped Fault = failed in cc);
  };
  survives = λ tree told rooted rests.
      let store = public_tree roots tree in
      let s = c.survives tree told rests in
      subst (λ (outcome : Outcome). Survives {T = Unit {0}} roots store outcome old new (Err NoMemory)) (sym (says tree told rooted).says) (record {
        each_moment = turned_adds roots old.script store _ old.history new.history s.turns;
        end = (public_tree roots (made tree).tree, inr (inl refl), s.leaves.stands);
      });
  behind = λ tree told rooted. behind_says roots action made line texts tree old new (says tree told rooted) (c.behind tree told);
}
