-- An action that goes on from work aside.
use Rattle.std.proofs.Common.{◌≡◌, [], ◌∷◌, ◌++◌, Option, Some, None, refl, sym, ap, ◌∙◌, subst, inl, append_assoc}
use Rattle.std.proofs.lemmas.List.{append-nil}
use Rattle.std.specs.Prelude.{Result, Ok, Err, IsErrOf}
use Rattle.kb_world.specs.Tree.{Tree, IsFormed}
use Rattle.kb_world.specs.Public.{public_tree, foreign_tree}
use Rattle.kb_world.specs.Crash.{Adds}
use Rattle.kb_world.specs.State.{State}
use Rattle.kb_machine.specs.Outcome.{Outcome, Action, last_of, joined}
use Rattle.kb_machine.specs.Does.{CameAbout, Answers}
use Rattle.kb_world.specs.declared.roots.Roots.{Roots}
use Rattle.kb_world.specs.declared.job.Report.{Report}
use Rattle.kb_world.specs.declared.refusal.Refusal.{Refusal}
use Rattle.kb_world.specs.declared.stop.Stop.{Stop}
use Rattle.kb_world.specs.declared.stop.Stop.TheVariants.{Refused, Fault, NoMemory}
use Rattle.kb_world.proofs.CrashLaws.{adds_then}
use Rattle.kb_world.proofs.CallLaws.{cause_then, lasts_then}
use Rattle.kb_machine.specs.Stands.{Rests, OpensOneOf}
use Rattle.kb_machine.specs.Across.{Survives, LeavesStanding, DoesAcrossCrashes}
use Rattle.kb_machine.specs.Works.{Work, work_only, by_result, works, IsWorked, Works}
use Rattle.kb_machine.proofs.AsideLaws.{aside_public, aside_foreign, aside_rests, aside_adds}
use Rattle.kb_machine.specs.Behind.{RanFront, LeavesBehindOf}
use Rattle.kb_machine.proofs.BehindLaws.{front_all, behind_same, behind_first, behind_then}

came_then : (roots : Roots) (store : Tree) (first second : Outcome) (due : Option Refusal) (old mid new : State) (before between after : Report) → first.after ≡ []
    → CameAbout roots store first None old mid before between → CameAbout roots store second due mid new between after
    → CameAbout roots store (joined first second) due old new before after
came_then roots store first second due old mid new before between after none a b = record {
  end = b.end;
  tree = (b.tree.0, b.tree.1, record { public_part = b.tree.2.public_part ∙ ap (λ l. last_of store (l ++ second.after)) (sym none); foreign_part = b.tree.2.foreign_part });
  ran = b.ran ∙ ap (λ so_far. so_far ++ second.requests) a.ran ∙ append_assoc old.ran first.requests second.requests;
  out = b.out ∙ ap (λ so_far. so_far ++ second.out) a.out ∙ append_assoc before.out first.out second.out;
  err = b.err ∙ ap (λ so_far. so_far ++ second.err) a.err ∙ append_assoc before.err first.err second.err;
}

answers_then : (roots : Roots) (store : Tree) (first second : Outcome) (result : Result (Unit {0}) Stop) (old mid new : State) (before between after : Report) → first.after ≡ []
    → CameAbout roots store first None old mid before between → Answers roots store second result mid new between after
    → Answers roots store (joined first second) result old new before after
answers_then roots store first second (Ok u) old mid new before between after none a b = came_then roots store first second None old mid new before between after none a b
answers_then roots store first second (Err (Refused why)) old mid new before between after none a b = came_then roots store first second (Some why) old mid new before between after none a b
answers_then roots store first second (Err Fault) old mid new before between after none a b = tt
answers_then roots store first second (Err NoMemory) old mid new before between after none a b = tt

abbrev answered : {T : Type 0} → T → Result T Stop
answered value = Ok value

abbrev stopped : {T : Type 0} → Stop → Result T Stop
stopped stop = Err stop

-- the work's own part of the outcome
came_worked : {T : Type 0} (roots : Roots) (work : Work T) (right : Result T Refusal) (due : Option Refusal) (tree now : Tree) (old mid : State) (before between : Report) → mid.tree ≡ Some now
    → public_tree roots now ≡ public_tree roots tree → foreign_tree roots now ≡ foreign_tree roots tree → IsWorked work right old mid before between
    → CameAbout roots (public_tree roots tree) (work_only work.requests work.err due (foreign_tree roots tree)) due old mid before between
came_worked roots work right due tree now old mid before between told same kept w = record {
  end = refl;
  tree = (now, told, record { public_part = same; foreign_part = kept });
  ran = w.ran;
  out = w.out ∙ sym (append-nil before.out);
  err = w.err;
}

-- whatever it answers, a front of its children ran
behind_worked : {T : Type 0} (roots : Roots) (work : Work T) (next : T → Outcome) (tree now : Tree) (old new : State) → new.tree ≡ Some now
    → foreign_tree roots now ≡ foreign_tree roots tree → RanFront work.requests old new
    → LeavesBehindOf roots (by_result work.result work.requests work.err next (foreign_tree roots tree)) tree old new
behind_worked {T} roots work next tree now old new told kept ran = by work.result
  where
    alone : (due : Option Refusal) → LeavesBehindOf roots (work_only work.requests work.err due (foreign_tree roots tree)) tree old new
    alone due = behind_same roots (work_only work.requests work.err due (foreign_tree roots tree)) tree now old new told kept ran

    by : (right : Result T Refusal) → LeavesBehindOf roots (by_result right work.requests work.err next (foreign_tree roots tree)) tree old new
    by (Ok value) = behind_first roots (work_only work.requests work.err None (foreign_tree roots tree)) (next value) tree old new (alone None)
    by (Err why) = alone (Some why)

pub does_worked : {T : Type 0} (roots : Roots) (work : Tree → Tree → Work T) (next : T → Action) (value : T) (old mid new : State) (before between after : Report) (result : Result (Unit {0}) Stop)
    → ((tree : Tree) → old.tree ≡ Some tree → IsFormed tree) → Works roots work old mid before between (answered value)
    → DoesAcrossCrashes roots (next value) mid new between after result → DoesAcrossCrashes roots (works work next) old new before after result
does_worked roots work next value old mid new before between after result formed w d = record {
  does = record {
    answers = λ tree told rooted.
        let now = w.aside.tree tree told in
        let store = public_tree roots tree in
        let foreign = foreign_tree roots tree in
        let W = work store foreign in
        let is : IsWorked W (Ok value) old mid before between = w.answers tree told rooted in
        let P : Tree → Tree → Type 0 = λ s f. Answers roots s (next value s f) result mid new between after in
        let goes : P store foreign =
        subst (λ f. P store f) (aside_foreign roots tree now.0 now.2)
        (subst (λ s. P s (foreign_tree roots now.0)) (aside_public roots tree now.0 now.2) (d.does.answers now.0 now.1 (w.lasts.roots ∙ rooted))) in
        subst (λ r. Answers roots store (by_result r W.requests W.err (λ v. next v store foreign) foreign) result old new before after) (sym is.result)
        (answers_then roots store (work_only W.requests W.err None foreign) (next value store foreign) result old mid new before between after refl
        (came_worked roots W (Ok value) None tree now.0 old mid before between now.1 (aside_public roots tree now.0 now.2) (aside_foreign roots tree now.0 now.2) is) goes);
    lasts = lasts_then old mid new w.lasts d.does.lasts;
    cause = cause_then Fault old mid new (answered value) result w.lasts.told w.cause d.does.cause;
  };
  survives = λ tree told rooted rests.
      let now = w.aside.tree tree told in
      let store = public_tree roots tree in
      let foreign = foreign_tree roots tree in
      let W = work store foreign in
      let is : IsWorked W (Ok value) old mid before between = w.answers tree told rooted in
      let P : Tree → Tree → Type 0 = λ s f. Rests roots s mid → Survives roots s (next value s f) mid new result in
      let goes : P store foreign =
      subst (λ f. P store f) (aside_foreign roots tree now.0 now.2)
      (subst (λ s. P s (foreign_tree roots now.0)) (aside_public roots tree now.0 now.2) (d.survives now.0 now.1 (w.lasts.roots ∙ rooted))) in
      let one : Survives roots store (next value store foreign) mid new result = goes (aside_rests roots old mid tree told (formed tree told) rests w.aside) in
      let stores = (next value store foreign).after in
      subst (λ r. Survives roots store (by_result r W.requests W.err (λ v. next v store foreign) foreign) old new result) (sym is.result)
      (record {
        each_moment = adds_then (OpensOneOf roots old.script (store ∷ stores)) old.history mid.history new.history
            (aside_adds roots old mid tree told (formed tree told) rests w.aside stores)
            (subst (λ script. Adds (OpensOneOf roots script (store ∷ stores)) mid.history new.history) w.lasts.script one.each_moment);
        end = one.end;
      });
  behind = λ tree told rooted.
      let now = w.aside.tree tree told in
      let store = public_tree roots tree in
      let foreign = foreign_tree roots tree in
      let kept = aside_foreign roots tree now.0 now.2 in
      let W = work store foreign in
      let is : IsWorked W (Ok value) old mid before between = w.answers tree told rooted in
      let first = work_only W.requests W.err None foreign in
      let P : Tree → Tree → Type 0 = λ s f. LeavesBehindOf roots (next value s f) now.0 mid new in
      let goes : P store foreign =
      subst (λ f. P store f) kept (subst (λ s. P s (foreign_tree roots now.0)) (aside_public roots tree now.0 now.2) (d.behind now.0 now.1 (w.lasts.roots ∙ rooted))) in
      subst (λ r. LeavesBehindOf roots (by_result r W.requests W.err (λ v. next v store foreign) foreign) tree old new) (sym is.result)
      (behind_then roots first (next value store foreign) tree now.0 old mid new now.1 is.ran
      (behind_same roots first tree now.0 old mid now.1 kept (front_all W.requests old mid is.ran)) goes);
}

-- work that stopped
pub does_unworked : {T : Type 0} (roots : Roots) (work : Tree → Tree → Work T) (next : T → Action) (old new : State) (before after : Report) (stop : Stop)
    → ((tree : Tree) → old.tree ≡ Some tree → IsFormed tree) → Works roots work old new before after (stopped {T = T} stop)
    → DoesAcrossCrashes roots (works work next) {T = Unit {0}} old new before after (Err stop)
does_unworked {T} roots work next old new before after stop formed w = record {
  does = record {
    answers = λ tree told rooted. by_stop stop w tree told rooted;
    lasts = w.lasts;
    cause = record { later = w.cause.later; rose = λ failed. w.cause.rose (back failed); steady = w.cause.steady; never = λ told is failed. w.cause.never told is (back failed) };
  };
  survives = λ tree told rooted rests. record {
    each_moment = aside_adds roots old new tree told (formed tree told) rests w.aside (works work next (public_tree roots tree) (foreign_tree roots tree)).after;
    end = end stop w tree told rooted (aside_rests roots old new tree told (formed tree told) rests w.aside);
  };
  behind = λ tree told rooted.
      let now = w.aside.tree tree told in
      let store = public_tree roots tree in
      let foreign = foreign_tree roots tree in
      behind_worked roots (work store foreign) (λ value. next value store foreign) tree now.0 old new now.1 (aside_foreign roots tree now.0 now.2) (w.ran tree told rooted);
}
  where
    back : IsErrOf (stopped {T = Unit {0}} stop) Fault → IsErrOf (stopped {T = T} stop) Fault
    back failed = let is : stop ≡ Fault = cc in ap (λ s. stopped {T = T} s) is

    by_stop : (stop : Stop) → Works roots work old new before after (stopped {T = T} stop) → (tree : Tree) → old.tree ≡ Some tree → old.roots ≡ roots
        → Answers {T = Unit {0}} roots (public_tree roots tree) (works work next (public_tree roots tree) (foreign_tree roots tree)) (Err stop) old new before after
    by_stop (Refused why) w tree told rooted =
        let now = w.aside.tree tree told in
        let store = public_tree roots tree in
        let foreign = foreign_tree roots tree in
        let W = work store foreign in
        let is : IsWorked W (Err why) old new before after = w.answers tree told rooted in
        subst (λ r. CameAbout roots store (by_result r W.requests W.err (λ v. next v store foreign) foreign) (Some why) old new before after) (sym is.result)
        (came_worked roots W (Err why) (Some why) tree now.0 old new before after now.1 (aside_public roots tree now.0 now.2) (aside_foreign roots tree now.0 now.2) is)
    by_stop Fault w tree told rooted = tt
    by_stop NoMemory w tree told rooted = tt

    end : (stop : Stop) → Works roots work old new before after (stopped {T = T} stop) → (tree : Tree) → old.tree ≡ Some tree → old.roots ≡ roots → Rests roots (public_tree roots tree) new
        → LeavesStanding {T = Unit {0}} roots (public_tree roots tree) (works work next (public_tree roots tree) (foreign_tree roots tree)).after (Err stop) new
    end (Refused why) w tree told rooted rests =
        let store = public_tree roots tree in
        let foreign = foreign_tree roots tree in
        let W = work store foreign in
        let is : IsWorked W (Err why) old new before after = w.answers tree told rooted in
        subst (λ r. Rests roots (last_of store (by_result r W.requests W.err (λ v. next v store foreign) foreign).after) new) (sym is.result) rests
    end Fault w tree told rooted rests = (public_tree roots tree, inl refl, rests.stands)
    end NoMemory w tree told rooted rests = (public_tree roots tree, inl refl, rests.stands)
