-- An action for each item: what leads on.
use Rattle.std.proofs.Common.{◌≡◌, ℕ, ◌+◌, ◌<◌, List, [], ◌∷◌, ◌++◌, length, drop, get_or, suc, zero, Option, Some, None, refl, sym, ap, ◌∙◌, subst, inl, inr, arith}
use Rattle.std.proofs.lemmas.List.{append-nil}
use Rattle.std.specs.Prelude.{Result, Ok, Err}
use Rattle.kb_world.specs.Tree.{Tree}
use Rattle.kb_world.specs.Public.{public_tree, foreign_tree}
use Rattle.kb_world.specs.State.{State}
use Rattle.kb_machine.specs.Outcome.{Outcome, Action, last_of, print, go_on, ◌then◌}
use Rattle.kb_machine.specs.Does.{CameAbout, Answers}
use Rattle.kb_world.specs.declared.job.Report.{Report}
use Rattle.kb_world.specs.declared.roots.Roots.{Roots}
use Rattle.kb_world.specs.declared.refusal.Refusal.{Refusal}
use Rattle.kb_world.specs.declared.stop.Stop.{Stop}
use Rattle.kb_world.specs.declared.stop.Stop.TheVariants.{Refused, Fault, NoMemory}
use Rattle.kb_world.proofs.CrashLaws.{adds_wider, adds_none}
use Rattle.kb_world.proofs.CallLaws.{no_cause}
use Rattle.kb_machine.specs.Stands.{Rests, IsOneOf, OpensOneOf}
use Rattle.kb_machine.specs.Across.{Survives, LeavesStanding, DoesAcrossCrashes}
use Rattle.kb_machine.proofs.ThenLaws.{does_then}
use Rattle.kb_machine.specs.Each.{each, Leads}
use Rattle.kb_machine.proofs.BehindLaws.{behind_none, behind_cut}

-- ---- texts alone

pub printed : (roots : Roots) (text : List ℕ) (state : State) (before after : Report) → after.out ≡ before.out ++ text → after.err ≡ before.err → DoesAcrossCrashes roots (print text) {T = Unit {0}} state state before after (Ok tt)
printed roots text state before after out err = record {
  does = record {
    answers = λ tree told rooted. record { end = refl; tree = (tree, told, record { public_part = refl; foreign_part = refl }); ran = sym (append-nil state.ran); out = out; err = err ∙ sym (append-nil before.err) };
    lasts = record { roots = refl; script = refl; told = refl };
    cause = no_cause state tt;
  };
  survives = λ tree told rooted rests. record { each_moment = adds_none _ state.history state.history refl; end = rests };
  behind = λ tree told rooted. behind_none roots (print text (public_tree roots tree) (foreign_tree roots tree)) tree state state told refl;
}

-- memory ran out for a text
pub unprinted : (roots : Roots) (action : Action) (state : State) (before after : Report) → DoesAcrossCrashes roots action {T = Unit {0}} state state before after (Err NoMemory)
unprinted roots action state before after = record {
  does = record {
    answers = λ tree told rooted. tt;
    lasts = record { roots = refl; script = refl; told = refl };
    cause = record { later = omega arith; rose = λ failed. absurd (other failed); steady = λ is. is; never = λ told is failed. other failed };
  };
  survives = λ tree told rooted rests. record { each_moment = adds_none _ state.history state.history refl; end = (public_tree roots tree, inl refl, rests.stands) };
  behind = λ tree told rooted. behind_none roots (action (public_tree roots tree) (foreign_tree roots tree)) tree state state told refl;
}
  where
    gave : Stop → Result (Unit {0}) Stop
    gave stop = Err stop

    other : gave NoMemory ≡ gave Fault → ⊥
    other e = cc

-- ---- a part that stopped stops the whole

one_more : (store : Tree) (some more : List Tree) → IsOneOf store some → IsOneOf store (some ++ more)
one_more store [] more one = absurd one
one_more store (x ∷ some) more (inl here) = inl here
one_more store (x ∷ some) more (inr later) = inr (one_more store some more later)

-- the stores of the first part are among the whole's
among : (store other : Tree) (outcome : Outcome) (second : Action) → IsOneOf other (store ∷ outcome.after) → IsOneOf other (store ∷ (go_on store outcome second).after)
among store other outcome second one = by outcome.end
  where
    with : Option Refusal → Outcome
    with end = record { after = outcome.after; requests = outcome.requests; out = outcome.out; err = outcome.err; end = end; foreign = outcome.foreign }

    by : (end : Option Refusal) → IsOneOf other (store ∷ (go_on store (with end) second).after)
    by None = one_more other (store ∷ outcome.after) (second (last_of store outcome.after) outcome.foreign).after one
    by (Some why) = one

refused_whole : (store : Tree) (outcome : Outcome) (second : Action) (why : Refusal) → outcome.end ≡ Some why → go_on store outcome second ≡ outcome
refused_whole store outcome second why is = by outcome.end is
  where
    with : Option Refusal → Outcome
    with end = record { after = outcome.after; requests = outcome.requests; out = outcome.out; err = outcome.err; end = end; foreign = outcome.foreign }

    by : (end : Option Refusal) → end ≡ Some why → go_on store (with end) second ≡ with end
    by None e = absurd (cc)
    by (Some w) e = refl

pub does_cut : (roots : Roots) (first second : Action) (old new : State) (before after : Report) (stop : Stop) → DoesAcrossCrashes roots first {T = Unit {0}} old new before after (Err stop)
    → DoesAcrossCrashes roots (first then second) {T = Unit {0}} old new before after (Err stop)
does_cut roots first second old new before after stop d = record {
  does = record {
    answers = λ tree told rooted. by_answer stop (public_tree roots tree) (first (public_tree roots tree) (foreign_tree roots tree)) (d.does.answers tree told rooted);
    lasts = d.does.lasts;
    cause = d.does.cause;
  };
  survives = λ tree told rooted rests.
      let store = public_tree roots tree in
      let outcome = first store (foreign_tree roots tree) in
      let s : Survives {T = Unit {0}} roots store outcome old new (Err stop) = d.survives tree told rooted rests in
      record {
        each_moment = adds_wider (OpensOneOf roots old.script (store ∷ outcome.after)) (OpensOneOf roots old.script (store ∷ (go_on store outcome second).after)) old.history new.history
            (λ image o. (o.0, among store o.0 outcome second o.1, o.2)) s.each_moment;
        end = by_end stop store outcome (d.does.answers tree told rooted) s.end;
      };
  behind = λ tree told rooted.
      let store = public_tree roots tree in
      behind_cut roots store (first store (foreign_tree roots tree)) second tree old new (d.behind tree told rooted);
}
  where
    by_answer : (stop : Stop) (store : Tree) (outcome : Outcome) → Answers {T = Unit {0}} roots store outcome (Err stop) old new before after → Answers {T = Unit {0}} roots store (go_on store outcome second) (Err stop) old new before after
    by_answer (Refused why) store outcome a = subst (λ (o : Outcome). CameAbout roots store o (Some why) old new before after) (sym (refused_whole store outcome second why a.end)) a
    by_answer Fault store outcome a = tt
    by_answer NoMemory store outcome a = tt

    by_end : (stop : Stop) (store : Tree) (outcome : Outcome) → Answers {T = Unit {0}} roots store outcome (Err stop) old new before after
        → LeavesStanding {T = Unit {0}} roots store outcome.after (Err stop) new → LeavesStanding {T = Unit {0}} roots store (go_on store outcome second).after (Err stop) new
    by_end (Refused why) store outcome a rests = subst (λ (o : Outcome). Rests roots (last_of store o.after) new) (sym (refused_whole store outcome second why a.end)) rests
    by_end Fault store outcome a s = (s.0, among store s.0 outcome second s.1, s.2)
    by_end NoMemory store outcome a s = (s.0, among store s.0 outcome second s.1, s.2)

-- ---- the loop

pub leads_none : (roots : Roots) (whole : Action) (state : State) (report : Report) → Leads roots whole whole state state report report
leads_none roots whole state report = record { on = λ new after result d. d }

dropped_suc : {T : Type 0} (items : List T) (count : ℕ) (item : T) → count < length items → item ≡ get_or items count item → drop count items ≡ item ∷ drop (suc count) items
dropped_suc [] count item below is = absurd (omega (arith, below))
dropped_suc (x ∷ items) zero item below is = ap (λ y. y ∷ items) (sym is)
dropped_suc (x ∷ items) (suc count) item below is = dropped_suc items count item (omega (arith, below)) is

dropped_one : {T : Type 0} (items : List T) (count : ℕ) (item : T) → count < length items → item ≡ get_or items count item → drop count items ≡ item ∷ drop (count + 1) items
dropped_one items count item below is =
    let next : suc count ≡ count + 1 = omega arith in
    dropped_suc items count item below is ∙ ap (λ n. item ∷ drop n items) next

pub leads_more : {T : Type 0} (roots : Roots) (action : T → Action) (items : List T) (count : ℕ) (item : T) (old now next : State) (before between after : Report) → count < length items → item ≡ get_or items count item
    → Leads roots (each action items) (each action (drop count items)) old now before between → DoesAcrossCrashes roots (action item) {T = Unit {0}} now next between after (Ok tt)
    → Leads roots (each action items) (each action (drop (count + 1) items)) old next before after
leads_more roots action items count item old now next before between after below is l d = record {
  on = λ new last result rest.
      l.on new last result (subst (λ some. DoesAcrossCrashes roots (each action some) {T = Unit {0}} now new between last result) (sym (dropped_one items count item below is))
      (does_then roots (action item) (each action (drop (count + 1) items)) now next new between after last result d rest));
}

pub leads_cut : {T : Type 0} (roots : Roots) (action : T → Action) (items : List T) (count : ℕ) (item : T) (old now next : State) (before between after : Report) (stop : Stop) → count < length items → item ≡ get_or items count item
    → Leads roots (each action items) (each action (drop count items)) old now before between → DoesAcrossCrashes roots (action item) {T = Unit {0}} now next between after (Err stop)
    → DoesAcrossCrashes roots (each action items) {T = Unit {0}} old next before after (Err stop)
leads_cut roots action items count item old now next before between after stop below is l d =
    l.on next after (Err stop) (subst (λ some. DoesAcrossCrashes roots (each action some) {T = Unit {0}} now next between after (Err stop)) (sym (dropped_one items count item below is))
    (does_cut roots (action item) (each action (drop (count + 1) items)) now next between after stop d))

pub leads_all : {T : Type 0} (roots : Roots) (action : T → Action) (items : List T) (count : ℕ) (old now : State) (before between : Report) → drop count items ≡ []
    → Leads roots (each action items) (each action (drop count items)) old now before between → DoesAcrossCrashes roots (each action items) {T = Unit {0}} old now before between (Ok tt)
leads_all roots action items count old now before between none l =
    l.on now between (Ok tt) (subst (λ some. DoesAcrossCrashes roots (each action some) {T = Unit {0}} now now between between (Ok tt)) (sym none) (printed roots [] now between between (sym (append-nil between.out)) refl))
