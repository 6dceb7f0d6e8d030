-- How actions go on from one another, and calls that do them.
use Rattle.std.proofs.Common.{◌≡◌, ◌⊎◌, inl, inr, true, false, is_some, List, [], ◌∷◌, ◌++◌, Option, Some, None, refl, sym, ap, ◌∙◌, subst, append_assoc}
use Rattle.std.proofs.lemmas.List.{append-nil}
use Rattle.std.specs.Prelude.{ℕ, ◌≤◌, map, IsErrOf, IsTrue, Result, Ok, Err}
use Rattle.std.specs.Option.{ForSome}
use Rattle.kb_world.specs.Path.{Path}
use Rattle.kb_world.specs.Tree.{Tree}
use Rattle.kb_world.specs.TreeLaws.{same_tree}
use Rattle.kb_world.specs.Area.{IsLeft}
use Rattle.kb_world.specs.Crash.{LeftOf, Adds}
use Rattle.kb_world.specs.View.{is_own, view_of}
use Rattle.kb_world.specs.State.{State, HasCause, Lasts, IsReplied, Runs}
use Rattle.kb_world.specs.Public.{public_tree, foreign_tree}
use Rattle.kb_machine.specs.Outcome.{Outcome, Action, last_of, refuse_if, joined, go_on, warn, by_answer, reads, ran_child, asks, ◌then◌}
use Rattle.kb_world.specs.Read.{Gives}
use Rattle.kb_machine.specs.Does.{CameAbout, Does, Asks, IsAsked, Answers}
use Rattle.kb_world.specs.Layout.{united, whole_tree}
use Rattle.kb_world.specs.Script.{Script, answer, answer_in, after_edits, edit_of, tree_after}
use Rattle.kb_world.specs.Stop.{stop_for}
use Rattle.kb_world.specs.declared.child.Area.TheVariants as areas
use Rattle.kb_world.specs.declared.tree.Edit.{Edit}
use Rattle.kb_world.specs.declared.world.WorldError.{WorldError}
use Rattle.kb_world.specs.declared.world.WorldError.TheVariants.{Failed}
use Rattle.kb_world.specs.declared.world.WorldError.TheVariants as world
use Rattle.kb_world.specs.declared.child.Request.{Request}
use Rattle.kb_world.specs.declared.child.Reply.{Reply}
use Rattle.kb_world.specs.declared.roots.Roots.{Roots}
use Rattle.kb_world.specs.declared.job.Report.{Report}
use Rattle.kb_world.specs.declared.refusal.Refusal.{Refusal}
use Rattle.kb_world.specs.declared.stop.Stop.{Stop}
use Rattle.kb_world.specs.declared.stop.Stop.TheVariants.{Refused, Fault, NoMemory}
use Rattle.kb_world.proofs.CallLaws.{cause_then, lasts_then, no_cause}
use Rattle.kb_machine.proofs.BehindLaws.{front_none, front_all}
use Rattle.kb_machine.proofs.DoesLaws.{answers_since}
use Rattle.kb_world.proofs.LayoutLaws.{view-whole}

-- ---- one outcome after another

pub last_of-append : (store : Tree) (first second : List Tree) → last_of store (first ++ second) ≡ last_of (last_of store first) second
last_of-append store [] second = refl
last_of-append store (next ∷ first) second = last_of-append next first second

-- an outcome that wasn't refused is gone on from
pub goes_on : (store : Tree) (outcome : Outcome) (second : Action) → outcome.end ≡ None → go_on store outcome second ≡ joined outcome (second (last_of store outcome.after) outcome.foreign)
goes_on store outcome second is = by outcome.end is
  where
    with : Option Refusal → Outcome
    with end = record { after = outcome.after; requests = outcome.requests; out = outcome.out; err = outcome.err; end = end; foreign = outcome.foreign }

    by : (end : Option Refusal) → end ≡ None → go_on store (with end) second ≡ joined (with end) (second (last_of store outcome.after) outcome.foreign)
    by None e = refl
    by (Some refusal) e = absurd (cc)

-- where the second part came about after the first, both did
came_then : (roots : Roots) (store : Tree) (first second : Outcome) (due : Option Refusal) (old mid new : State) (before between after : Report)
    → CameAbout roots store first None old mid before between → CameAbout roots (last_of store first.after) second due mid new between after
    → CameAbout roots store (joined first second) due old new before after
came_then roots store first second due old mid new before between after a b = record {
  end = b.end;
  tree = (b.tree.0, b.tree.1, record { public_part = b.tree.2.public_part ∙ sym (last_of-append store first.after second.after); foreign_part = b.tree.2.foreign_part });
  ran = b.ran ∙ ap (λ so_far. so_far ++ second.requests) a.ran ∙ append_assoc old.ran first.requests second.requests;
  out = b.out ∙ ap (λ so_far. so_far ++ second.out) a.out ∙ append_assoc before.out first.out second.out;
  err = b.err ∙ ap (λ so_far. so_far ++ second.err) a.err ∙ append_assoc before.err first.err second.err;
}

answers_then : (roots : Roots) (store : Tree) (first second : Outcome) (result : Result (Unit {0}) Stop) (old mid new : State) (before between after : Report)
    → CameAbout roots store first None old mid before between → Answers roots (last_of store first.after) second result mid new between after
    → Answers roots store (joined first second) result old new before after
answers_then roots store first second (Ok u) old mid new before between after a b = came_then roots store first second None old mid new before between after a b
answers_then roots store first second (Err (Refused refusal)) old mid new before between after a b = came_then roots store first second (Some refusal) old mid new before between after a b
answers_then roots store first second (Err Fault) old mid new before between after a b = tt
answers_then roots store first second (Err NoMemory) old mid new before between after a b = tt

-- ---- one action after another

pub does_then : (roots : Roots) (first second : Action) (old mid new : State) (before between after : Report) (result : Result (Unit {0}) Stop)
    → Does roots first {T = Unit {0}} old mid before between (Ok tt) → Does roots second mid new between after result
    → Does roots (first then second) old new before after result
does_then roots first second old mid new before between after result a b = record {
  answers = λ tree told rooted.
      let store = public_tree roots tree in
      let outcome = first store (foreign_tree roots tree) in
      let came : CameAbout roots store outcome None old mid before between = a.answers tree told rooted in
      let follows = second (last_of store outcome.after) outcome.foreign in
      let P : Tree → Tree → Type 0 = λ s f. Answers roots s (second s f) result mid new between after in
      let goes : P (last_of store outcome.after) outcome.foreign =
      subst (λ (f : Tree). P (last_of store outcome.after) f) came.tree.2.foreign_part
      (subst (λ (s : Tree). P s (foreign_tree roots came.tree.0)) came.tree.2.public_part (b.answers came.tree.0 came.tree.1 (a.lasts.roots ∙ rooted))) in
      let Q : Outcome → Type 0 = λ whole. Answers roots store whole result old new before after in
      subst Q (sym (goes_on store outcome second came.end)) (answers_then roots store outcome follows result old mid new before between after came goes);
  lasts = lasts_then old mid new a.lasts b.lasts;
  cause = cause_then Fault old mid new (Ok tt) result a.lasts.told a.cause b.cause;
}

-- ---- what is read decides

-- this answer
abbrev stopped : Stop → Result (Unit {0}) Stop
stopped stop = Err stop

not_a_fault : (refusal : Refusal) → IsErrOf (stopped (Refused refusal)) Fault → ⊥
not_a_fault refusal failed = let impossible : stopped (Refused refusal) ≡ stopped Fault = failed in cc

no_memory_no_fault : IsErrOf (stopped NoMemory) Fault → ⊥
no_memory_no_fault failed = let impossible : stopped NoMemory ≡ stopped Fault = failed in cc

-- a refusal, and all as it was
pub stays_refused : (roots : Roots) (tree : Tree) (old mid : State) (refusal : Refusal) (report : Report) → mid.tree ≡ Some tree → mid.ran ≡ old.ran
    → CameAbout roots (public_tree roots tree) (refuse_if (Some refusal) (public_tree roots tree) (foreign_tree roots tree)) (Some refusal) old mid report report
stays_refused roots tree old mid refusal report told ran = record {
  end = refl;
  tree = (tree, told, record { public_part = refl; foreign_part = refl });
  ran = ran ∙ sym (append-nil old.ran);
  out = sym (append-nil report.out);
  err = sym (append-nil report.err);
}

-- the call that read was refused, or stopped
pub does_unread : {A : Type 0} (roots : Roots) (read right : Tree → Result A Refusal) (next : A → Action) (old mid : State) (report : Report) (stop : Stop)
    → ((tree : Tree) → read tree ≡ right (whole_tree roots tree)) → Gives {T = A} read old mid (Err stop)
    → Does roots (reads right next) {T = Unit {0}} old mid report report (Err stop)
does_unread {A = A} roots read right next old mid report (Refused refusal) same g = record {
  answers = λ tree told rooted.
      let store = public_tree roots tree in
      let P : Result A Refusal → Type 0 = λ r. CameAbout roots store (by_answer next r store (foreign_tree roots tree)) (Some refusal) old mid report report in
      subst P (sym (sym (same tree) ∙ g.answers tree told)) (stays_refused roots tree old mid refusal report (g.unchanged.tree ∙ told) g.unchanged.ran_none.ran);
  lasts = g.unchanged.ran_none.lasts;
  cause = record { later = g.cause.later; rose = λ failed. absurd (not_a_fault refusal failed); steady = g.cause.steady; never = λ told is failed. not_a_fault refusal failed };
}
does_unread roots read right next old mid report Fault same g = record { answers = λ tree told rooted. tt; lasts = g.unchanged.ran_none.lasts; cause = record { later = g.cause.later; rose = λ failed. g.cause.rose refl; steady = g.cause.steady; never = λ told is failed. g.cause.never told is refl } }
does_unread roots read right next old mid report NoMemory same g = record { answers = λ tree told rooted. tt; lasts = g.unchanged.ran_none.lasts; cause = record { later = g.cause.later; rose = λ failed. absurd (no_memory_no_fault failed); steady = g.cause.steady; never = λ told is failed. no_memory_no_fault failed } }

-- it read a value, and it goes on with that
pub does_read : {A : Type 0} (roots : Roots) (read right : Tree → Result A Refusal) (next : A → Action) (value : A) (old mid new : State) (before after : Report) (result : Result (Unit {0}) Stop)
    → ((tree : Tree) → read tree ≡ right (whole_tree roots tree)) → Gives {T = A} read old mid (Ok value) → Does roots (next value) mid new before after result
    → Does roots (reads right next) old new before after result
does_read {A = A} roots read right next value old mid new before after result same g b = record {
  answers = λ tree told rooted.
      let store = public_tree roots tree in
      let foreign = foreign_tree roots tree in
      let P : Result A Refusal → Type 0 = λ r. Answers roots store (by_answer next r store foreign) result old new before after in
      subst P (sym (sym (same tree) ∙ g.answers tree told))
      (answers_since roots store (next value store foreign) old mid new before after result g.unchanged.ran_none.ran (b.answers tree (g.unchanged.tree ∙ told) (g.unchanged.ran_none.lasts.roots ∙ rooted)));
  lasts = lasts_then old mid new g.unchanged.ran_none.lasts b.lasts;
  cause = cause_then Fault old mid new (Ok value) result g.unchanged.ran_none.lasts.told g.cause b.cause;
}

-- it goes on with the whole that stands
pub does_whole : (roots : Roots) (next : Tree → Action) (old new : State) (before after : Report) (result : Result (Unit {0}) Stop)
    → Lasts old new → HasCause Fault old new result → ForSome old.tree (λ tree. Does roots (next (whole_tree roots tree)) old new before after result)
    → Does roots (reads Ok next) old new before after result
does_whole roots next old new before after result lasts cause does = record { answers = λ tree told. (does tree told).answers tree told; lasts = lasts; cause = cause }

-- ---- a text for standard error

pub does_warn : (roots : Roots) (text : List ℕ) (old : State) (before after : Report) → after.out ≡ before.out → after.err ≡ before.err ++ text
    → Does roots (warn text) {T = Unit {0}} old old before after (Ok tt)
does_warn roots text old before after out err = record {
  answers = λ tree told rooted. record {
    end = refl;
    tree = (tree, told, record { public_part = refl; foreign_part = refl });
    ran = sym (append-nil old.ran);
    out = out ∙ sym (append-nil before.out);
    err = err;
  };
  lasts = record { roots = refl; script = refl; told = refl };
  cause = no_cause old tt;
}

-- ---- a child that may change nothing

pub does_asks : (roots : Roots) (request : Request) (next : Reply → Action) (reply : Reply) (old mid new : State) (before after : Report) (result : Result (Unit {0}) Stop)
    → ((q : Path) → is_own request.area q ≡ false)
    → Asks request old mid (Ok reply) → Does roots (next reply) mid new before after result
    → Does roots (asks roots old.script request next) old new before after result
does_asks roots request next reply old mid new before after result none a b = record {
  answers = λ tree told rooted.
      let store = public_tree roots tree in
      let foreign = foreign_tree roots tree in
      let is : IsAsked request old mid reply tree = a.asked tree told in
      let first = ran_child request foreign in
      let came : CameAbout roots store first None old mid before before = record {
        end = refl;
        tree = (tree, is.same, record { public_part = refl; foreign_part = refl });
        ran = is.ran;
        out = sym (append-nil before.out);
        err = sym (append-nil before.err);
      } in
      let said : reply ≡ (answer_in roots old.script request (united store foreign)).reply =
      is.said ∙ ap (λ r. (answer_in r old.script request tree).reply) rooted
      ∙ ap (λ view. (answer old.script request view).reply) (sym (view-whole roots request tree none)) in
      let P : Reply → Type 0 = λ r. Answers roots store (joined first (next r store foreign)) result old new before after in
      subst P said (answers_then roots store first (next reply store foreign) result old mid new before before after came (b.answers tree is.same (a.lasts.roots ∙ rooted)));
  lasts = lasts_then old mid new a.lasts b.lasts;
  cause = cause_then Fault old mid new (Ok reply) result a.lasts.told a.cause b.cause;
}

-- ---- want of memory tells nothing

pub does_nothing_told : (roots : Roots) (action : Action) (old new : State) (before after : Report) → Lasts old new → old.faults ≤ new.faults → (IsTrue old.steady → IsTrue new.steady)
    → Does roots action {T = Unit {0}} old new before after (Err NoMemory)
does_nothing_told roots action old new before after lasts later steady = record {
  answers = λ tree told rooted. tt;
  lasts = lasts;
  cause = record { later = later; rose = λ failed. absurd (no_memory_no_fault failed); steady = steady; never = λ told is failed. no_memory_no_fault failed };
}

no_edit : (tree : Tree) (edits : List (Option Edit)) → after_edits areas.Nothing tree edits ≡ tree
no_edit tree [] = refl
no_edit tree (None ∷ edits) = no_edit tree edits
no_edit tree (Some edit ∷ edits) = no_edit tree edits

-- a child that may change nothing changes nothing
pub nothing_after : (roots : Roots) (script : Script) (request : Request) (tree : Tree) → request.area ≡ areas.Nothing → tree_after roots script request tree ≡ tree
unfolding tree_after
nothing_after roots script request tree none =
    let view = view_of roots request tree in
    let edits = map (edit_of view) (answer_in roots script request tree).effects in
    ap (λ area. after_edits area tree edits) none ∙ no_edit tree edits

-- what stands there is as it was
nothing_left : (tree image : Tree) → IsLeft (areas.Nothing ∷ []) tree image → image ≡ tree
nothing_left tree image left = same_tree image tree (λ q. elim (left.each q) [ inl same ↦ same | inr soft ↦ let impossible : false ≡ true = soft in cc ])

untold_stays : (old new : State) → old.tree ≡ None → is_some new.tree ≡ is_some old.tree → new.tree ≡ old.tree
untold_stays old new none told = by new.tree (told ∙ ap is_some none) ∙ sym none
  where
    by : (o : Option Tree) → is_some o ≡ false → o ≡ None
    by None e = refl
    by (Some tree) e = let impossible : true ≡ false = e in cc

told_or_not : (old new : State) → ((tree : Tree) → old.tree ≡ Some tree → new.tree ≡ old.tree) → is_some new.tree ≡ is_some old.tree → new.tree ≡ old.tree
told_or_not old new told lasts = by old.tree refl
  where
    by : (o : Option Tree) → old.tree ≡ o → new.tree ≡ old.tree
    by None e = untold_stays old new e lasts
    by (Some tree) e = told tree e

-- the part of it that holds whatever it answers
module _ (request : Request) (old new : State) (none : request.area ≡ areas.Nothing) where
  asked_tree : (result : Result Reply WorldError) → Runs request old new result → new.tree ≡ old.tree
  asked_tree (Ok reply) r = told_or_not old new (λ tree told. (r.ends tree told).done ∙ ap Some (nothing_after old.roots old.script request tree none) ∙ sym told) r.lasts.told
  asked_tree (Err Failed) r = told_or_not old new (λ tree told. let cut = (r.ends tree told).0 in cut.1 ∙ ap Some (nothing_left tree cut.0 (subst (λ area. IsLeft (area ∷ []) tree cut.0) none cut.2)) ∙ sym told) r.lasts.told
  asked_tree (Err world.NoMemory) r = told_or_not old new (λ tree told. let cut = (r.ends tree told).0 in cut.1 ∙ ap Some (nothing_left tree cut.0 (subst (λ area. IsLeft (area ∷ []) tree cut.0) none cut.2)) ∙ sym told) r.lasts.told

  asked_soft : (result : Result Reply WorldError) → Runs request old new result → (new.history.soft ≡ old.history.soft) ⊎ (new.history.soft ≡ areas.Nothing ∷ old.history.soft)
  asked_soft result r = elim r.begun [ inl same ↦ inl same.soft | inr given ↦ inr (given ∙ ap (λ area. area ∷ old.history.soft) none) ]

  asked_moments : (result : Result Reply WorldError) → Runs request old new result → Adds (LeftOf (areas.Nothing ∷ old.history.soft) old.tree) old.history new.history
  asked_moments result r = subst (λ area. Adds (LeftOf (area ∷ old.history.soft) old.tree) old.history new.history) none r.moments

pub asks_of_run : (request : Request) (old new : State) (reply : Reply) → request.area ≡ areas.Nothing → Runs request old new (Ok reply) → Asks request old new (Ok reply)
asks_of_run request old new reply none r = record {
  asked = λ tree told. let is : IsReplied request old new reply tree = r.ends tree told in record {
    said = is.said;
    same = is.done ∙ ap Some (nothing_after old.roots old.script request tree none);
    ran = is.ran;
  };
  tree = asked_tree request old new none (Ok reply) r;
  ran = λ tree told. let is : IsReplied request old new reply tree = r.ends tree told in front_all (request ∷ []) old new is.ran;
  soft = asked_soft request old new none (Ok reply) r;
  moments = asked_moments request old new none (Ok reply) r;
  unrefused = λ refusal is. let impossible : Ok reply ≡ Err (Refused refusal) = is in cc;
  lasts = r.lasts;
  cause = record {
    later = r.cause.later;
    rose = λ failed. let impossible : Ok reply ≡ Err Fault = failed in cc;
    steady = r.cause.steady;
    never = λ told is failed. let impossible : Ok reply ≡ Err Fault = failed in cc;
  };
}

pub asks_of_stop : (request : Request) (old new : State) (error : WorldError) → request.area ≡ areas.Nothing → Runs request old new (Err error) → Asks request old new (Err (stop_for error))
asks_of_stop request old new Failed none r = record {
  asked = tt;
  tree = asked_tree request old new none (Err Failed) r;
  ran = λ tree told. front_all (request ∷ []) old new (r.ends tree told).1;
  soft = asked_soft request old new none (Err Failed) r;
  moments = asked_moments request old new none (Err Failed) r;
  unrefused = λ refusal is. let impossible : unanswered Fault ≡ unanswered (Refused refusal) = is in cc;
  lasts = r.lasts;
  cause = record { later = r.cause.later; rose = λ failed. r.cause.rose refl; steady = r.cause.steady; never = λ told is failed. r.cause.never told is refl };
}
  where
    unanswered : Stop → Result Reply Stop
    unanswered stop = Err stop
asks_of_stop request old new world.NoMemory none r = record {
  asked = tt;
  tree = asked_tree request old new none (Err world.NoMemory) r;
  ran = λ tree told. elim (r.ends tree told).1 [ inl same ↦ front_none (request ∷ []) old new same | inr ran ↦ front_all (request ∷ []) old new ran ];
  soft = asked_soft request old new none (Err world.NoMemory) r;
  moments = asked_moments request old new none (Err world.NoMemory) r;
  unrefused = λ refusal is. let impossible : unanswered NoMemory ≡ unanswered (Refused refusal) = is in cc;
  lasts = r.lasts;
  cause = record {
    later = r.cause.later;
    rose = λ failed. let impossible : unanswered NoMemory ≡ unanswered Fault = failed in cc;
    steady = r.cause.steady;
    never = λ told is failed. let impossible : unanswered NoMemory ≡ unanswered Fault = failed in cc;
  };
}
  where
    unanswered : Stop → Result Reply Stop
    unanswered stop = Err stop
