-- What calls of a world in memory do, told by what they make of its disk and of what is planned for its calls.
use Rattle.std.proofs.Common.{◌≡◌, ◌⊎◌, inl, inr, ◌+◌, ◌-◌, ◌^◌, ◌≤◌, ℕ, Bool, true, false, cond, not, ◌&&◌, nat_eq, IsTrue, IsErrOf, IsErrAnd, is_some, Option, Some, None, Result, Ok, Err, OnOk, OnErr, List, [], ◌∷◌, ◌++◌, refl, sym, ap, subst, ◌∙◌}
use Rattle.std.specs.Prelude.{filter, ◌%◌}
use Rattle.std.specs.Cmp.{first_so, second_so}
use Rattle.std.specs.Cmp.Derive.{both_true}
use Rattle.kb_world.specs.Area.{IsLeft, is_settled_by}
use Rattle.kb_world.specs.Crash.{Moment, History, LeftOf, TornOf, IsImageOfOne, moments_since, Adds, Turns}
use Rattle.kb_world.specs.Path.{Path}
use Rattle.kb_world.specs.State.{State, Rose, HasCause, Lasts, RanNone, Unchanged, Looks, Changes, Puts, HasTornFile, Settles, NoneForgotten, WasTried}
use Rattle.kb_world.specs.Tree.{Tree, with_node}
use Rattle.kb_world.specs.declared.child.Area.{Area}
use Rattle.kb_world.specs.declared.tree.Node.TheVariants.{File}
use Rattle.kb_world.specs.declared.world.WorldError.{WorldError}
use Rattle.kb_world.specs.declared.world.WorldError.TheVariants.{Failed, NoMemory}
use Rattle.kb_world.proofs.CrashLaws.{adds_none, turns_none, moments_since-added}
use Rattle.kb_world.proofs.LeftLaws.{left_less}
use Rattle.kb_disk.specs.Stored.{Stored, with_change, with_put, with_failed_put, with_settled}
use Rattle.kb_memory.specs.Calls.{Counted, plan_in, faults_in, is_steady, fate_at, fate_by, after_halt, fate_of, after_it, passes, is_done, end_of, left_by, halted, written_by}
use Rattle.kb_memory.specs.Plan.{Plan, is_due, is_over, after_call, risen}
use Rattle.kb_memory.specs.World.{FollowsPlan, tree_of, plan_of, uncut}
use Rattle.kb_memory.specs.declared.calls.Calls.{Calls}
use Rattle.kb_memory.specs.declared.calls.Fate.{Fate}
use Rattle.kb_memory.specs.declared.calls.Fate.TheVariants.{Passes, Fails, Halts}
use Rattle.kb_memory.specs.declared.calls.Halt.{Halt}
use Rattle.kb_memory.specs.declared.world.MemoryWorld.{MemoryWorld}
use Rattle.kb_memory.proofs.PlanLaws.{over-after, over-due, rose}

-- a state with this disk and these calls
abbrev pub shown : State → Stored → Calls → State
shown state disk calls = record state { tree = Some disk.tree; history = disk.history; faults = faults_in calls; steady = is_steady (plan_in calls) }

pub on_ok : {T E : Type 0} (result : Result T E) (P : Type 0) → P → OnOk result P
on_ok (Ok value) P holds = holds
on_ok (Err error) P holds = tt

pub on_err : {T E : Type 0} (result : Result T E) (P : Type 0) → P → OnErr result P
on_err (Ok value) P holds = tt
on_err (Err error) P holds = holds

-- ---- how a call ends

-- It answers Ok only where it is to pass, and fails only where it isn't.
pub record Ends {T : Type 0} (fate : Fate) (result : Result T WorldError) : Type 0 where
  pub passed : OnOk result (IsTrue (passes fate))
  pub failed : IsErrOf result Failed → passes fate ≡ false

pub ends_so : (fate : Fate) (result : Result (Unit {0}) WorldError) → result ≡ end_of fate → Ends fate result
ends_so fate result is = subst (Ends fate) (sym is) (by_fate fate)
  where
    by_fate : (fate : Fate) → Ends fate (end_of fate)
    by_fate Passes = record { passed = refl; failed = λ e. absurd (cc) }
    by_fate Fails = record { passed = tt; failed = λ e. refl }
    by_fate (Halts choice) = record { passed = tt; failed = λ e. refl }

differ : Failed ≡ NoMemory → ⊥
differ e = cc

pub ends_early : {T : Type 0} (fate : Fate) (result : Result T WorldError) → IsErrAnd result (λ e. e ≡ NoMemory) → Ends fate result
ends_early fate (Ok value) want = absurd want
ends_early fate (Err Failed) want = absurd (differ want)
ends_early fate (Err NoMemory) want = record { passed = tt; failed = λ e. absurd (cc) }

pub tried_so : (fate : Fate) (result : Result (Unit {0}) WorldError) → result ≡ end_of fate → WasTried result
tried_so fate result is = subst WasTried (sym is) (by_fate fate)
  where
    by_fate : (fate : Fate) → WasTried (end_of fate)
    by_fate Passes = λ e. cc
    by_fate Fails = λ e. cc
    by_fate (Halts choice) = λ e. cc

-- ---- its cause

no : (b : Bool) → b ≡ true → b ≡ false → ⊥
no b t f = let q : true ≡ false = sym t ∙ f in cc

-- where nothing is to fail the next call passes
steady_passes : (due : Plan) (halt : Option Halt) → is_over due && not (is_some halt) ≡ true → passes (fate_of (record { due = due; halt = halt })) ≡ true
steady_passes due None steady = by_due (is_due due) refl
  where
    by_due : (b : Bool) → is_due due ≡ b → passes (cond b Fails Passes) ≡ true
    by_due true h = absurd (over-due due (first_so (is_over due) true steady) h)
    by_due false h = refl
steady_passes due (Some halt) steady = let q : false ≡ true = second_so (is_over due) false steady in cc

steady_stays : (due : Plan) (halt : Option Halt) → is_over due && not (is_some halt) ≡ true → is_over (after_call due) && not (is_some (after_halt halt)) ≡ true
steady_stays due None steady = both_true (over-after due (first_so (is_over due) true steady)) refl
steady_stays due (Some halt) steady = let q : false ≡ true = second_so (is_over due) false steady in cc

turn : (b : Bool) → b ≡ false → not b ≡ true
turn true h = let q : true ≡ false = h in cc
turn false h = refl

module _ (old new : State) (was now : Stored) (before after : Calls) (counted : Counted before after) where
  pub caused : {T : Type 0} (result : Result T WorldError) (fate : Fate) → fate ≡ fate_of (plan_in before) → Ends fate result → HasCause Failed (shown old was before) (shown new now after) result
  caused result fate is ends = record {
    later = counted.later;
    rose = λ e. rose (not (passes (fate_of (plan_in before)))) (faults_in before) (faults_in after) counted.faults (turn _ (ap passes (sym is) ∙ ends.failed e));
    steady = λ steady. ap is_steady counted.plan ∙ steady_stays (plan_in before).due (plan_in before).halt steady;
    never = λ told steady e. no (passes (fate_of (plan_in before))) (steady_passes (plan_in before).due (plan_in before).halt steady) (ap passes (sym is) ∙ ends.failed e);
  }

  pub ran_none : new.ran ≡ old.ran → new.roots ≡ old.roots → new.script ≡ old.script → RanNone (shown old was before) (shown new now after)
  ran_none ran roots script = record { ran = ran; lasts = record { roots = roots; script = script; told = refl } }

  -- ---- calls that leave the disk as it was

  pub looks : {T : Type 0} (result : Result T WorldError) (fate : Fate) → fate ≡ fate_of (plan_in before) → Ends fate result → now ≡ was
      → new.ran ≡ old.ran → new.roots ≡ old.roots → new.script ≡ old.script → Looks (shown old was before) (shown new now after) result
  looks result fate is ends same ran roots script = record {
    unchanged = record { tree = ap (λ (s : Stored). Some s.tree) same; history = ap (λ (s : Stored). s.history) same; ran_none = ran_none ran roots script };
    cause = caused result fate is ends;
  }

-- a crash could leave it before, and can still have left it
pub still : (old new : State) → new.tree ≡ old.tree → new.history.soft ≡ old.history.soft → NoneForgotten old new
still old new tree soft image left = inr (subst (λ t. LeftOf new.history.soft t image) (sym tree) (subst (λ s. LeftOf s old.tree image) (sym soft) left))

-- it was left at the moment that passed
pub counted_in : (old new : History) (moment : Moment) (image : Tree) → new.past ≡ old.past ++ moment ∷ [] → IsImageOfOne (moment ∷ []) image → IsImageOfOne (moments_since old new) image
counted_in old new moment image added left = subst (λ moments. IsImageOfOne moments image) (sym (moments_since-added old new (moment ∷ []) added)) left

-- ---- calls that change the tree

pub not_ok : {T E : Type 0} (result : Result T E) (P : Type 0) → OnOk result ⊥ → OnOk result P
not_ok (Ok value) P none = absurd none
not_ok (Err error) P none = tt

pub changes_none : (change : Tree → Tree) (old new : State) {T : Type 0} (result : Result T WorldError) → OnOk result ⊥ → Looks old new result → Changes change old new result
changes_none change old new result none looks = record {
  done = not_ok result _ none;
  failed = λ e. inl looks.unchanged.tree;
  no_memory = λ e. looks.unchanged.tree;
  soft = ap (λ (h : History). h.soft) looks.unchanged.history;
  moments = turns_none _ _ old.history new.history (ap (λ (h : History). h.past) looks.unchanged.history);
  none_forgotten = still old new looks.unchanged.tree (ap (λ (h : History). h.soft) looks.unchanged.history);
  ran_none = looks.unchanged.ran_none;
  cause = looks.cause;
}

module _ (change : Tree → Tree) (old new : State) (was now : Stored) (before after : Calls) (counted : Counted before after) (fate : Fate) (is : fate ≡ fate_of (plan_in before)) (ran : new.ran ≡ old.ran) (roots : new.roots ≡ old.roots)
    (script : new.script ≡ old.script) where
  pub changes_done : {T : Type 0} (result : Result T WorldError) → Ends fate result → WasTried result → now ≡ with_change change was → Changes change (shown old was before) (shown new now after) result
  changes_done result ends tried made = record {
    done = on_ok result _ tree;
    failed = λ e. inr tree;
    no_memory = λ e. absurd (tried e);
    soft = ap (λ (s : Stored). s.history.soft) made;
    moments = record {
      early = moment ∷ [];
      late = [];
      added = past;
      early_only = λ image left. elim left [ inl at ↦ elim at [ inl here ↦ here | inr torn ↦ absurd torn ] | inr none ↦ absurd none ];
      late_only = λ image left. absurd left;
    };
    none_forgotten = λ image left. inl (counted_in was.history now.history moment image past (inl (inl left)));
    ran_none = ran_none old new was now before after counted ran roots script;
    cause = caused old new was now before after counted result fate is ends;
  }
    where
      moment : Moment
      moment = record { tree = was.tree; soft = was.history.soft; putting = None }

      tree : Some now.tree ≡ Some (change was.tree)
      tree = ap (λ (s : Stored). Some s.tree) made

      past : now.history.past ≡ was.history.past ++ moment ∷ []
      past = ap (λ (s : Stored). s.history.past) made

  -- where memory ran out
  pub changes_early : {T : Type 0} (result : Result T WorldError) → IsErrAnd result (λ e. e ≡ NoMemory) → now ≡ was → Changes change (shown old was before) (shown new now after) result
  changes_early result want same = changes_none change (shown old was before) (shown new now after) result (unanswered result want)
      (looks old new was now before after counted result fate is (ends_early fate result want) same ran roots script)
    where
      unanswered : {T : Type 0} (result : Result T WorldError) → IsErrAnd result (λ e. e ≡ NoMemory) → OnOk result ⊥
      unanswered (Ok value) want = want
      unanswered (Err error) want = tt

  -- where it isn't to be done
  pub changes_not : (result : Result (Unit {0}) WorldError) → result ≡ end_of fate → is_done fate ≡ false → now ≡ was → Changes change (shown old was before) (shown new now after) result
  changes_not result end undone same = changes_none change (shown old was before) (shown new now after) result (subst (λ r. OnOk r ⊥) (sym end) (by_fate fate undone))
      (looks old new was now before after counted result fate is (ends_so fate result end) same ran roots script)
    where
      by_fate : (fate : Fate) → is_done fate ≡ false → OnOk (end_of fate) ⊥
      by_fate Passes undone = let q : true ≡ false = undone in absurd (cc)
      by_fate Fails undone = tt
      by_fate (Halts choice) undone = tt

  pub changes_so : (result : Result (Unit {0}) WorldError) → result ≡ end_of fate → now ≡ with_change change was → Changes change (shown old was before) (shown new now after) result
  changes_so result end made = changes_done result (ends_so fate result end) (tried_so fate result end) made

-- ---- the plan

module _ (cut : ℕ → Tree → Tree) (old new : MemoryWorld) {T : Type 0} (result : Result T WorldError) (fate : Fate) (is : fate ≡ fate_of (plan_of old)) (ends : Ends fate result) (counted : Counted old.calls new.calls) where
  pub follows : (IsErrOf result Failed → tree_of new ≡ left_by cut fate (tree_of old)) → (fate ≡ Fails → tree_of new ≡ tree_of old) → FollowsPlan cut old new result
  follows left kept = record {
    passed = subst (λ f. OnOk result (IsTrue (passes f))) is ends.passed;
    failed = λ e. ap passes (sym is) ∙ ends.failed e;
    left = λ e. left e ∙ ap (λ f. left_by cut f (tree_of old)) is;
    kept = λ fails. kept (is ∙ fails);
    counted = counted;
  }

-- what a change leaves that is done as a whole or not at all
pub left_done : (change : Tree → Tree) (fate : Fate) (tree now : Tree) → is_done fate ≡ true → passes fate ≡ false → now ≡ change tree → now ≡ left_by (halted change) fate tree
left_done change Passes tree now done fails is = let q : true ≡ false = fails in cc
left_done change Fails tree now done fails is = let q : false ≡ true = done in cc
left_done change (Halts choice) tree now done fails is = is ∙ by_test (nat_eq (choice % 2) 0) done
  where
    by_test : (b : Bool) → not b ≡ true → change tree ≡ cond b tree (change tree)
    by_test true h = let q : false ≡ true = h in cc
    by_test false h = refl

pub left_undone : (change : Tree → Tree) (fate : Fate) (tree now : Tree) → is_done fate ≡ false → now ≡ tree → now ≡ left_by (halted change) fate tree
left_undone change Passes tree now undone is = is
left_undone change Fails tree now undone is = is
left_undone change (Halts choice) tree now undone is = is ∙ by_test (nat_eq (choice % 2) 0) undone
  where
    by_test : (b : Bool) → not b ≡ false → tree ≡ cond b tree (change tree)
    by_test true h = refl
    by_test false h = let q : true ≡ false = h in cc

pub done_no_fail : (fate : Fate) → is_done fate ≡ true → fate ≡ Fails → ⊥
done_no_fail fate done fails = let q : false ≡ true = sym (ap is_done fails) ∙ done in cc

-- a call that changes nothing leaves the tree as it is
pub left_uncut : (fate : Fate) (tree now : Tree) → now ≡ tree → now ≡ left_by uncut fate tree
left_uncut Passes tree now is = is
left_uncut Fails tree now is = is
left_uncut (Halts choice) tree now is = is

-- want of memory is no failure
pub early_fails : {T : Type 0} (result : Result T WorldError) (P : Type 0) → IsErrAnd result (λ e. e ≡ NoMemory) → IsErrOf result Failed → P
early_fails (Ok value) P want failed = absurd want
early_fails (Err Failed) P want failed = absurd (differ want)
early_fails (Err NoMemory) P want failed = absurd (cc)

pub fails_so : (fate : Fate) (result : Result (Unit {0}) WorldError) → result ≡ end_of fate → IsErrOf result Failed → passes fate ≡ false
fails_so fate result is = (ends_so fate result is).failed
