-- What a put and a settling of a world in memory do, told by what they make of its disk.
use Rattle.std.proofs.Common.{◌≡◌, ◌⊎◌, inl, inr, ◌-◌, ℕ, Bool, true, false, cond, nat_eq, take, IsErrAnd, Option, Some, None, Result, Ok, Err, OnOk, OnErr, IsErrOf, List, [], ◌∷◌, ◌++◌, refl, sym, ap, subst, ◌∙◌}
use Rattle.kb_world.specs.Crash.{Moment, History, LeftOf, TornOf, Adds}
use Rattle.kb_world.specs.Path.{Path}
use Rattle.kb_world.specs.State.{State, Looks, Puts, Settles}
use Rattle.kb_world.specs.Tree.{Tree, with_node}
use Rattle.kb_world.specs.declared.child.Area.{Area}
use Rattle.kb_world.specs.declared.tree.Node.TheVariants.{File}
use Rattle.kb_world.specs.declared.world.WorldError.{WorldError}
use Rattle.kb_world.specs.declared.world.WorldError.TheVariants.{Failed, NoMemory}
use Rattle.kb_world.proofs.CrashLaws.{adds_none}
use Rattle.kb_disk.specs.Stored.{Stored, with_put, with_failed_put, with_settled}
use Rattle.kb_memory.specs.Calls.{Counted, plan_in, fate_of, passes, end_of, left_by, halted_put, written_by}
use Rattle.kb_memory.specs.declared.calls.Calls.{Calls}
use Rattle.kb_memory.specs.declared.calls.Fate.{Fate}
use Rattle.kb_memory.specs.declared.calls.Fate.TheVariants.{Passes, Fails, Halts}
use Rattle.kb_memory.proofs.CallLaws.{shown, on_ok, on_err, not_ok, still, counted_in, ends_so, ends_early, tried_so, caused, ran_none, looks}

unanswered : {T : Type 0} (result : Result T WorldError) → IsErrAnd result (λ e. e ≡ NoMemory) → OnOk result ⊥
unanswered (Ok value) want = want
unanswered (Err error) want = tt

untried : {T : Type 0} (result : Result T WorldError) (P : Type 0) → IsErrAnd result (λ e. e ≡ NoMemory) → (IsErrOf result NoMemory → ⊥) → P
untried (Ok value) P want tried = absurd want
untried (Err Failed) P want tried = absurd (let e : Failed ≡ NoMemory = want in cc)
untried (Err NoMemory) P want tried = absurd (tried refl)

-- ---- a put

module _ (path : Path) (bytes : List ℕ) (exec : Bool) (old new : State) (was now : Stored) (before after : Calls) (counted : Counted before after) (fate : Fate) (is : fate ≡ fate_of (plan_in before))
    (ran : new.ran ≡ old.ran) (roots : new.roots ≡ old.roots) (script : new.script ≡ old.script) where
  moment : Moment
  moment = record { tree = was.tree; soft = was.history.soft; putting = Some path }

  -- at the moment of a put the file may be torn
  adds : now.history.past ≡ was.history.past ++ moment ∷ [] → Adds (λ image. LeftOf was.history.soft (Some was.tree) image ⊎ TornOf path was.history.soft (Some was.tree) image) was.history now.history
  unfolding moment
  adds past = record { moments = moment ∷ []; added = past; only = λ image left. elim left [ inl at ↦ at | inr none ↦ absurd none ] }

  -- these bytes were written
  pub puts_written : (result : Result (Unit {0}) WorldError) (text : List ℕ) → result ≡ end_of fate → written_by fate bytes ≡ Some text → now ≡ with_put path text exec was
      → Puts path bytes exec (shown old was before) (shown new now after) result
  unfolding moment
  puts_written result text end writes made = record {
    done = subst (λ r. OnOk r (Some now.tree ≡ Some (with_node path (File bytes exec) was.tree))) (sym end) (by_fate fate writes);
    failed = λ e. inr (record { bytes = text; exec = exec; torn = ap (λ (s : Stored). Some s.tree) made });
    no_memory = λ e. absurd (tried_so fate result end e);
    soft = ap (λ (s : Stored). s.history.soft) made;
    moments = adds past;
    none_forgotten = λ image left. inl (counted_in was.history now.history moment image past (inl (inl left)));
    torn = λ tried image torn. counted_in was.history now.history moment image past (inl (inr torn));
    ran_none = ran_none old new was now before after counted ran roots script;
    cause = caused old new was now before after counted result fate is (ends_so fate result end);
  }
    where
      past : now.history.past ≡ was.history.past ++ moment ∷ []
      past = ap (λ (s : Stored). s.history.past) made

      same_text : (a b : List ℕ) → Some a ≡ Some b → a ≡ b
      same_text a b e = cc

      by_fate : (fate : Fate) → written_by fate bytes ≡ Some text → OnOk (end_of fate) (Some now.tree ≡ Some (with_node path (File bytes exec) was.tree))
      by_fate Passes writes = ap (λ (s : Stored). Some s.tree) made ∙ ap (λ b. Some (with_node path (File b exec) was.tree)) (sym (same_text bytes text writes))
      by_fate Fails writes = tt
      by_fate (Halts choice) writes = tt

  -- none were
  pub puts_unwritten : (result : Result (Unit {0}) WorldError) → result ≡ end_of fate → written_by fate bytes ≡ None → now ≡ with_failed_put path was
      → Puts path bytes exec (shown old was before) (shown new now after) result
  unfolding moment
  puts_unwritten result end writes made = record {
    done = subst (λ r. OnOk r (Some now.tree ≡ Some (with_node path (File bytes exec) was.tree))) (sym end) (by_fate fate writes);
    failed = λ e. inl (ap (λ (s : Stored). Some s.tree) made);
    no_memory = λ e. absurd (tried_so fate result end e);
    soft = ap (λ (s : Stored). s.history.soft) made;
    moments = adds past;
    none_forgotten = λ image left. inl (counted_in was.history now.history moment image past (inl (inl left)));
    torn = λ tried image torn. counted_in was.history now.history moment image past (inl (inr torn));
    ran_none = ran_none old new was now before after counted ran roots script;
    cause = caused old new was now before after counted result fate is (ends_so fate result end);
  }
    where
      past : now.history.past ≡ was.history.past ++ moment ∷ []
      past = ap (λ (s : Stored). s.history.past) made

      by_fate : (fate : Fate) → written_by fate bytes ≡ None → OnOk (end_of fate) (Some now.tree ≡ Some (with_node path (File bytes exec) was.tree))
      by_fate Passes writes = let e : Some bytes ≡ None = writes in absurd (cc)
      by_fate Fails writes = tt
      by_fate (Halts choice) writes = tt

  -- where memory ran out
  pub puts_early : {T : Type 0} (result : Result T WorldError) → IsErrAnd result (λ e. e ≡ NoMemory) → now ≡ was → Puts path bytes exec (shown old was before) (shown new now after) result
  puts_early result want same = record {
    done = not_ok result _ (unanswered result want);
    failed = λ e. inl (ap (λ (s : Stored). Some s.tree) same);
    no_memory = λ e. ap (λ (s : Stored). Some s.tree) same;
    soft = ap (λ (s : Stored). s.history.soft) same;
    moments = adds_none _ was.history now.history (ap (λ (s : Stored). s.history.past) same);
    none_forgotten = still (shown old was before) (shown new now after) (ap (λ (s : Stored). Some s.tree) same) (ap (λ (s : Stored). s.history.soft) same);
    torn = λ tried. untried result _ want tried;
    ran_none = ran_none old new was now before after counted ran roots script;
    cause = caused old new was now before after counted result fate is (ends_early fate result want);
  }

-- what a put leaves that fails
pub put_left : (path : Path) (bytes text : List ℕ) (exec : Bool) (fate : Fate) (tree now : Tree) → written_by fate bytes ≡ Some text → passes fate ≡ false → now ≡ with_node path (File text exec) tree
    → now ≡ left_by (halted_put path bytes exec) fate tree
put_left path bytes text exec Passes tree now writes fails is = let q : true ≡ false = fails in absurd (cc)
put_left path bytes text exec Fails tree now writes fails is = let e : None ≡ Some text = writes in absurd (cc)
put_left path bytes text exec (Halts choice) tree now writes fails is = is ∙ by_test (nat_eq choice 0) writes
  where
    same_text : (a b : List ℕ) → Some a ≡ Some b → a ≡ b
    same_text a b e = cc

    by_test : (b : Bool) → cond b None (Some (take (choice - 1) bytes)) ≡ Some text → with_node path (File text exec) tree ≡ cond b tree (with_node path (File (take (choice - 1) bytes) exec) tree)
    by_test true h = absurd (cc)
    by_test false h = ap (λ b. with_node path (File b exec) tree) (sym (same_text (take (choice - 1) bytes) text h))

pub put_unleft : (path : Path) (bytes : List ℕ) (exec : Bool) (fate : Fate) (tree now : Tree) → written_by fate bytes ≡ None → now ≡ tree → now ≡ left_by (halted_put path bytes exec) fate tree
put_unleft path bytes exec Passes tree now writes is = is
put_unleft path bytes exec Fails tree now writes is = is
put_unleft path bytes exec (Halts choice) tree now writes is = is ∙ by_test (nat_eq choice 0) writes
  where
    by_test : (b : Bool) → cond b None (Some (take (choice - 1) bytes)) ≡ None → tree ≡ cond b tree (with_node path (File (take (choice - 1) bytes) exec) tree)
    by_test true h = refl
    by_test false h = let e : Some (take (choice - 1) bytes) ≡ None = h in absurd (cc)

-- a put that wrote wasn't to fail whole
pub written_no_fail : (bytes text : List ℕ) (fate : Fate) → written_by fate bytes ≡ Some text → fate ≡ Fails → ⊥
written_no_fail bytes text fate writes fails = let e : None ≡ Some text = sym (ap (λ f. written_by f bytes) fails) ∙ writes in cc

-- ---- a settling

pub settles_none : {T : Type 0} (area : Area) (old new : State) (result : Result T WorldError) → OnOk result ⊥ → Looks old new result → Settles area old new result
settles_none area old new result none looks = record {
  tree = looks.unchanged.tree;
  soft = not_ok result _ none;
  soft_err = on_err result _ (ap (λ (h : History). h.soft) looks.unchanged.history);
  moments = adds_none _ old.history new.history (ap (λ (h : History). h.past) looks.unchanged.history);
  none_forgotten = still old new looks.unchanged.tree (ap (λ (h : History). h.soft) looks.unchanged.history);
  ran_none = looks.unchanged.ran_none;
  cause = looks.cause;
}

module _ (area : Area) (old new : State) (was now : Stored) (before after : Calls) (counted : Counted before after) (fate : Fate) (is : fate ≡ fate_of (plan_in before))
    (ran : new.ran ≡ old.ran) (roots : new.roots ≡ old.roots) (script : new.script ≡ old.script) where
  pub settles_so : (result : Result (Unit {0}) WorldError) → result ≡ end_of fate → fate ≡ Passes → now ≡ with_settled area was → Settles area (shown old was before) (shown new now after) result
  settles_so result end passes made = record {
    tree = ap (λ (s : Stored). Some s.tree) made;
    soft = on_ok result _ (ap (λ (s : Stored). s.history.soft) made);
    soft_err = answered result (end ∙ ap end_of passes);
    moments = record { moments = moment ∷ []; added = past; only = λ image left. elim left [ inl at ↦ elim at [ inl here ↦ here | inr torn ↦ absurd torn ] | inr none ↦ absurd none ] };
    none_forgotten = λ image left. inl (counted_in was.history now.history moment image past (inl (inl left)));
    ran_none = ran_none old new was now before after counted ran roots script;
    cause = caused old new was now before after counted result fate is (ends_so fate result end);
  }
    where
      moment : Moment
      moment = record { tree = was.tree; soft = was.history.soft; putting = None }

      past : now.history.past ≡ was.history.past ++ moment ∷ []
      past = ap (λ (s : Stored). s.history.past) made

      answered : (result : Result (Unit {0}) WorldError) → result ≡ Ok tt → OnErr result (now.history.soft ≡ was.history.soft)
      answered (Ok value) e = tt
      answered (Err error) e = absurd (cc)

  pub settles_not : (result : Result (Unit {0}) WorldError) → result ≡ end_of fate → passes fate ≡ false → now ≡ was → Settles area (shown old was before) (shown new now after) result
  settles_not result end fails same = settles_none area (shown old was before) (shown new now after) result (subst (λ r. OnOk r ⊥) (sym end) (by_fate fate fails))
      (looks old new was now before after counted result fate is (ends_so fate result end) same ran roots script)
    where
      by_fate : (fate : Fate) → passes fate ≡ false → OnOk (end_of fate) ⊥
      by_fate Passes fails = let q : true ≡ false = fails in absurd (cc)
      by_fate Fails fails = tt
      by_fate (Halts choice) fails = tt

  pub settles_early : {T : Type 0} (result : Result T WorldError) → IsErrAnd result (λ e. e ≡ NoMemory) → now ≡ was → Settles area (shown old was before) (shown new now after) result
  settles_early result want same = settles_none area (shown old was before) (shown new now after) result (unanswered result want)
      (looks old new was now before after counted result fate is (ends_early fate result want) same ran roots script)

pub passes_so : (fate : Fate) → passes fate ≡ true → fate ≡ Passes
passes_so Passes h = refl
passes_so Fails h = let q : false ≡ true = h in absurd (cc)
passes_so (Halts choice) h = let q : false ≡ true = h in absurd (cc)
