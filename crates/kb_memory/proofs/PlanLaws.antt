-- What a plan says of steadiness and of the count of faults.
use Rattle.std.proofs.Common.{◌≡◌, ◌+◌, ◌-◌, ◌^◌, ◌<◌, ◌≤◌, ℕ, zero, suc, min, nat_eq, cond, take, [], ◌∷◌, Bool, true, false, IsTrue, IsErrOf, IsErrAnd, Result, Ok, Err, OnOk, OnErr, Option, Some, None, List, append-nil, refl, sym, ap, ◌∙◌, arith}
use Rattle.std.proofs.lemmas.Grind.{common_steps}
use Rattle.kb_world.specs.State.{Rose}
use Rattle.kb_world.specs.SinkState.{SinkState, Writes, grown}
use Rattle.kb_world.specs.declared.sink.SinkError.{SinkError}
use Rattle.kb_world.specs.declared.sink.SinkError.TheVariants as sink_error
use Rattle.kb_world.specs.declared.world.WorldError.{WorldError}
use Rattle.kb_world.specs.declared.world.WorldError.TheVariants.{Failed, NoMemory}
use Rattle.std.proofs.lemmas.Bool.Decides.{nat_tests}
use Rattle.kb_world.specs.Path.{Path}
use Rattle.kb_world.specs.Tree.{Tree, with_node}
use Rattle.kb_world.specs.declared.tree.Node.TheVariants.{File}
use Rattle.kb_memory.specs.Calls.{CallPlan, fate_at, fate_by, fate_of, after_halt, after_it, after_calls, halted_put}
use Rattle.kb_memory.specs.Plan.{Plan, is_due, is_over, after_call, risen}
use Rattle.kb_memory.specs.declared.calls.Halt.{Halt}
use Rattle.kb_memory.specs.declared.calls.Fate.TheVariants.{Passes, Fails, Halts}

-- a plan that is over stays so
pub over-after : (plan : Plan) → IsTrue (is_over plan) → IsTrue (is_over (after_call plan))
over-after [] over = refl
over-after (number ∷ plan) over = grind (arith, common_steps, over-after plan)

-- where a plan is over nothing is due
pub over-due : (plan : Plan) → IsTrue (is_over plan) → IsTrue (is_due plan) → ⊥
over-due [] over due = cc
over-due (number ∷ plan) over due = grind (arith, common_steps, over-due plan)

-- a failure that was due raises the count
pub rose : (due : Bool) (before now : ℕ) → now ≡ risen due before → IsTrue due → Rose before now
rose true before now faults due = let e : now ≡ min (before + 1) (2 ^ 64 - 1) = faults in omega arith
rose false before now faults due = cc

-- want of memory is no failure
pub not_failed : {T : Type 0} (result : Result T WorldError) → IsErrAnd result (λ e. e ≡ NoMemory) → IsErrOf result Failed → ⊥
not_failed (Ok value) want failed = cc
not_failed (Err Failed) want failed = cc
not_failed (Err NoMemory) want failed = cc

-- nothing is written on to it
unwritten : (written : Option (List ℕ)) → written ≡ grown [] written
unwritten None = refl
unwritten (Some before) = ap (λ bytes. Some bytes) (sym (append-nil before))

-- a write of a sink that appends its piece or nothing, under its plan
pub writes : {T : Type 0} (piece : List ℕ) (old new : SinkState) (result : Result T SinkError) (plan : Plan)
    → OnOk result (new.written ≡ grown piece old.written) → OnErr result (new.written ≡ old.written)
    → old.faults ≤ new.faults → new.faults ≡ risen (is_due plan) old.faults
    → old.steady ≡ is_over plan → new.steady ≡ is_over (after_call plan)
    → (IsErrOf result sink_error.Failed → IsTrue (is_due plan)) → Writes piece old new result
writes piece old new (Ok value) plan done kept later faults was_steady is_steady due = record {
  done = done;
  failed = λ e. absurd (cc);
  no_memory = λ e. absurd (cc);
  later = later;
  rose = λ e. rose (is_due plan) old.faults new.faults faults (due e);
  steady = λ steady. is_steady ∙ over-after plan (sym was_steady ∙ steady);
  never = λ steady e. over-due plan (sym was_steady ∙ steady) (due e);
}
writes piece old new (Err error) plan done kept later faults was_steady is_steady due = record {
  done = tt;
  failed = λ e. (0, kept ∙ unwritten old.written);
  no_memory = λ e. kept;
  later = later;
  rose = λ e. rose (is_due plan) old.faults new.faults faults (due e);
  steady = λ steady. is_steady ∙ over-after plan (sym was_steady ∙ steady);
  never = λ steady e. over-due plan (sym was_steady ∙ steady) (due e);
}

-- ---- halts

-- all calls fail from now on
abbrev over_halt : Halt
over_halt = record { left = 0; choice = None }

abbrev IsOver : CallPlan → Type 0
IsOver plan = plan.halt ≡ Some over_halt

abbrev less : Halt → Halt
less halt = record { left = halt.left - 1; choice = halt.choice }

some_halt : (a b : Halt) → a ≡ b → ◌≡◌ {A = Option Halt} (Some a) (Some b)
some_halt a b e i = Some (e i)

by_left : (test : Bool) (halt : Halt) (choice : ℕ) → cond test (fate_at halt.choice) Passes ≡ Halts choice → cond test over_halt (less halt) ≡ over_halt
by_left true halt choice is = refl
by_left false halt choice is = absurd (cc)

by_halt : (halt : Option Halt) (choice : ℕ) → fate_by halt ≡ Halts choice → after_halt halt ≡ Some over_halt
by_halt None choice is = absurd (cc)
by_halt (Some halt) choice is = some_halt (cond (nat_eq halt.left 0) over_halt (less halt)) over_halt (by_left (nat_eq halt.left 0) halt choice is)

over_by : (plan : CallPlan) (choice : ℕ) → fate_of plan ≡ Halts choice → IsOver (after_it plan)
over_by plan choice is = by_due (is_due plan.due) is
  where
    by_due : (due : Bool) → cond due Fails (fate_by plan.halt) ≡ Halts choice → after_halt plan.halt ≡ Some over_halt
    by_due true is = absurd (cc)
    by_due false is = by_halt plan.halt choice is

fails_over : (plan : CallPlan) → IsOver plan → fate_of plan ≡ Fails
fails_over plan over = ap (λ halt. cond (is_due plan.due) Fails (fate_by halt)) over ∙ by_due (is_due plan.due)
  where
    by_due : (due : Bool) → cond due Fails Fails ≡ Fails
    by_due true = refl
    by_due false = refl

all_over : (count : ℕ) (plan : CallPlan) → IsOver plan → fate_of (after_calls count plan) ≡ Fails
all_over zero plan over = fails_over plan over
all_over (suc count) plan over = all_over count (after_it plan) (ap after_halt over)

pub none_passes : (plan : CallPlan) (choice count : ℕ) → fate_of plan ≡ Halts choice → fate_of (after_calls count (after_it plan)) ≡ Fails
none_passes plan choice count is = all_over count (after_it plan) (over_by plan choice is)

-- the choice that leaves so many bytes
pub prefix_by : (path : Path) (bytes : List ℕ) (exec : Bool) (tree : Tree) (count : ℕ) → count < 2 ^ 64 - 1
    → (choice : ℕ) × (choice < 2 ^ 64) × (halted_put path bytes exec choice tree ≡ with_node path (File (take count bytes) exec) tree)
prefix_by path bytes exec tree count less =
    let some : nat_eq (count + 1) 0 ≡ false = grind (arith, nat_tests) in
    let back : count + 1 - 1 ≡ count = omega arith in
    (count + 1, omega arith, ap (λ b. cond b tree (with_node path (File (take (count + 1 - 1) bytes) exec) tree)) some ∙ ap (λ k. with_node path (File (take k bytes) exec) tree) back)
