-- What is planned for the calls of a world, and what becomes of a call. This project's own.
use Rattle.std.specs.Prelude.{◌≡◌, ◌≤◌, ℕ, zero, suc, ◌-◌, ◌%◌, Bool, true, false, not, ◌&&◌, cond, nat_eq, List, is_some, take, Option, Some, None, Result, Ok, Err, if◌then◌else◌}
use denote.Bor.{Bor}
use Rattle.kb_world.specs.Path.{Path}
use Rattle.kb_world.specs.Tree.{Tree, with_node}
use Rattle.kb_world.specs.declared.tree.Node.TheVariants.{File}
use Rattle.kb_world.specs.declared.world.WorldError.{WorldError}
use Rattle.kb_world.specs.declared.world.WorldError.TheVariants.{Failed}
use Rattle.kb_memory.specs.Plan.{Plan, is_due, is_over, after_call, risen}
use Rattle.kb_memory.specs.declared.calls.Halt.{Halt}
use Rattle.kb_memory.specs.declared.calls.Calls.{Calls}
use Rattle.kb_memory.specs.declared.calls.Fate.{Fate}
use Rattle.kb_memory.specs.declared.calls.Fate.TheVariants.{Passes, Fails, Halts}

-- The calls that are to fail, and where all calls fail that follow. One of the two is planned at most.
pub record CallPlan : Type 0 where
  pub due : Plan
  pub halt : Option Halt

abbrev pub plan_in : Calls → CallPlan
plan_in calls = record { due = calls.failures.due.items; halt = calls.halt }

abbrev pub faults_in : Calls → ℕ
faults_in calls = calls.failures.faults

-- no call that is still to come is to fail
abbrev pub is_steady : CallPlan → Bool
is_steady plan = is_over plan.due && not (is_some plan.halt)

-- the first call that a halt makes fail leaves what its choice says, and each later one fails
abbrev pub fate_at : Option ℕ → Fate
fate_at (Some choice) = Halts choice
fate_at None = Fails

-- what a halt makes of the next call
abbrev pub fate_by : Option Halt → Fate
fate_by None = Passes
fate_by (Some halt) = if nat_eq halt.left 0 then fate_at halt.choice else Passes

-- the halt once the next call is over
abbrev pub after_halt : Option Halt → Option Halt
after_halt None = None
after_halt (Some halt) = Some (if nat_eq halt.left 0 then record { left = 0; choice = None } else record { left = halt.left - 1; choice = halt.choice })

-- what becomes of the next call
abbrev pub fate_of : CallPlan → Fate
fate_of plan = if is_due plan.due then Fails else fate_by plan.halt

-- the plan once the next call is over
abbrev pub after_it : CallPlan → CallPlan
after_it plan = record { due = after_call plan.due; halt = after_halt plan.halt }

abbrev pub passes : Fate → Bool
passes Passes = true
passes Fails = false
passes (Halts choice) = false

-- A call was counted, and where it isn't to pass the count of faults has risen.
pub record Counted (old new : Calls) : Type 0 where
  pub plan : plan_in new ≡ after_it (plan_in old)
  pub faults : faults_in new ≡ risen (not (passes (fate_of (plan_in old)))) (faults_in old)
  pub later : faults_in old ≤ faults_in new

-- a call is done that is done as a whole or not at all; of a halted one an odd choice says that it is
abbrev pub is_done : Fate → Bool
is_done Passes = true
is_done Fails = false
is_done (Halts choice) = not (nat_eq (choice % 2) 0)

-- what a call answers, but for want of memory
abbrev pub end_of : Fate → Result (Unit {0}) WorldError
end_of Passes = Ok tt
end_of Fails = Err Failed
end_of (Halts choice) = Err Failed

-- What a halted call leaves, by the choice: the tree before it or the tree after it.
abbrev pub halted : (Tree → Tree) → ℕ → Tree → Tree
halted change choice tree = cond (nat_eq (choice % 2) 0) tree (change tree)

-- What a halted put leaves, by the choice: the tree before it, or a file with a prefix of its bytes.
abbrev pub halted_put : Path → List ℕ → Bool → ℕ → Tree → Tree
halted_put path bytes exec choice tree = cond (nat_eq choice 0) tree (with_node path (File (take (choice - 1) bytes) exec) tree)

-- the bytes behind a reference, if there is one
abbrev pub text_of : Option (Bor (List ℕ)) → Option (List ℕ)
text_of (Some bytes) = Some bytes.now
text_of None = None

-- what a put writes, if it writes a file
abbrev pub written_by : Fate → List ℕ → Option (List ℕ)
written_by Passes bytes = Some bytes
written_by Fails bytes = None
written_by (Halts choice) bytes = if nat_eq choice 0 then None else Some (take (choice - 1) bytes)

-- What a call leaves that fails, where a halted one leaves this by its choice.
abbrev pub left_by : (ℕ → Tree → Tree) → Fate → Tree → Tree
left_by cut Passes tree = tree
left_by cut Fails tree = tree
left_by cut (Halts choice) tree = cut choice tree

-- the plan once so many calls are over
abbrev pub after_calls : ℕ → CallPlan → CallPlan
after_calls zero plan = plan
after_calls (suc count) plan = after_calls count (after_it plan)
