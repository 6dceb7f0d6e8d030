-- What a world in memory means. This project's own.
use Rattle.std.specs.Prelude.{◌≡◌, ◌⊎◌, true, false, [], ◌∷◌, ◌++◌, ℕ, Some, None, Result, Ok, Err, OnOk, IsErrOf, IsTrue, unwrap_or}
use Rattle.std.specs.Option.{ForSome}
use Rattle.std.proofs.Common.{ap, subst}
use Rattle.std.specs.declared.alloc.AllocError.{AllocError}
use Rattle.kb_world.specs.Tree.{Tree, IsFormed}
use Rattle.kb_world.specs.Script.{Script}
use Rattle.kb_world.specs.State.{State}
use Rattle.kb_world.specs.declared.child.Request.{Request}
use Rattle.kb_world.specs.declared.roots.Roots.{Roots}
use Rattle.kb_world.specs.declared.world.WorldError.{WorldError}
use Rattle.kb_world.specs.declared.world.WorldError.TheVariants.{Failed}
use Rattle.kb_disk.specs.Edits.{root_alone}
use Rattle.kb_disk.specs.Stored.{Stored, stored_of, with_area}
use Rattle.kb_memory.specs.Calls.{CallPlan, Counted, plan_in, faults_in, is_steady, fate_of, passes, left_by}
use Rattle.kb_memory.specs.declared.calls.Fate.TheVariants.{Fails}
use Rattle.kb_memory.specs.declared.world.MemoryWorld.{MemoryWorld}

-- its tree, and what a crash goes by beside it
abbrev pub disk_of : MemoryWorld → Stored
disk_of world = stored_of world.disk

-- its tree, which it tells
abbrev pub tree_of : MemoryWorld → Tree
tree_of world = (disk_of world).tree

-- what is planned for its calls
abbrev pub plan_of : MemoryWorld → CallPlan
plan_of world = plan_in world.calls

-- it is steady where no call that is still to come is to fail
abbrev pub state_of : MemoryWorld → State
state_of world = record {
  tree = Some (tree_of world);
  roots = world.roots;
  script = world.script.items;
  ran = world.ran.items;
  faults = faults_in world.calls;
  steady = is_steady (plan_of world);
  history = (disk_of world).history;
}

-- the tree that it tells is formed
pub told_formed : (world : MemoryWorld) → ForSome (state_of world).tree IsFormed
told_formed world tree told = subst IsFormed (ap (λ at. unwrap_or at tree) told) world.disk.formed

-- the state of a new world
abbrev pub new_state : Roots → Script → State
new_state roots script = record { tree = Some root_alone; roots = roots; script = script; ran = []; faults = 0; steady = true; history = record { soft = []; past = [] } }

-- nothing is planned
abbrev pub no_plan : CallPlan
no_plan = record { due = []; halt = None }

-- A call goes by what is planned for it: it answers Ok only where it is to pass, and fails only where it isn't. Where it
-- fails it leaves what its halt says, by the choice, or else the tree as it was. Each call counts as one.
pub record FollowsPlan (cut : ℕ → Tree → Tree) {T : Type 0} (old new : MemoryWorld) (result : Result T WorldError) : Type 0 where
  pub passed : OnOk result (IsTrue (passes (fate_of (plan_of old))))
  pub failed : IsErrOf result Failed → passes (fate_of (plan_of old)) ≡ false
  pub left : IsErrOf result Failed → tree_of new ≡ left_by cut (fate_of (plan_of old)) (tree_of old)
  pub kept : fate_of (plan_of old) ≡ Fails → tree_of new ≡ tree_of old
  pub counted : Counted old.calls new.calls

-- a call that changes nothing leaves nothing else where it is halted
abbrev pub uncut : ℕ → Tree → Tree
uncut choice tree = tree

-- A run begins: at Ok its request is recorded and its area is soft, and where memory ran out nothing of it is, or the
-- request alone.
abbrev pub IsBegunSo : {T : Type 0} → Request → MemoryWorld → MemoryWorld → Result T AllocError → Type 0
IsBegunSo request old new (Ok value) = (disk_of new ≡ with_area request.area (disk_of old)) × (new.ran.items ≡ old.ran.items ++ request ∷ [])
IsBegunSo request old new (Err error) = (disk_of new ≡ disk_of old) × ((new.ran.items ≡ old.ran.items) ⊎ (new.ran.items ≡ old.ran.items ++ request ∷ []))

pub record Begins (request : Request) {T : Type 0} (old new : MemoryWorld) (result : Result T AllocError) : Type 0 where
  pub begun : IsBegunSo request old new result
  pub roots : new.roots ≡ old.roots
  pub script : new.script ≡ old.script
  pub counted : Counted old.calls new.calls
