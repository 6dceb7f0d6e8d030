-- What a world means, and what its calls do to it. This project's own.
use Rattle.std.specs.Prelude.{◌≡◌, ◌⊎◌, ℕ, ◌+◌, ◌-◌, ◌^◌, ◌≤◌, min, Bool, not, List, [], ◌∷◌, ◌++◌, filter, Option, Some, Result, Ok, Err, is_some, option_map, OnOk, OnErr, IsErrOf, IsTrue}
use Rattle.std.specs.Option.{ForSome}
use Rattle.kb_world.specs.Path.{Path}
use Rattle.kb_world.specs.Tree.{Tree, with_node}
use Rattle.kb_world.specs.Area.{IsLeft, is_settled_by}
use Rattle.kb_world.specs.Crash.{History, LeftOf, TornOf, IsImageOfOne, moments_since, Adds, Turns}
use Rattle.kb_world.specs.Script.{Script, answer_in, tree_after}
use Rattle.kb_world.specs.declared.roots.Roots.{Roots}
use Rattle.kb_world.specs.declared.tree.Node.TheVariants as node
use Rattle.kb_world.specs.declared.child.Area.{Area}
use Rattle.kb_world.specs.declared.child.Request.{Request}
use Rattle.kb_world.specs.declared.child.Reply.{Reply}
use Rattle.kb_world.specs.declared.world.WorldError.{WorldError}
use Rattle.kb_world.specs.declared.world.WorldError.TheVariants.{Failed, NoMemory}

-- A world that doesn't tell its tree has none here.
pub record State : Type 0 where
  pub tree : Option Tree
  pub roots : Roots
  -- what its children answer and do
  pub script : Script
  -- the requests for children so far
  pub ran : List Request
  -- how often the outside has failed
  pub faults : ℕ
  -- no fault of its own is due
  pub steady : Bool
  -- what a crash goes by, beside the tree
  pub history : History

-- the count is greater than before, or stands at its end
abbrev pub Rose : ℕ → ℕ → Type 0
Rose before now = min (before + 1) (2 ^ 64 - 1) ≤ now

-- A call answers this error only by a fault. A steady world that tells its tree has none: one that doesn't may be asked
-- for what its tree doesn't allow.
pub record HasCause {E T : Type 0} (error : E) (old new : State) (result : Result T E) : Type 0 where
  pub later : old.faults ≤ new.faults
  pub rose : IsErrOf result error → Rose old.faults new.faults
  pub steady : IsTrue old.steady → IsTrue new.steady
  pub never : IsTrue (is_some old.tree) → IsTrue old.steady → IsErrOf result error → ⊥

-- what no call changes: the roots, the script, and whether the tree is told
pub record Lasts (old new : State) : Type 0 where
  pub roots : new.roots ≡ old.roots
  pub script : new.script ≡ old.script
  pub told : is_some new.tree ≡ is_some old.tree

-- no child ran, and what no call changes
pub record RanNone (old new : State) : Type 0 where
  pub ran : new.ran ≡ old.ran
  pub lasts : Lasts old new

-- a crash since the old state may leave it: at a moment that came since, or now
abbrev pub LeftSince : State → State → Tree → Type 0
LeftSince old new image = IsImageOfOne (moments_since old.history new.history) image ⊎ LeftOf new.history.soft new.tree image

-- What a crash could leave in the old state it can still have left: the moment of that state is counted, or the state
-- lets as much be left now.
abbrev pub NoneForgotten : State → State → Type 0
NoneForgotten old new = (image : Tree) → LeftOf old.history.soft old.tree image → LeftSince old new image

-- a call that didn't give up for want of memory
abbrev pub WasTried : {T : Type 0} → Result T WorldError → Type 0
WasTried result = IsErrOf result NoMemory → ⊥

-- The tree, the requests, the roots, the script and what a crash goes by are as they were, and the tree is told as it
-- was.
pub record Unchanged (old new : State) : Type 0 where
  pub tree : new.tree ≡ old.tree
  pub history : new.history ≡ old.history
  pub ran_none : RanNone old new

-- a call that only looks
pub record Looks {T : Type 0} (old new : State) (result : Result T WorldError) : Type 0 where
  pub unchanged : Unchanged old new
  pub cause : HasCause Failed old new result

-- A call that changes the tree so: at Ok it is done, at a failure it is done or not, and where memory ran out it isn't.
pub record Changes (change : Tree → Tree) {T : Type 0} (old new : State) (result : Result T WorldError) : Type 0 where
  pub done : OnOk result (new.tree ≡ option_map change old.tree)
  pub failed : IsErrOf result Failed → (new.tree ≡ old.tree) ⊎ (new.tree ≡ option_map change old.tree)
  pub no_memory : IsErrOf result NoMemory → new.tree ≡ old.tree
  pub soft : new.history.soft ≡ old.history.soft
  -- first what stood before, then what stands after
  pub moments : Turns (LeftOf old.history.soft old.tree) (LeftOf old.history.soft (option_map change old.tree)) old.history new.history
  pub none_forgotten : NoneForgotten old new
  pub ran_none : RanNone old new
  pub cause : HasCause Failed old new result

-- the tree with a file of any bytes at the path
pub record HasTornFile (path : Path) (old new : Option Tree) : Type 0 where
  pub bytes : List ℕ
  pub exec : Bool
  pub torn : new ≡ option_map (with_node path (node.File bytes exec)) old

-- A file is put at the path: at a failure it isn't there, or one of any bytes is.
pub record Puts (path : Path) (bytes : List ℕ) (exec : Bool) {T : Type 0} (old new : State) (result : Result T WorldError) : Type 0 where
  pub done : OnOk result (new.tree ≡ option_map (with_node path (node.File bytes exec)) old.tree)
  pub failed : IsErrOf result Failed → (new.tree ≡ old.tree) ⊎ HasTornFile path old.tree new.tree
  pub no_memory : IsErrOf result NoMemory → new.tree ≡ old.tree
  pub soft : new.history.soft ≡ old.history.soft
  pub moments : Adds (λ image. LeftOf old.history.soft old.tree image ⊎ TornOf path old.history.soft old.tree image) old.history new.history
  pub none_forgotten : NoneForgotten old new
  -- a crash meanwhile may have left any bytes there
  pub torn : WasTried result → (image : Tree) → TornOf path old.history.soft old.tree image → IsImageOfOne (moments_since old.history new.history) image
  pub ran_none : RanNone old new
  pub cause : HasCause Failed old new result

-- the child did what the script gives, and its reply is the script's
pub record IsReplied (request : Request) (old new : State) (reply : Reply) (tree : Tree) : Type 0 where
  pub said : reply ≡ (answer_in old.roots old.script request tree).reply
  pub done : new.tree ≡ Some (tree_after old.roots old.script request tree)
  pub ran : new.ran ≡ old.ran ++ request ∷ []

-- the child was cut off, which leaves the tree outside of its area
abbrev pub IsCutOff : Request → State → Tree → Type 0
IsCutOff request new tree = (now : Tree) × (new.tree ≡ Some now) × IsLeft (request.area ∷ []) tree now

-- what the child did over a told tree
abbrev pub EndsAs : Request → State → State → Result Reply WorldError → Tree → Type 0
EndsAs request old new (Ok reply) tree = IsReplied request old new reply tree
EndsAs request old new (Err Failed) tree = IsCutOff request new tree × (new.ran ≡ old.ran ++ request ∷ [])
EndsAs request old new (Err NoMemory) tree = IsCutOff request new tree × ((new.ran ≡ old.ran) ⊎ (new.ran ≡ old.ran ++ request ∷ []))

-- the child wasn't begun
pub record IsNotBegun (old new : State) : Type 0 where
  pub tree : new.tree ≡ old.tree
  pub soft : new.history.soft ≡ old.history.soft

-- the child was given the area, which is soft from then on
abbrev pub IsGiven : Area → State → State → Type 0
IsGiven area old new = new.history.soft ≡ area ∷ old.history.soft

-- A child is run. Where memory runs out it may have been run in part, or not at all.
pub record Runs (request : Request) (old new : State) (result : Result Reply WorldError) : Type 0 where
  pub ends : ForSome old.tree (EndsAs request old new result)
  pub begun : IsNotBegun old new ⊎ IsGiven request.area old new
  pub given : WasTried result → ForSome old.tree (λ tree. IsGiven request.area old new)
  pub moments : Adds (LeftOf (request.area ∷ old.history.soft) old.tree) old.history new.history
  pub none_forgotten : NoneForgotten old new
  -- a crash meanwhile may have left anything in its area
  pub inside : WasTried result → (image : Tree) → LeftOf (request.area ∷ old.history.soft) old.tree image → IsImageOfOne (moments_since old.history new.history) image
  pub lasts : Lasts old new
  pub cause : HasCause Failed old new result

-- What a child left in the area, and in each part of it, is on the disk: it is no longer soft. Nothing else is changed.
pub record Settles {T : Type 0} (area : Area) (old new : State) (result : Result T WorldError) : Type 0 where
  pub tree : new.tree ≡ old.tree
  pub soft : OnOk result (new.history.soft ≡ filter (λ other. not (is_settled_by area other)) old.history.soft)
  pub soft_err : OnErr result (new.history.soft ≡ old.history.soft)
  pub moments : Adds (LeftOf old.history.soft old.tree) old.history new.history
  pub none_forgotten : NoneForgotten old new
  pub ran_none : RanNone old new
  pub cause : HasCause Failed old new result
