-- What ends a transaction whose journal stands: its changes are done, what its children left is settled, what is staged
-- goes, and the journal goes last. This project's own.
use Rattle.std.specs.Prelude.{◌≡◌, ℕ, Bool, List, Some, Result, IfOk, OnOk}
use Rattle.std.specs.Option.{ForSome}
use Rattle.kb_world.specs.Crash.{Adds}
use Rattle.kb_world.specs.Public.{intent_path, public_tree}
use Rattle.kb_world.specs.Script.{Script}
use Rattle.kb_world.specs.State.{State, HasCause, Lasts}
use Rattle.kb_world.specs.Tree.{Tree, node_at}
use Rattle.kb_world.specs.declared.roots.Roots.{Roots}
use Rattle.kb_world.specs.declared.tree.Node.TheVariants as node
use Rattle.kb_world.specs.declared.world.WorldError.{WorldError}
use Rattle.kb_world.specs.declared.world.WorldError.TheVariants.{Failed}
use Rattle.kb_changes.specs.Change.{done, requests_of}
use Rattle.kb_changes.specs.Text.{IsJournal}
use Rattle.kb_changes.specs.declared.change.Change.{Change}
use Rattle.kb_changes.specs.declared.change.Intent.{Intent}
use Rattle.kb_again.specs.Sparing.{AreSparing, areas_of}
use Rattle.kb_machine.specs.Behind.{touched_by, LeavesBehind}
use Rattle.kb_machine.specs.Commits.{transacted, IsCommitted}
use Rattle.kb_machine.specs.Opens.{Opens}
use Rattle.kb_machine.specs.Stands.{Stands, Rests}
use Rattle.kb_intent.specs.declared.changing.Ran.{Ran}

-- a file with the text of this intent stands at the journal's path
pub record HasJournal (roots : Roots) (intent : Intent) (tree : Tree) : Type 0 where
  pub bytes : List ℕ
  pub exec : Bool
  pub stands : node_at tree (intent_path roots) ≡ Some (node.File bytes exec)
  pub journal : IsJournal roots bytes intent

-- the transaction came about, and these are its children's requests and replies
pub record IsFinished (roots : Roots) (changes : List Change) (old new : State) (tree : Tree) (ran : Ran) : Type 0 where
  pub committed : IsCommitted (transacted roots old.script changes tree) old new ran.replies
  pub requests : ran.requests ≡ requests_of roots old.script changes tree

-- whenever a crash comes it leaves what opens the store; so does the end, and at Ok nothing is under way
pub record KeepsOpening (roots : Roots) (store : Tree) {E T : Type 0} (old new : State) (result : Result T E) : Type 0 where
  pub each_moment : Adds (λ image. Opens roots old.script image store) old.history new.history
  pub stands : Stands roots store new
  pub rests : OnOk result (Rests roots store new)

-- the store once all changes are done
abbrev pub store_after : Roots → Script → List Change → Tree → Tree
store_after roots script changes tree = public_tree roots (done roots script changes tree)

-- The call does what is left of a transaction of these changes. Where its journal stands and no soft area does harm, it
-- survives a crash.
pub record EndsTransaction (roots : Roots) (changes : List Change) (old new : State) (result : Result Ran WorldError) : Type 0 where
  pub done : ForSome old.tree (λ tree. IfOk result (IsFinished roots changes old new tree))
  -- whatever it answers, of the children a front ran, and what is foreign differs where the changes touch it alone
  pub behind : ForSome old.tree (λ tree. LeavesBehind roots (requests_of roots old.script changes tree) (touched_by changes) tree old new)
  pub survives : ForSome old.tree (λ tree. (intent : Intent) → HasJournal roots intent tree → intent.changes ≡ changes
      → AreSparing roots (areas_of changes) old.history.soft
      → KeepsOpening roots (store_after roots old.script changes tree) old new result)
  pub lasts : Lasts old new
  pub cause : HasCause Failed old new result
