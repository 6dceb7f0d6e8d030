-- What a call changes where a test holds alone, and what is staged at a path. This project's own.
use Rattle.std.specs.Prelude.{◌≡◌, Bool, List, Option, Some, Result, option_map, OnOk}
use Rattle.std.specs.Option.{ForSome}
use Rattle.kb_world.specs.Area.{IsLeft}
use Rattle.kb_world.specs.Crash.{Adds}
use Rattle.kb_world.specs.Path.{Path, parent}
use Rattle.kb_world.specs.State.{State, HasCause, RanNone}
use Rattle.kb_world.specs.Tree.{Tree, with_node, CanMake}
use Rattle.kb_world.specs.declared.child.Area.{Area}
use Rattle.kb_world.specs.declared.tree.Node.{Node}
use Rattle.kb_world.specs.declared.tree.Node.TheVariants as node
use Rattle.kb_world.specs.declared.world.WorldError.{WorldError}
use Rattle.kb_world.specs.declared.world.WorldError.TheVariants.{Failed}
use Rattle.kb_machine.specs.Aside.{IsSameBut}
use Rattle.kb_intent.specs.Doing.{made_dir_at}
use Rattle.kb_intent.specs.declared.staging.Content.{Content}
use Rattle.kb_intent.specs.declared.staging.Content.TheVariants as content

-- a crash leaves it of a tree that differs where the test holds alone
pub record LeftBut (may : Path → Bool) (soft : List Area) (tree image : Tree) : Type 0 where
  pub mid : Tree
  pub same : IsSameBut may tree mid
  pub left : IsLeft soft mid image

-- the tree that is told now differs where the test holds alone
abbrev pub IsNowBut : (Path → Bool) → Option Tree → Tree → Type 0
IsNowBut may new tree = (now : Tree) × (new ≡ Some now) × IsSameBut may tree now

-- The call makes this of the tree, and whatever it answers it changes only where the test holds.
pub record ChangesBut (may : Path → Bool) (change : Tree → Tree) {T : Type 0} (old new : State) (result : Result T WorldError) : Type 0 where
  pub done : OnOk result (new.tree ≡ option_map change old.tree)
  pub now : ForSome old.tree (IsNowBut may new.tree)
  pub soft : new.history.soft ≡ old.history.soft
  pub moments : ForSome old.tree (λ tree. Adds (LeftBut may old.history.soft tree) old.history new.history)
  pub ran_none : RanNone old new
  pub cause : HasCause Failed old new result

-- the file or the link
abbrev pub staged_node : Content → Node
staged_node (content.File bytes exec) = node.File bytes.now exec
staged_node (content.Link text) = node.Link text.now

-- the tree with the node at the path, in a directory that is made first
abbrev pub put_inside : Path → Node → Tree → Tree
put_inside path at tree = with_node path at (made_dir_at (parent path) tree)

-- that can be done
abbrev pub CanPutInside : Tree → Path → Type 0
CanPutInside tree path = CanMake (made_dir_at (parent path) tree) path
