-- What a call leaves behind, whatever it answers: which of its children ran, and what is foreign. This project's own.
use Rattle.std.specs.Prelude.{◌≡◌, Bool, List, ◌++◌, Some}
use Rattle.std.specs.List.{list_any}
use Rattle.kb_world.specs.Path.{Path, is_under}
use Rattle.kb_world.specs.Public.{foreign_tree}
use Rattle.kb_world.specs.State.{State}
use Rattle.kb_world.specs.Tree.{Tree}
use Rattle.kb_world.specs.TreeLaws.{same_path}
use Rattle.kb_world.specs.declared.child.Request.{Request}
use Rattle.kb_world.specs.declared.roots.Roots.{Roots}
use Rattle.kb_changes.specs.declared.change.Change.{Change}
use Rattle.kb_changes.specs.declared.change.Change.TheVariants.{Dir, Put, Drop, DropDir, Wipe, Run}
use Rattle.kb_again.specs.Sparing.{reaches}
use Rattle.kb_machine.specs.Aside.{IsSameBut}
use Rattle.kb_machine.specs.Outcome.{Outcome}

-- children ran, and they are a front of these
pub record RanFront (requests : List Request) (old new : State) : Type 0 where
  pub front : List Request
  pub back : List Request
  pub split : front ++ back ≡ requests
  pub ran : new.ran ≡ old.ran ++ front

-- the path is in the area of one of the children
abbrev pub is_reached : List Request → Path → Bool
is_reached requests path = list_any (λ request. reaches request.area path) requests

-- the change may change what stands at the path
abbrev pub may_touch : Path → Change → Bool
may_touch path (Dir made) = same_path path made
may_touch path (Put _ number target) = same_path path target
may_touch path (Drop gone) = same_path path gone
may_touch path (DropDir gone) = same_path path gone
may_touch path (Wipe gone) = is_under path gone
may_touch path (Run request) = reaches request.area path

-- one of the changes may
abbrev pub touched_by : List Change → Path → Bool
touched_by changes path = list_any (may_touch path) changes

-- what is foreign in the tree that is told now stands as it did, but for paths that pass the test
pub record KeepsForeignBut (roots : Roots) (may : Path → Bool) (tree : Tree) (new : State) : Type 0 where
  pub now : Tree
  pub told : new.tree ≡ Some now
  pub same : IsSameBut may (foreign_tree roots tree) (foreign_tree roots now)

-- A front of these children ran, and what is foreign stands as it did, but where the test lets it change.
pub record LeavesBehind (roots : Roots) (requests : List Request) (may : Path → Bool) (tree : Tree) (old new : State) : Type 0 where
  pub ran : RanFront requests old new
  pub foreign : KeepsForeignBut roots may tree new

-- of an outcome: its children alone may change what is foreign
abbrev pub LeavesBehindOf : Roots → Outcome → Tree → State → State → Type 0
LeavesBehindOf roots outcome = LeavesBehind roots outcome.requests (is_reached outcome.requests)
