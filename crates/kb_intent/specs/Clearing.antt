-- What settles areas, and what takes several paths away with all below them. This project's own.
use Rattle.std.specs.Prelude.{◌≡◌, ◌⊎◌, true, List, Option, Some, None, Result, option_map, OnOk}
use Rattle.std.specs.List.{list_any, AllByRecursion}
use Rattle.std.specs.Option.{ForSome}
use Rattle.kb_world.specs.Area.{IsLeft}
use Rattle.kb_world.specs.Crash.{Adds, LeftOf}
use Rattle.kb_world.specs.Path.{Path, is_under}
use Rattle.kb_world.specs.State.{State, HasCause, RanNone}
use Rattle.kb_world.specs.Steps.{cleared}
use Rattle.kb_world.specs.Tree.{Tree, node_at}
use Rattle.kb_world.specs.declared.child.Area.{Area}
use Rattle.kb_world.specs.declared.world.WorldError.{WorldError}
use Rattle.kb_world.specs.declared.world.WorldError.TheVariants.{Failed}
use Rattle.kb_again.specs.Sparing.{settled}
use Rattle.kb_machine.specs.Aside.{IsOneArea}

-- What children left in these areas is on the disk, in their order. Whatever the call answers, nothing else is changed.
pub record SettlesAll (areas : List Area) {T : Type 0} (old new : State) (result : Result T WorldError) : Type 0 where
  pub tree : new.tree ≡ old.tree
  pub done : OnOk result (new.history.soft ≡ settled areas old.history.soft)
  -- what is soft now was soft
  pub soft : AllByRecursion (λ area. IsOneArea area old.history.soft) new.history.soft
  pub moments : Adds (LeftOf old.history.soft old.tree) old.history new.history
  pub ran_none : RanNone old new
  pub cause : HasCause Failed old new result

-- the tree with nothing at or under these paths
abbrev pub without_trees : List Path → Tree → Tree
without_trees paths tree = cleared (λ other. list_any (is_under other) paths) tree

-- some of what was at or under these paths is gone
abbrev pub IsGoneAt : List Path → Tree → Tree → Type 0
IsGoneAt paths before after =
    (path : Path) → (node_at after path ≡ node_at before path) ⊎ ((list_any (is_under path) paths ≡ true) × (node_at after path ≡ None))

-- some of that is gone in the tree that is told now
abbrev pub IsGoneNow : List Path → Option Tree → Tree → Type 0
IsGoneNow paths new before = (now : Tree) × (new ≡ Some now) × IsGoneAt paths before now

-- a crash leaves it of a tree in which some of that is gone
pub record LeftOfGone (paths : List Path) (soft : List Area) (before image : Tree) : Type 0 where
  pub now : Tree
  pub gone : IsGoneAt paths before now
  pub left : IsLeft soft now image

-- The paths go, with all that is below them; whatever the call answers, nothing else is changed.
pub record TakesAllAway (paths : List Path) {T : Type 0} (old new : State) (result : Result T WorldError) : Type 0 where
  pub done : OnOk result (new.tree ≡ option_map (without_trees paths) old.tree)
  pub partly : ForSome old.tree (IsGoneNow paths new.tree)
  pub soft : new.history.soft ≡ old.history.soft
  pub moments : ForSome old.tree (λ tree. Adds (LeftOfGone paths old.history.soft tree) old.history new.history)
  pub ran_none : RanNone old new
  pub cause : HasCause Failed old new result
