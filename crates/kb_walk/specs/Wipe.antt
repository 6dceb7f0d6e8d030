-- A path is taken away with all that is below it, the last entry first. This project's own.
use Rattle.std.specs.Prelude.{◌≡◌, ◌≢◌, ◌⊎◌, true, not, List, [], Option, Some, None, Result, option_map, OnOk}
use Rattle.std.specs.List.{list_any}
use Rattle.std.specs.Option.{ForSome}
use Rattle.std.specs.FinMap.{retain_keys}
use Rattle.kb_world.specs.Path.{Path, is_under}
use Rattle.kb_world.specs.Roots.{is_below}
use Rattle.kb_world.specs.Tree.{Tree, node_at, kind_of, children, IsFormed}
use Rattle.kb_world.specs.TreeLaws.{same_path}
use Rattle.kb_world.specs.Area.{IsLeft}
use Rattle.kb_world.specs.Crash.{Adds}
use Rattle.kb_world.specs.State.{State, HasCause, RanNone}
use Rattle.kb_world.specs.Steps.{cleared}
use Rattle.kb_world.specs.declared.child.Area.{Area}
use Rattle.kb_world.specs.declared.world.WorldError.{WorldError}
use Rattle.kb_world.specs.declared.world.WorldError.TheVariants.{Failed}
use Rattle.kb_walk.specs.declared.walking.Met.{Met}

-- the tree without the path and all that is below it
abbrev pub without_tree : Path → Tree → Tree
without_tree path tree = cleared (λ other. is_under other path) tree

-- the tree in which nothing is below the path
abbrev pub emptied : Path → Tree → Tree
emptied path tree = cleared (λ other. is_below other path) tree

-- Some of what was at or below the path is gone, and nothing else is changed. What still stands stands in a directory.
pub record IsWipedInPart (path : Path) (before now : Tree) : Type 0 where
  pub each : (q : Path) → (node_at now q ≡ node_at before q) ⊎ ((is_under q path ≡ true) × (node_at now q ≡ None))
  pub formed : IsFormed now

-- a crash leaves it of a tree in which some of that is gone
pub record LeftOfWipe (soft : List Area) (path : Path) (before image : Tree) : Type 0 where
  pub now : Tree
  pub partly : IsWipedInPart path before now
  pub left : IsLeft soft now image

-- some of what was at or below the path of a told tree is gone now
abbrev pub IsPartlyWiped : Path → Option Tree → Tree → Type 0
IsPartlyWiped path new before = (now : Tree) × (new ≡ Some now) × IsWipedInPart path before now

-- The call makes this of the tree by taking away what is at or below the path; whatever it answers nothing else is
-- changed, and whenever a crash comes it leaves such a tree.
pub record TakesAway (change : Tree → Tree) (path : Path) {T : Type 0} (old new : State) (result : Result T WorldError) : Type 0 where
  pub done : OnOk result (new.tree ≡ option_map change old.tree)
  pub partly : ForSome old.tree (IsPartlyWiped path new.tree)
  pub soft : new.history.soft ≡ old.history.soft
  pub moments : ForSome old.tree (λ tree. Adds (LeftOfWipe old.history.soft path tree) old.history new.history)
  pub ran_none : RanNone old new
  pub cause : HasCause Failed old new result

-- The path goes, with all that is below it.
abbrev pub Wipes : Path → {T : Type 0} → State → State → Result T WorldError → Type 0
Wipes path old new result = TakesAway (without_tree path) path old new result

-- ---- what the loop over the entries goes by

-- the entry stands as it was met, and as a directory it is empty
pub record CanWipe (tree : Tree) (met : Met) : Type 0 where
  pub kind : met.kind ≡ kind_of (node_at tree met.path)
  pub stands : node_at tree met.path ≢ None
  pub empty : children tree met.path ≡ []

-- the tree with nothing at these paths
unfoldable pub without_all : List Path → Tree → Tree
without_all paths tree = retain_keys tree (λ q. not (list_any (same_path q) paths))
