-- Work aside: it changes what is private alone, and not the journal. This project's own.
use Rattle.std.specs.Prelude.{◌≡◌, ◌⊎◌, Bool, true, false, ◌&&◌, not, List, [], ◌∷◌, ◌++◌, Option, Some}
use Rattle.std.specs.List.{AllByRecursion}
use Rattle.std.specs.Option.{ForSome}
use Rattle.kb_world.specs.Path.{Path, is_under}
use Rattle.kb_world.specs.Tree.{Tree, node_at}
use Rattle.kb_world.specs.Area.{IsLeft}
use Rattle.kb_world.specs.Public.{intent_path, is_private}
use Rattle.kb_world.specs.Crash.{Adds}
use Rattle.kb_world.specs.State.{State}
use Rattle.kb_world.specs.declared.child.Area.{Area}
use Rattle.kb_world.specs.declared.roots.Roots.{Roots}
use Rattle.kb_changes.specs.Valid.{is_kept_out}
use Rattle.kb_again.specs.Sparing.{reaches}

-- private, and not the journal
abbrev pub is_aside : Roots → Path → Bool
is_aside roots path = is_private roots path && not (is_under path (intent_path roots))

-- what doesn't pass the test stands as it was
abbrev pub IsSameBut : (Path → Bool) → Tree → Tree → Type 0
IsSameBut may before after = (path : Path) → may path ≡ false → node_at after path ≡ node_at before path

-- It reaches private paths alone, neither the journal nor what is staged.
pub record IsAsideArea (roots : Roots) (area : Area) : Type 0 where
  pub own : (path : Path) → reaches area path ≡ true → is_aside roots path ≡ true
  pub kept_out : (path : Path) → reaches area path ≡ true → is_kept_out roots path ≡ false

-- A crash leaves it after changes aside, with further areas aside soft.
pub record LeftAside (roots : Roots) (soft : List Area) (tree image : Tree) : Type 0 where
  pub mid : Tree
  pub given : List Area
  pub same : IsSameBut (is_aside roots) tree mid
  pub aside : AllByRecursion (IsAsideArea roots) given
  pub left : IsLeft (given ++ soft) mid image

abbrev pub IsOneArea : Area → List Area → Type 0
IsOneArea area [] = ⊥
IsOneArea area (other ∷ others) = (area ≡ other) ⊎ IsOneArea area others

-- it was soft before, or lies aside
abbrev pub IsOldOrAside : Roots → List Area → Area → Type 0
IsOldOrAside roots soft area = IsOneArea area soft ⊎ IsAsideArea roots area

-- only what is aside differs in the tree that is told now
abbrev pub IsChangedAside : Roots → Option Tree → Tree → Type 0
IsChangedAside roots new tree = (now : Tree) × (new ≡ Some now) × IsSameBut (is_aside roots) tree now

-- Whatever the call answered, it changed what is aside alone, and gave areas that lie aside.
pub record WorksAside (roots : Roots) (old new : State) : Type 0 where
  pub tree : ForSome old.tree (IsChangedAside roots new.tree)
  pub soft : AllByRecursion (IsOldOrAside roots old.history.soft) new.history.soft
  pub moments : ForSome old.tree (λ tree. Adds (LeftAside roots old.history.soft tree) old.history new.history)
