-- What a crash may leave, now and at each moment before. This project's own disk rules.
use Rattle.std.specs.Prelude.{◌≡◌, ◌⊎◌, ℕ, Bool, List, [], ◌∷◌, ◌++◌, length, drop, Option, Some, None}
use Rattle.kb_world.specs.Path.{Path}
use Rattle.kb_world.specs.Tree.{Tree, with_node}
use Rattle.kb_world.specs.Area.{IsLeft}
use Rattle.kb_world.specs.declared.child.Area.{Area}
use Rattle.kb_world.specs.declared.tree.Node.TheVariants as node

-- What a crash goes by at one moment: the tree, the areas in which it may leave anything, and the path at which a file
-- is being put, if any.
pub record Moment : Type 0 where
  pub tree : Tree
  pub soft : List Area
  pub putting : Option Path

-- the file that is being put may hold any bytes
abbrev pub IsTorn : Option Path → List Area → Tree → Tree → Type 0
IsTorn None soft tree image = ⊥
IsTorn (Some path) soft tree image = (bytes : List ℕ) × (exec : Bool) × IsLeft soft (with_node path (node.File bytes exec) tree) image

-- a tree that a crash at the moment may leave
abbrev pub IsImage : Moment → Tree → Type 0
IsImage moment image = IsLeft moment.soft moment.tree image ⊎ IsTorn moment.putting moment.soft moment.tree image

-- a tree that a crash at one of the moments may leave
abbrev pub IsImageOfOne : List Moment → Tree → Type 0
IsImageOfOne [] image = ⊥
IsImageOfOne (moment ∷ moments) image = IsImage moment image ⊎ IsImageOfOne moments image

-- The areas that children were given and that weren't settled since, the last one first, and the moments so far, the
-- oldest first, without the present one.
pub record History : Type 0 where
  pub soft : List Area
  pub past : List Moment

-- the moments that came since an earlier history
abbrev pub moments_since : History → History → List Moment
moments_since old new = drop (length old.past) new.past

-- A tree that the areas let a crash leave of one that may not be told, and of one at whose path a file is being put.
abbrev pub LeftOf : List Area → Option Tree → Tree → Type 0
LeftOf soft None image = ⊥
LeftOf soft (Some tree) image = IsLeft soft tree image

abbrev pub TornOf : Path → List Area → Option Tree → Tree → Type 0
TornOf path soft None image = ⊥
TornOf path soft (Some tree) image = IsTorn (Some path) soft tree image

-- Moments came to those of before, and a crash at one of them leaves only what has this.
pub record Adds (Has : Tree → Type 0) (old new : History) : Type 0 where
  pub moments : List Moment
  pub added : new.past ≡ old.past ++ moments
  pub only : (image : Tree) → IsImageOfOne moments image → Has image

-- The same, where it is at first only what has the one, and from some moment on only what has the other.
pub record Turns (Early Late : Tree → Type 0) (old new : History) : Type 0 where
  pub early : List Moment
  pub late : List Moment
  pub added : new.past ≡ old.past ++ (early ++ late)
  pub early_only : (image : Tree) → IsImageOfOne early image → Early image
  pub late_only : (image : Tree) → IsImageOfOne late image → Late image
