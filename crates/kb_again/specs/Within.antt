-- What is left where changes are cut off, and that doing them all again is doing them once. This project's own.
use Rattle.std.specs.Prelude.{◌≡◌, ◌⊎◌, true, None, List, [], ◌∷◌, ◌++◌, take}
use Rattle.std.specs.List.{list_any}
use Rattle.kb_world.specs.Area.{IsLeft}
use Rattle.kb_world.specs.Path.{Path, is_under}
use Rattle.kb_world.specs.Public.{intent_path, staging_path, public_tree}
use Rattle.kb_world.specs.Script.{Script}
use Rattle.kb_world.specs.Tree.{Tree, node_at, IsFormed}
use Rattle.kb_world.specs.declared.child.Area.{Area}
use Rattle.kb_world.specs.declared.roots.Roots.{Roots}
use Rattle.kb_changes.specs.Change.{do_change, done}
use Rattle.kb_changes.specs.declared.change.Change.{Change}
use Rattle.kb_changes.specs.declared.change.Change.TheVariants.{Wipe, Run}
use Rattle.kb_again.specs.Sparing.{AreSparing, areas_of}

-- A change that is cut off: it isn't done, or it is; of a wipe any of what goes may be gone; a child leaves anything in
-- its area.
abbrev pub IsWithin : Roots → Script → Change → Tree → Tree → Type 0
IsWithin roots script (Wipe path) before image =
    IsFormed image
    × ((other : Path) → (node_at image other ≡ node_at before other)
    ⊎ (node_at image other ≡ node_at (do_change roots script (Wipe path) before) other))
IsWithin roots script (Run request) before image = IsLeft (request.area ∷ []) before image
IsWithin roots script change before image = (image ≡ before) ⊎ (image ≡ do_change roots script change before)

-- within the first of these changes, or where there is none behind all
abbrev pub IsWithinNext : Roots → Script → List Change → Tree → Tree → Type 0
IsWithinNext roots script [] before image = image ≡ before
IsWithinNext roots script (change ∷ changes) before image = IsWithin roots script change before image

-- A crash leaves it while the changes are done: some are done, the next one is cut off, and in the soft areas, among them
-- those of the children that were run, anything is left.
pub record IsBetween (roots : Roots) (script : Script) (changes : List Change) (soft : List Area) (tree image : Tree) : Type 0 where
  pub front : List Change
  pub back : List Change
  pub split : front ++ back ≡ changes
  pub mid : Tree
  pub within : IsWithinNext roots script back (done roots script front tree) mid
  pub left : IsLeft (areas_of (front ++ take 1 back) ++ soft) mid image

-- the directories of what is staged
abbrev pub staging_paths : Roots → List Path
staging_paths roots = staging_path roots.dkms ∷ staging_path roots.src ∷ staging_path roots.modules ∷ staging_path roots.boot ∷ []

-- some of what is staged is gone
abbrev pub IsUnstaged : Roots → Tree → Tree → Type 0
IsUnstaged roots before after =
    (path : Path) → (node_at after path ≡ node_at before path)
    ⊎ ((list_any (is_under path) (staging_paths roots) ≡ true) × (node_at after path ≡ None))

-- doing all changes gives the same public tree from both, and the journal stands in both as in one
pub record IsDoneAlike (roots : Roots) (script : Script) (changes : List Change) (tree image : Tree) : Type 0 where
  pub public : public_tree roots (done roots script changes image) ≡ public_tree roots (done roots script changes tree)
  pub journal : node_at image (intent_path roots) ≡ node_at tree (intent_path roots)

-- Cut off again and again: each image, with the areas that were soft then, is left while all are done from the one before.
abbrev pub IsBetweenEach : Roots → Script → List Change → Tree → List (List Area × Tree) → Type 0
IsBetweenEach roots script changes tree [] = Unit {0}
IsBetweenEach roots script changes tree (next ∷ images) =
    AreSparing roots (areas_of changes) next.0 × IsBetween roots script changes next.0 tree next.1
    × IsBetweenEach roots script changes next.1 images

abbrev pub last_image : Tree → List (List Area × Tree) → Tree
last_image tree [] = tree
last_image tree (next ∷ images) = last_image next.1 images
