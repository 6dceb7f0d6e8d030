-- What undoes a change, and so what a crash went by at each moment before. This project's own.
use Rattle.std.specs.Prelude.{List, [], ◌∷◌, ◌++◌, drop, Option, Some, None}
use Rattle.kb_world.specs.Path.{Path}
use Rattle.kb_world.specs.Tree.{Tree, node_at, without, edited}
use Rattle.kb_world.specs.Crash.{Moment}
use Rattle.kb_world.specs.declared.child.Area.{Area}
use Rattle.kb_disk.specs.declared.disk.Undo.{Undo}
use Rattle.kb_disk.specs.declared.disk.Undo.TheVariants as undo

-- a disk without what was before
pub record Now : Type 0 where
  pub tree : Tree
  pub soft : List Area

-- what there was before the change
unfoldable pub undone : Undo → Now → Now
undone (undo.Put path) now = record { tree = without path now.tree; soft = now.soft }
undone (undo.Was path at) now = record { tree = edited path at now.tree; soft = now.soft }
undone (undo.Moved from to at) now = record { tree = edited to at (edited from (node_at now.tree to) now.tree); soft = now.soft }
undone undo.Given now = record { tree = now.tree; soft = drop 1 now.soft }
undone (undo.Settled areas) now = record { tree = now.tree; soft = areas }

-- where a file was being put
abbrev pub put_path : Undo → Option Path
put_path (undo.Put path) = Some path
put_path (undo.Was path at) = None
put_path (undo.Moved from to at) = None
put_path undo.Given = None
put_path (undo.Settled areas) = None

-- What was soft then, where this was before the change and that is after it: while a child is given an area, it is soft.
abbrev pub soft_at : Undo → List Area → List Area → List Area
soft_at (undo.Put path) before after = before
soft_at (undo.Was path at) before after = before
soft_at (undo.Moved from to at) before after = before
soft_at undo.Given before after = after
soft_at (undo.Settled areas) before after = before

-- the moment of the change
abbrev pub moment_of : Undo → Now → Moment
moment_of change now = let before = undone change now in record { tree = before.tree; soft = soft_at change before.soft now.soft; putting = put_path change }

-- the moments of these changes, of which the last comes first, told from what there is after them; the oldest first
abbrev pub moments_of : List Undo → Now → List Moment
moments_of [] now = []
moments_of (change ∷ changes) now = moments_of changes (undone change now) ++ moment_of change now ∷ []
