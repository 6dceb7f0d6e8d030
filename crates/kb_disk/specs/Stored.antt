-- What a disk means, and what its calls make of it. This project's own.
use Rattle.std.specs.Prelude.{ℕ, Bool, not, cond, List, [], ◌∷◌, ◌++◌, filter, reverse, Option, Some, None}
use Rattle.std.specs.List.{fold}
use Rattle.kb_world.specs.Path.{Path}
use Rattle.kb_world.specs.Tree.{Tree, with_node, edited}
use Rattle.kb_world.specs.Area.{is_settled_by}
use Rattle.kb_world.specs.Crash.{History}
use Rattle.kb_world.specs.Script.{can_edit}
use Rattle.kb_world.specs.declared.child.Area.{Area}
use Rattle.kb_world.specs.declared.tree.Edit.{Edit}
use Rattle.kb_world.specs.declared.tree.Node.TheVariants.{File}
use Rattle.kb_disk.specs.Edits.{root_alone}
use Rattle.kb_disk.specs.Undo.{Now, moments_of}
use Rattle.kb_disk.specs.declared.disk.Undo.{Undo}
use Rattle.kb_disk.specs.declared.disk.Disk.{Disk}

-- its tree, and what a crash goes by beside it
pub record Stored : Type 0 where
  pub tree : Tree
  pub history : History

-- what was before is told by what undoes the changes, the oldest first
abbrev pub stored_from : List Undo → Now → Stored
stored_from changes now = record { tree = now.tree; history = record { soft = now.soft; past = moments_of (reverse changes) now } }

abbrev pub stored_of : Disk → Stored
stored_of disk = stored_from disk.changes.items (record { tree = disk.nodes; soft = disk.soft })

-- the root directory alone, nothing soft, and nothing before
abbrev pub new_stored : Stored
new_stored = record { tree = root_alone; history = record { soft = []; past = [] } }

-- the tree alone is kept: nothing is soft, and nothing was before
abbrev pub restarted : Stored → Stored
restarted was = record { tree = was.tree; history = record { soft = []; past = [] } }

-- One moment passed, at which the areas were soft and a file was being put at the path, if any. From then on there are
-- this tree and these soft areas.
abbrev pub passed : List Area → Option Path → Tree → List Area → Stored → Stored
passed during putting tree soft was =
    record { tree = tree; history = record { soft = soft; past = was.history.past ++ record { tree = was.tree; soft = during; putting = putting } ∷ [] } }

-- the tree was changed so
abbrev pub with_change : (Tree → Tree) → Stored → Stored
with_change change was = passed was.history.soft None (change was.tree) was.history.soft was

-- a file was put
abbrev pub with_put : Path → List ℕ → Bool → Stored → Stored
with_put path bytes exec was = passed was.history.soft (Some path) (with_node path (File bytes exec) was.tree) was.history.soft was

-- a file was being put, and isn't there
abbrev pub with_failed_put : Path → Stored → Stored
with_failed_put path was = passed was.history.soft (Some path) was.tree was.history.soft was

-- a child was given the area, and did nothing so far
abbrev pub with_area : Area → Stored → Stored
with_area area was = let soft = area ∷ was.history.soft in passed soft None was.tree soft was

-- the area is on the disk, with each part of it
abbrev pub with_settled : Area → Stored → Stored
with_settled area was = passed was.history.soft None was.tree (filter (λ other. not (is_settled_by area other)) was.history.soft) was

-- a child with the area made the edit, where it can be made
abbrev pub with_effect : Area → Stored → Option Edit → Stored
with_effect area was None = was
with_effect area was (Some edit) = cond (can_edit area was.tree edit.path) (with_change (edited edit.path edit.at) was) was

-- it made edits, in their order
abbrev pub with_effects : Area → Stored → List (Option Edit) → Stored
with_effects area = fold (with_effect area)
