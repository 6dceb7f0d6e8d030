-- What a crash leaves of a world in memory, by a choice. This project's own.
use Rattle.std.specs.Prelude.{ℕ, ◌-◌, ◌/◌, ◌%◌, Bool, nat_eq, List, [], ◌++◌, true, cond, option_map, Option, Some, None, if◌then◌else◌}
use Rattle.std.specs.List.{list_any, slice_get, flat_map}
use Rattle.kb_world.specs.Path.{Path}
use Rattle.kb_world.specs.Tree.{Tree, node_at, edited}
use Rattle.kb_world.specs.Script.{Script, can_edit}
use Rattle.kb_world.specs.State.{State}
use Rattle.kb_world.specs.declared.child.Area.{Area}
use Rattle.kb_world.specs.declared.child.Effect.{Effect}
use Rattle.kb_world.specs.declared.child.Effect.TheVariants as effects
use Rattle.kb_world.specs.declared.tree.Node.{Node}
use Rattle.kb_world.specs.declared.tree.Node.TheVariants.{File}

-- the effects of the rows, in order
abbrev pub effects_of : Script → List Effect
effects_of script = flat_map (λ row. row.effects) script

-- the path that an effect changes
abbrev pub changed_path : Effect → Path
changed_path (effects.Write path bytes exec) = path
changed_path (effects.Copy from to) = to
changed_path (effects.Remove path) = path

-- the path that it copies, where it does; else the one that it changes
abbrev pub copied_path : Effect → Path
copied_path (effects.Write path bytes exec) = path
copied_path (effects.Copy from to) = from
copied_path (effects.Remove path) = path

-- the paths that effects name, each effect twice
abbrev pub named_path : Script → ℕ → Option Path
named_path script n = option_map (if nat_eq (n % 2) 0 then changed_path else copied_path) (slice_get (effects_of script) (n / 2))

-- the file that an effect writes; where it writes none, what stood there
abbrev pub file_by : Option Effect → Option Node → Option Node
file_by (Some (effects.Write path bytes exec)) was = Some (File bytes exec)
file_by (Some (effects.Copy from to)) was = was
file_by (Some (effects.Remove path)) was = was
file_by None was = was

-- what is there after the crash: 0 is what stood there, 1 nothing, and from 2 on the files that effects write
abbrev pub lost_node : Script → ℕ → Option Node → Option Node
lost_node script content was = if nat_eq content 0 then was else if nat_eq content 1 then None else file_by (slice_get (effects_of script) (content - 2)) was

-- the path is soft, no directory stands there, and its parent is one
abbrev pub can_lose : List Area → Tree → Path → Bool
can_lose soft tree path = list_any (λ area. can_edit area tree path) soft

-- the tree with this at the path, where the path can be lost
abbrev pub lost_at : List Area → Option Path → (Option Node → Option Node) → Tree → Tree
lost_at soft None left tree = tree
lost_at soft (Some path) left tree = cond (can_lose soft tree path) (edited path (left (node_at tree path)) tree) tree

-- What a crash leaves: the choice's lower 32 binary digits name a path, and the others what is there afterwards.
abbrev pub lost : Script → List Area → ℕ → Tree → Tree
lost script soft choice tree = lost_at soft (named_path script (choice % 4294967296)) (lost_node script (choice / 4294967296)) tree

-- the world after a crash: nothing is soft, nothing was before, and no fault is due
abbrev pub lost_state : ℕ → State → State
lost_state choice old = record old { tree = option_map (lost old.script old.history.soft choice) old.tree; steady = true; history = record { soft = []; past = [] } }
