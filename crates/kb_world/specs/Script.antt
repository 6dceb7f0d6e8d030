-- What a child program answers and does: a function of script, request and view. This project's own.
use Rattle.std.specs.Prelude.{Bool, ◌&&◌, not, cond, List, [], Option, Some, None, bytes_eq, nat_eq, map}
use Rattle.std.specs.List.{list_all, find, fold}
use Rattle.std.specs.Cmp.Lexicographic.{pointwise}
use Rattle.kb_world.specs.Path.{Path, parent}
use Rattle.kb_world.specs.Tree.{Tree, node_at, is_dir, is_file, edited}
use Rattle.kb_world.specs.Area.{holds}
use Rattle.kb_world.specs.View.{view_of}
use Rattle.kb_world.specs.declared.roots.Roots.{Roots}
use Rattle.kb_world.specs.declared.tree.Edit.{Edit}
use Rattle.kb_world.specs.declared.tree.Node.{Node}
use Rattle.kb_world.specs.declared.tree.Node.TheVariants as node
use Rattle.kb_world.specs.declared.child.Area.{Area}
use Rattle.kb_world.specs.declared.child.Request.{Request}
use Rattle.kb_world.specs.declared.child.Reply.{Reply}
use Rattle.kb_world.specs.declared.child.Effect.{Effect}
use Rattle.kb_world.specs.declared.child.Effect.TheVariants as effects
use Rattle.kb_world.specs.declared.child.EffectRow.{EffectRow}

abbrev pub Script : Type 0
Script = List EffectRow

-- what a child says, and what it does in order
pub record Answer : Type 0 where
  pub reply : Reply
  pub effects : List Effect

-- the row is for this program and these arguments, and each path that it needs is a file of the view
abbrev pub fits : Request → Tree → EffectRow → Bool
fits request view row =
    bytes_eq row.program request.program && pointwise (pointwise nat_eq) row.args request.args && list_all (λ path. is_file (node_at view path)) row.needs

-- what a row gives; where there is none, the code of a program that isn't there
abbrev pub answer_of : Option EffectRow → Answer
answer_of (Some row) = record { reply = record { code = row.code; out = row.out; err = row.err }; effects = row.effects }
answer_of None = record { reply = record { code = 127; out = []; err = [] }; effects = [] }

-- the answer of the first row that fits
abbrev pub answer : Script → Request → Tree → Answer
answer script request view = answer_of (find (fits request view) script)

abbrev pub copied : Option Node → Path → Option Edit
copied (Some (node.File bytes exec)) to = Some (record { path = to; at = Some (node.File bytes exec) })
copied (Some node.Dir) to = None
copied (Some (node.Link text)) to = None
copied None to = None

-- A copy takes the bytes and the execute bit of the view; of what is no file there it does nothing.
abbrev pub edit_of : Tree → Effect → Option Edit
edit_of view (effects.Write path bytes exec) = Some (record { path = path; at = Some (node.File bytes exec) })
edit_of view (effects.Copy from to) = copied (node_at view from) to
edit_of view (effects.Remove path) = Some (record { path = path; at = None })

-- an edit is done in the place of nothing, a file or a link, in a directory, within the area
abbrev pub can_edit : Area → Tree → Path → Bool
can_edit area tree path = holds area tree path && not (is_dir (node_at tree path)) && is_dir (node_at tree (parent path))

-- the tree with the edit, where it can be done
abbrev pub with_edit : Area → Tree → Option Edit → Tree
with_edit area tree None = tree
with_edit area tree (Some edit) = cond (can_edit area tree edit.path) (edited edit.path edit.at tree) tree

-- the tree after edits, in their order
abbrev pub after_edits : Area → Tree → List (Option Edit) → Tree
after_edits area = fold (with_edit area)

-- The tree after effects, in their order. What a copy takes is what the child saw before it did anything.
abbrev pub after_effects : Area → Tree → Tree → List Effect → Tree
after_effects area view tree effects = after_edits area tree (map (edit_of view) effects)

-- the answer to a request over a tree, and the tree after it
abbrev pub answer_in : Roots → Script → Request → Tree → Answer
answer_in roots script request tree = answer script request (view_of roots request tree)

unfoldable pub tree_after : Roots → Script → Request → Tree → Tree
tree_after roots script request tree = after_effects request.area (view_of roots request tree) tree (answer_in roots script request tree).effects
