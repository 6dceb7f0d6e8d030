-- What a child of a script leaves for which memory ran out. This project's own.
use Rattle.std.specs.Prelude.{◌≡◌, ℕ, List, Option, take, map}
use Rattle.kb_world.specs.Tree.{Tree}
use Rattle.kb_world.specs.Script.{Script, answer_in, edit_of}
use Rattle.kb_world.specs.View.{view_of}
use Rattle.kb_world.specs.declared.roots.Roots.{Roots}
use Rattle.kb_world.specs.declared.tree.Edit.{Edit}
use Rattle.kb_world.specs.declared.child.Request.{Request}
use Rattle.kb_disk.specs.Stored.{Stored, with_effects}

-- what the effects put and take away that the script gives the request over the tree
abbrev pub edits_in : Roots → Script → Request → Tree → List (Option Edit)
edits_in roots script request tree = map (edit_of (view_of roots request tree)) (answer_in roots script request tree).effects

-- the first so many of its effects are done
pub record IsBegun (roots : Roots) (script : Script) (request : Request) (was now : Stored) : Type 0 where
  pub count : ℕ
  pub done : now ≡ with_effects request.area was (take count (edits_in roots script request was.tree))
