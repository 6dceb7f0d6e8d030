-- A child that an action runs for what it changes outside of the store, as the maker of an initrd is. This project's own.
use Rattle.std.specs.Prelude.{◌≡◌, true, false}
use Rattle.kb_world.specs.Layout.{united}
use Rattle.kb_world.specs.Path.{Path}
use Rattle.kb_world.specs.Public.{is_private, foreign_tree}
use Rattle.kb_world.specs.Script.{Script, answer_in, tree_after}
use Rattle.kb_world.specs.declared.child.Area.{Area}
use Rattle.kb_world.specs.declared.child.Reply.{Reply}
use Rattle.kb_world.specs.declared.child.Request.{Request}
use Rattle.kb_world.specs.declared.roots.Roots.{Roots}
use Rattle.kb_again.specs.Sparing.{reaches, counts}
use Rattle.kb_machine.specs.Outcome.{Action, joined, ran_child}

-- It reaches what is foreign alone: nothing private, and what it may leave at a path isn't public.
pub record IsForeignArea (roots : Roots) (area : Area) : Type 0 where
  pub unprivate : (path : Path) → reaches area path ≡ true → is_private roots path ≡ false
  pub uncounted : (path : Path) → reaches area path ≡ true → counts roots area path ≡ false

-- The child is run, and what is foreign is that after it.
abbrev pub child_only : Roots → Script → Request → Action
child_only roots script request store foreign = ran_child request (foreign_tree roots (tree_after roots script request (united store foreign)))

-- A child is run that changes what is foreign, and its reply says how it goes on.
abbrev pub runs_child : Roots → Script → Request → (Reply → Action) → Action
runs_child roots script request next store foreign =
    let first = child_only roots script request store foreign in
    joined first (next (answer_in roots script request (united store foreign)).reply store first.foreign)
