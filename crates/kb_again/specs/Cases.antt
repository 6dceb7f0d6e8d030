-- Changes, areas and trees of which the laws speak: there are some. This project's own.
use Rattle.std.specs.Prelude.{◌≡◌, ◌≢◌, true, List, length}
use Rattle.kb_world.specs.Roots.{AreApart}
use Rattle.kb_world.specs.Script.{Script}
use Rattle.kb_world.specs.Tree.{Tree, IsFormed}
use Rattle.kb_world.specs.declared.child.Area.{Area}
use Rattle.kb_world.specs.declared.roots.Roots.{Roots}
use Rattle.kb_changes.specs.Groups.{drops_in, wipes_in, second_drop_dirs, dirs_in, targets_in, runs_in}
use Rattle.kb_changes.specs.Valid.{is_valid}
use Rattle.kb_changes.specs.declared.change.Change.{Change}
use Rattle.kb_again.specs.Sparing.{AreSparing, areas_of}
use Rattle.kb_again.specs.Within.{IsBetween}

-- all that doing again has as its premise, with changes of each kind, and an image that isn't the tree
pub record IsCase (roots : Roots) (script : Script) (changes : List Change) (soft : List Area) (tree image : Tree) : Type 0 where
  pub apart : AreApart roots
  pub valid : is_valid roots changes ≡ true
  pub formed : IsFormed tree
  pub sparing : AreSparing roots (areas_of changes) soft
  pub between : IsBetween roots script changes soft tree image
  pub differs : image ≢ tree
  pub drops : length (drops_in changes) ≡ 11
  pub wipes : length (wipes_in changes) ≡ 1
  pub dirs : length (dirs_in changes) ≡ 1
  pub puts : length (targets_in changes) ≡ 1
  pub drop_dirs : length (second_drop_dirs changes) ≡ 2
  pub runs : length (runs_in changes) ≡ 1
