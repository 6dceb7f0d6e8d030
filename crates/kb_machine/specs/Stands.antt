-- What stands, whatever a crash leaves now. This project's own.
use Rattle.std.specs.Prelude.{◌≡◌, ◌⊎◌, List, [], ◌∷◌, Option, None}
use Rattle.std.specs.Option.{ForSome}
use Rattle.kb_world.specs.Tree.{Tree, node_at}
use Rattle.kb_world.specs.Public.{intent_path}
use Rattle.kb_world.specs.Script.{Script}
use Rattle.kb_world.specs.Crash.{LeftOf}
use Rattle.kb_world.specs.State.{State}
use Rattle.kb_world.specs.declared.roots.Roots.{Roots}
use Rattle.kb_changes.specs.declared.change.Intent.{Intent}
use Rattle.kb_again.specs.Sparing.{AreSparing}
use Rattle.kb_machine.specs.Opens.{IsReady, Opens, own_areas}

-- a crash now may leave it
abbrev pub LeftNow : State → Tree → Type 0
LeftNow state image = LeftOf state.history.soft state.tree image

-- Whatever a crash leaves now opens the store. No soft area reaches the journal, what is staged, or what is public, but for
-- what the areas of the journal's own children reach.
pub record Stands (roots : Roots) (store : Tree) (state : State) : Type 0 where
  pub opens : (image : Tree) → LeftNow state image → Opens roots state.script image store
  pub spares : ForSome state.tree (λ tree. (ready : Tree) × (found : Option Intent) × IsReady roots state.script tree ready found × AreSparing roots (own_areas found) state.history.soft)

-- Nothing is under way: the store stands, and whatever a crash leaves now has no journal.
pub record Rests (roots : Roots) (store : Tree) (state : State) : Type 0 where
  pub no_journal : (image : Tree) → LeftNow state image → node_at image (intent_path roots) ≡ None
  pub stands : Stands roots store state

-- it is one of these
abbrev pub IsOneOf : Tree → List Tree → Type 0
IsOneOf store [] = ⊥
IsOneOf store (other ∷ others) = (store ≡ other) ⊎ IsOneOf store others

abbrev pub OpensOneOf : Roots → Script → List Tree → Tree → Type 0
OpensOneOf roots script stores image = (store : Tree) × IsOneOf store stores × Opens roots script image store

abbrev pub StandsOneOf : Roots → List Tree → State → Type 0
StandsOneOf roots stores state = (store : Tree) × IsOneOf store stores × Stands roots store state
