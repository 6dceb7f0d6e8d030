-- How parts of an action are put together: nothing, a part where a test holds, one for each item, and one behind which it
-- goes on though it was refused. This project's own.
use Rattle.std.specs.Prelude.{Bool, cond, List, [], ◌∷◌, Option, Result}
use Rattle.kb_world.specs.Tree.{Tree}
use Rattle.kb_world.specs.State.{State}
use Rattle.kb_world.specs.Layout.{united}
use Rattle.kb_machine.specs.Outcome.{Action, print, last_of, joined, ◌then◌}
use Rattle.kb_world.specs.declared.refusal.Refusal.{Refusal}
use Rattle.kb_world.specs.declared.job.Report.{Report}
use Rattle.kb_world.specs.declared.roots.Roots.{Roots}
use Rattle.kb_world.specs.declared.stop.Stop.{Stop}
use Rattle.kb_machine.specs.Across.{DoesAcrossCrashes}

abbrev pub no_action : Action
no_action = print []

-- the action where the test holds of store and foreign tree together
abbrev pub when : (Tree → Bool) → Action → Action
when test action store foreign = cond (test (united store foreign)) (action store foreign) (no_action store foreign)

-- the action of each item, in turn
abbrev pub each : {T : Type 0} → (T → Action) → List T → Action
each action [] = no_action
each action (item ∷ items) = action item then each action items

-- Whoever does the rest from here does the whole.
pub record Leads (roots : Roots) (whole rest : Action) (old now : State) (before between : Report) : Type 0 where
  pub on : (new : State) (after : Report) (result : Result (Unit {0}) Stop)
      → DoesAcrossCrashes roots rest {T = Unit {0}} now new between after result → DoesAcrossCrashes roots whole {T = Unit {0}} old new before after result

-- The first part, and then the second, also where the first was refused: it is told the first's end.
abbrev pub gathers : Action → (Option Refusal → Action) → Action
gathers part next store foreign = let first = part store foreign in joined first (next first.end (last_of store first.after) first.foreign)
