-- What an action does where a crash may come: each of its stores is whole. This project's own.
use Rattle.std.specs.Prelude.{◌≡◌, ℕ, true, false, List, [], ◌∷◌, None, Result, Ok, Err}
use Rattle.std.specs.Option.{ForSome}
use Rattle.kb_world.specs.Path.{Path}
use Rattle.kb_world.specs.Tree.{Tree}
use Rattle.kb_world.specs.Public.{IsNeverForeign, public_tree, foreign_tree}
use Rattle.kb_world.specs.Crash.{Adds}
use Rattle.kb_world.specs.State.{State}
use Rattle.kb_machine.specs.Outcome.{Outcome, Action, last_of}
use Rattle.kb_machine.specs.Does.{Does}
use Rattle.kb_world.specs.declared.child.Reply.{Reply}
use Rattle.kb_world.specs.declared.roots.Roots.{Roots}
use Rattle.kb_world.specs.declared.job.Report.{Report}
use Rattle.kb_world.specs.declared.stop.Stop.{Stop}
use Rattle.kb_world.specs.declared.stop.Stop.TheVariants.{Refused, Fault, NoMemory}
use Rattle.kb_machine.specs.Behind.{is_reached, LeavesBehindOf}
use Rattle.kb_machine.specs.Stands.{Rests, OpensOneOf, StandsOneOf}
use Rattle.kb_machine.specs.Commits.{Transacted}

-- How the call leaves the world: with its answer it rests with the last store; a fault and want of memory leave one of the
-- stores standing.
abbrev pub LeavesStanding : {T : Type 0} → Roots → Tree → List Tree → Result T Stop → State → Type 0
LeavesStanding roots store after (Ok value) new = Rests roots (last_of store after) new
LeavesStanding roots store after (Err (Refused why)) new = Rests roots (last_of store after) new
LeavesStanding roots store after (Err Fault) new = StandsOneOf roots (store ∷ after) new
LeavesStanding roots store after (Err NoMemory) new = StandsOneOf roots (store ∷ after) new

-- Whenever a crash comes, what it leaves opens one of the outcome's stores.
pub record Survives {T : Type 0} (roots : Roots) (store : Tree) (outcome : Outcome) (old new : State) (result : Result T Stop) : Type 0 where
  pub each_moment : Adds (OpensOneOf roots old.script (store ∷ outcome.after)) old.history new.history
  pub end : LeavesStanding roots store outcome.after result new

-- over a told tree of a world with these roots in which nothing is under way, the action survives a crash
abbrev pub SurvivesAs : {T : Type 0} → Roots → Action → State → State → Result T Stop → Type 0
SurvivesAs roots action old new result = ForSome old.tree (λ tree. old.roots ≡ roots → let store = public_tree roots tree in
    Rests roots store old → Survives roots store (action store (foreign_tree roots tree)) old new result)

-- over a told tree of a world with these roots, whatever it answers, it leaves no more behind than the action's outcome may
abbrev pub LeavesBehindAs : Roots → Action → State → State → Type 0
LeavesBehindAs roots action old new = ForSome old.tree (λ tree. old.roots ≡ roots →
    LeavesBehindOf roots (action (public_tree roots tree) (foreign_tree roots tree)) tree old new)

-- The one clause of an action that goes through the journal: the call does it, a crash leaves one of its stores, and it
-- leaves no more behind than it may.
pub record DoesAcrossCrashes (roots : Roots) (action : Action) {T : Type 0} (old new : State) (before after : Report) (result : Result T Stop) : Type 0 where
  pub does : Does roots action old new before after result
  pub survives : SurvivesAs roots action old new result
  pub behind : LeavesBehindAs roots action old new

-- the action is one transaction that makes this of the tree, with a line and what is said of its children's replies
pub record SaysSo (roots : Roots) (action : Action) (made : Tree → Transacted) (line : List ℕ) (texts : List Reply → List ℕ) (tree : Tree) : Type 0 where
  pub says : action (public_tree roots tree) (foreign_tree roots tree) ≡ record {
    after = public_tree roots (made tree).tree ∷ [];
    requests = (made tree).requests;
    out = line;
    err = texts (made tree).said;
    end = None;
    foreign = foreign_tree roots (made tree).tree;
  }
  -- what it may touch, but for the areas of its children, is never foreign
  pub spares : (path : Path) → (made tree).touched path ≡ true → is_reached (made tree).requests path ≡ false → IsNeverForeign roots path
