-- What a call above the world does, told by definitions over trees. This project's own.
use Rattle.std.specs.Prelude.{◌≡◌, ◌⊎◌, [], ◌∷◌, ◌++◌, IfOk, Option, Some, None, Result, Ok, Err, IsErrOf}
use Rattle.std.specs.Option.{ForSome}
use Rattle.kb_world.specs.Tree.{Tree}
use Rattle.kb_world.specs.Public.{public_tree, foreign_tree}
use Rattle.kb_world.specs.Crash.{LeftOf, Adds}
use Rattle.kb_world.specs.State.{State, HasCause, Lasts, IsGiven}
use Rattle.kb_machine.specs.Behind.{RanFront}
use Rattle.kb_machine.specs.Outcome.{Outcome, Action, last_of}
use Rattle.kb_world.specs.Script.{answer_in}
use Rattle.kb_world.specs.declared.child.Area.TheVariants as area
use Rattle.kb_world.specs.declared.child.Reply.{Reply}
use Rattle.kb_world.specs.declared.child.Request.{Request}
use Rattle.kb_world.specs.declared.roots.Roots.{Roots}
use Rattle.kb_world.specs.declared.job.Report.{Report}
use Rattle.kb_world.specs.declared.refusal.Refusal.{Refusal}
use Rattle.kb_world.specs.declared.stop.Stop.{Stop}
use Rattle.kb_world.specs.declared.stop.Stop.TheVariants.{Refused, Fault, NoMemory}

-- a child was run, which changed nothing, and its reply is the script's
pub record IsAsked (request : Request) (old new : State) (reply : Reply) (tree : Tree) : Type 0 where
  pub said : reply ≡ (answer_in old.roots old.script request tree).reply
  pub same : new.tree ≡ Some tree
  pub ran : new.ran ≡ old.ran ++ request ∷ []

-- A child that may change nothing is run. The call is never refused.
pub record Asks (request : Request) (old new : State) (result : Result Reply Stop) : Type 0 where
  pub asked : IfOk result (λ reply. ForSome old.tree (IsAsked request old new reply))
  pub tree : new.tree ≡ old.tree
  -- whatever it answers, it was run or not
  pub ran : ForSome old.tree (λ tree. RanFront (request ∷ []) old new)
  pub soft : (new.history.soft ≡ old.history.soft) ⊎ IsGiven area.Nothing old new
  pub moments : Adds (LeftOf (area.Nothing ∷ old.history.soft) old.tree) old.history new.history
  pub unrefused : (refusal : Refusal) → IsErrOf result (Refused refusal) → ⊥
  pub lasts : Lasts old new
  pub cause : HasCause Fault old new result

-- the tree has this store, and this foreign tree
pub record IsTreeOf (roots : Roots) (store foreign tree : Tree) : Type 0 where
  pub public_part : public_tree roots tree ≡ store
  pub foreign_part : foreign_tree roots tree ≡ foreign

-- The outcome came about: the tree is that of its last store, its children ran, and its texts were added to the report.
pub record CameAbout (roots : Roots) (store : Tree) (outcome : Outcome) (due : Option Refusal) (old new : State) (before after : Report) : Type 0 where
  pub end : outcome.end ≡ due
  pub tree : (tree : Tree) × (new.tree ≡ Some tree) × IsTreeOf roots (last_of store outcome.after) outcome.foreign tree
  pub ran : new.ran ≡ old.ran ++ outcome.requests
  pub out : after.out ≡ before.out ++ outcome.out
  pub err : after.err ≡ before.err ++ outcome.err

-- where the call ends with an answer, the outcome came about
abbrev pub Answers : {T : Type 0} → Roots → Tree → Outcome → Result T Stop → State → State → Report → Report → Type 0
Answers roots store outcome (Ok value) old new before after = CameAbout roots store outcome None old new before after
Answers roots store outcome (Err (Refused refusal)) old new before after = CameAbout roots store outcome (Some refusal) old new before after
Answers roots store outcome (Err Fault) old new before after = Unit {0}
Answers roots store outcome (Err NoMemory) old new before after = Unit {0}

-- The one clause of an action: over a told tree of a world with these roots the call does it.
pub record Does (roots : Roots) (action : Action) {T : Type 0} (old new : State) (before after : Report) (result : Result T Stop) : Type 0 where
  pub answers : ForSome old.tree (λ tree. old.roots ≡ roots → let store = public_tree roots tree in Answers roots store (action store (foreign_tree roots tree)) result old new before after)
  pub lasts : Lasts old new
  pub cause : HasCause Fault old new result
