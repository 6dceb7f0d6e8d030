-- Work that an action does aside before it goes on, as a build does. This project's own.
use Rattle.std.specs.Prelude.{◌≡◌, ℕ, List, [], ◌++◌, Option, Some, None, Result, Ok, Err}
use Rattle.std.specs.Option.{ForSome}
use Rattle.kb_world.specs.Tree.{Tree}
use Rattle.kb_world.specs.Public.{public_tree, foreign_tree}
use Rattle.kb_world.specs.State.{State, HasCause, Lasts}
use Rattle.kb_machine.specs.Outcome.{Outcome, Action, joined}
use Rattle.kb_world.specs.declared.child.Request.{Request}
use Rattle.kb_world.specs.declared.roots.Roots.{Roots}
use Rattle.kb_world.specs.declared.job.Report.{Report}
use Rattle.kb_world.specs.declared.refusal.Refusal.{Refusal}
use Rattle.kb_world.specs.declared.stop.Stop.{Stop}
use Rattle.kb_world.specs.declared.stop.Stop.TheVariants.{Refused, Fault, NoMemory}
use Rattle.kb_machine.specs.Aside.{WorksAside}
use Rattle.kb_machine.specs.Behind.{RanFront}

-- the children that ran, what is said of them, and the value or the refusal
pub record Work (T : Type 0) : Type 0 where
  pub requests : List Request
  pub err : List ℕ
  pub result : Result T Refusal

-- the outcome of work alone
abbrev pub work_only : List Request → List ℕ → Option Refusal → Tree → Outcome
work_only requests err due foreign = record { after = []; requests = requests; out = []; err = err; end = due; foreign = foreign }

abbrev pub by_result : {T : Type 0} → Result T Refusal → List Request → List ℕ → (T → Outcome) → Tree → Outcome
by_result (Ok value) requests err next foreign = joined (work_only requests err None foreign) (next value)
by_result (Err why) requests err next foreign = work_only requests err (Some why) foreign

-- work is done, and its value says how it goes on
abbrev pub works : {T : Type 0} → (Tree → Tree → Work T) → (T → Action) → Action
works work next store foreign = let w = work store foreign in by_result w.result w.requests w.err (λ value. next value store foreign) foreign

-- the work came about
pub record IsWorked {T : Type 0} (work : Work T) (right : Result T Refusal) (old new : State) (before after : Report) : Type 0 where
  pub result : work.result ≡ right
  pub ran : new.ran ≡ old.ran ++ work.requests
  pub out : after.out ≡ before.out
  pub err : after.err ≡ before.err ++ work.err

abbrev pub WorkAnswers : {T : Type 0} → Work T → Result T Stop → State → State → Report → Report → Type 0
WorkAnswers work (Ok value) old new before after = IsWorked work (Ok value) old new before after
WorkAnswers work (Err (Refused why)) old new before after = IsWorked work (Err why) old new before after
WorkAnswers work (Err Fault) old new before after = Unit {0}
WorkAnswers work (Err NoMemory) old new before after = Unit {0}

-- The call does the work, and changes what is aside alone.
pub record Works {T : Type 0} (roots : Roots) (work : Tree → Tree → Work T) (old new : State) (before after : Report) (result : Result T Stop) : Type 0 where
  pub answers : ForSome old.tree (λ tree. old.roots ≡ roots → WorkAnswers (work (public_tree roots tree) (foreign_tree roots tree)) result old new before after)
  pub ran : ForSome old.tree (λ tree. old.roots ≡ roots → RanFront (work (public_tree roots tree) (foreign_tree roots tree)).requests old new)
  pub aside : WorksAside roots old new
  pub lasts : Lasts old new
  pub cause : HasCause Fault old new result
