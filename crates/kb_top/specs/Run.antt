-- What the top call does to the world and to its two sinks. This project's own.
use Rattle.std.specs.Prelude.{◌≡◌, ◌⊎◌, ℕ, ◌≤◌, List, ◌∷◌, ◌++◌, take, Option, Some, None, is_some, IsTrue, Err}
use Rattle.kb_world.specs.Tree.{Tree}
use Rattle.kb_world.specs.Public.{intent_path, public_tree}
use Rattle.kb_world.specs.State.{State, Rose, Lasts, LeftSince, Unchanged}
use Rattle.kb_world.specs.SinkState.{SinkState, grown}
use Rattle.kb_world.specs.Refusal.{message_of, number_of, fault_line, no_memory_line}
use Rattle.kb_machine.specs.Outcome.{Outcome, last_of}
use Rattle.kb_machine.specs.Does.{IsTreeOf}
use Rattle.kb_world.specs.declared.roots.Roots.{Roots}
use Rattle.kb_world.specs.declared.job.Host.{Host}
use Rattle.kb_world.specs.declared.refusal.Refusal.{Refusal}
use Rattle.kb_world.specs.declared.refusal.Refusal.TheVariants as refusal
use Rattle.kb_machine.specs.Stands.{Stands, Rests, OpensOneOf, StandsOneOf}
use Rattle.kb_words.specs.Reading.{reading}
use Rattle.kb_words.specs.Words.{Word}
use Rattle.kb_top.specs.declared.end.End.{End}
use Rattle.kb_top.specs.declared.end.End.TheVariants as end
use Rattle.kb_top.specs.Machine.{outcome_of, damaged_outcome}
use Rattle.kb_top.specs.Serve.{ForReady, ForDamaged, LeavesBehindAll}

-- the exit status
abbrev pub code_of : End → ℕ
code_of end.Done = 0
code_of (end.Refused why) = number_of why
code_of end.Fault = 70
code_of end.NoMemory = 71
code_of end.SinkFault = 74
code_of end.BadRoot = 72
code_of end.BadBoot = 73

-- the world and the two sinks
pub record Outside : Type 0 where
  pub world : State
  pub out : SinkState
  pub err : SinkState

-- the text for standard error: where the command is refused it ends with the refusal's line
abbrev pub with_line : List ℕ → Option Refusal → List ℕ
with_line text None = text
with_line text (Some why) = text ++ message_of why

abbrev pub err_text : Outcome → List ℕ
err_text outcome = with_line outcome.err outcome.end

-- a front of the text was written, and nothing else
abbrev pub WroteFront : List ℕ → SinkState → SinkState → Type 0
WroteFront text old new = (n : ℕ) × (new.written ≡ grown (take n text) old.written)

abbrev pub Wrote : List ℕ → SinkState → SinkState → Type 0
Wrote text old new = new.written ≡ grown text old.written

abbrev pub WroteNothing : SinkState → SinkState → Type 0
WroteNothing old new = new.written ≡ old.written

-- the tree that is told now has the last store of the outcome
abbrev pub IsDone : Roots → Tree → Outcome → Option Tree → Type 0
IsDone roots store outcome now = (tree : Tree) × (now ≡ Some tree) × IsTreeOf roots (last_of store outcome.after) outcome.foreign tree

-- The command's answer: the machine's end, its store, exactly its children, and exactly its texts.
pub record IsAnswered (roots : Roots) (store : Tree) (outcome : Outcome) (due : Option Refusal) (old new : Outside) : Type 0 where
  pub ended : outcome.end ≡ due
  pub tree : IsDone roots store outcome new.world.tree
  pub ran : new.world.ran ≡ old.world.ran ++ outcome.requests
  pub out : Wrote outcome.out old.out new.out
  pub err : Wrote (err_text outcome) old.err new.err

-- A sink failed: the store and the children are the machine's, and of its texts a front was written, the one for standard output whole
-- before the other was begun.
pub record IsCutShort (roots : Roots) (store : Tree) (outcome : Outcome) (old new : Outside) : Type 0 where
  pub tree : IsDone roots store outcome new.world.tree
  pub ran : new.world.ran ≡ old.world.ran ++ outcome.requests
  pub out : WroteFront outcome.out old.out new.out
  pub err : WroteFront (err_text outcome) old.err new.err
  pub in_order : Wrote outcome.out old.out new.out ⊎ WroteNothing old.err new.err

-- Memory ran out: at most the text for standard output was written, whole, and a front of the fixed line.
pub record IsGivenUp (outcome : Outcome) (old new : Outside) : Type 0 where
  pub out : WroteNothing old.out new.out ⊎ Wrote outcome.out old.out new.out
  pub err : WroteFront no_memory_line old.err new.err

abbrev pub IsEndOf : Roots → Tree → Outcome → Outside → Outside → End → Type 0
IsEndOf roots store outcome old new end.Done = IsAnswered roots store outcome None old new
IsEndOf roots store outcome old new (end.Refused why) = IsAnswered roots store outcome (Some why) old new
IsEndOf roots store outcome old new end.SinkFault = IsCutShort roots store outcome old new
IsEndOf roots store outcome old new end.NoMemory = IsGivenUp outcome old new
IsEndOf roots store outcome old new end.Fault = Unit {0}
IsEndOf roots store outcome old new end.BadRoot = ⊥
IsEndOf roots store outcome old new end.BadBoot = ⊥

-- How the call leaves the world: with its answer, and also where a sink failed, nothing is under way, and the store is the last one;
-- a fault and want of memory leave one of the stores standing.
abbrev pub LeavesAtEnd : Roots → Tree → List Tree → State → End → Type 0
LeavesAtEnd roots store after new end.Done = Rests roots (last_of store after) new
LeavesAtEnd roots store after new (end.Refused why) = Rests roots (last_of store after) new
LeavesAtEnd roots store after new end.SinkFault = Rests roots (last_of store after) new
LeavesAtEnd roots store after new end.NoMemory = StandsOneOf roots (store ∷ after) new
LeavesAtEnd roots store after new end.Fault = StandsOneOf roots (store ∷ after) new
LeavesAtEnd roots store after new end.BadRoot = ⊥
LeavesAtEnd roots store after new end.BadBoot = ⊥

-- where the words are no command line: they are refused so, or what stands at the journal's path is, or the call gave up
abbrev pub EndsUnread : Roots → Refusal → End → Type 0
EndsUnread roots why end.Done = ⊥
EndsUnread roots why (end.Refused due) = (due ≡ why) ⊎ (due ≡ refusal.Damaged (intent_path roots))
EndsUnread roots why end.SinkFault = Unit {0}
EndsUnread roots why end.NoMemory = Unit {0}
EndsUnread roots why end.Fault = Unit {0}
EndsUnread roots why end.BadRoot = ⊥
EndsUnread roots why end.BadBoot = ⊥

-- Whatever a crash since the start may leave opens one of the stores.
pub record RunSurvives (roots : Roots) (store : Tree) (outcome : Outcome) (old new : State) (result : End) : Type 0 where
  pub opens : (image : Tree) → LeftSince old new image → OpensOneOf roots old.script (store ∷ outcome.after) image
  pub leaves : LeavesAtEnd roots store outcome.after new result

-- The outside failed: the count says so, nothing went to standard output, and a front of the fixed line to the other.
pub record IsFaulted (old new : Outside) : Type 0 where
  pub rose : Rose old.world.faults new.world.faults
  pub out : WroteNothing old.out new.out
  pub err : WroteFront fault_line old.err new.err

-- a steady world stays so, and gives no fault where it tells its tree
pub record WorldKeeps (old new : Outside) (result : End) : Type 0 where
  pub steady : IsTrue old.world.steady → IsTrue new.world.steady
  pub faultless : IsTrue (is_some old.world.tree) → IsTrue old.world.steady → result ≡ end.Fault → ⊥

-- a steady sink stays so, and where both are steady none fails
pub record SinksKeep (old new : Outside) (result : End) : Type 0 where
  pub out : IsTrue old.out.steady → IsTrue new.out.steady
  pub err : IsTrue old.err.steady → IsTrue new.err.steady
  pub faultless : IsTrue old.out.steady → IsTrue old.err.steady → result ≡ end.SinkFault → ⊥

-- no count of faults falls
pub record CountsStay (old new : Outside) : Type 0 where
  pub world : old.world.faults ≤ new.world.faults
  pub out : old.out.faults ≤ new.out.faults
  pub err : old.err.faults ≤ new.err.faults

-- The clause of the top call.
pub record RunsCommand (host : Host) (words : List Word) (old new : Outside) (result : End) : Type 0 where
  -- over a told tree it ends its journal, and equals the command machine from there on
  pub ends : ForReady host.roots old.world (λ tree ready found.
      IsEndOf host.roots (public_tree host.roots ready) (outcome_of host old.world.script words tree ready found) old new result)
  -- where what stands at the journal's path is damaged it is refused so, and whatever it answers nothing is changed
  pub refused : ForDamaged host.roots old.world (λ tree. IsEndOf host.roots (public_tree host.roots tree) (damaged_outcome host.roots tree) old new result)
  pub damaged : ForDamaged host.roots old.world (λ tree. Unchanged old.world new.world)
  -- where a store stands at the start, a crash at any moment leaves it or one of the machine's
  pub survives : ForReady host.roots old.world (λ tree ready found. (store : Tree) → Stands host.roots store old.world
      → RunSurvives host.roots store (outcome_of host old.world.script words tree ready found) old.world new.world result)
  -- whatever it answers, it leaves no more behind than the machine's outcome may, and the journal that was found
  pub behind : ForReady host.roots old.world (λ tree ready found.
      LeavesBehindAll host.roots (outcome_of host old.world.script words tree ready found) found tree old.world new.world)
  -- also over a world that tells nothing words that are no command line do nothing but be refused
  pub unread : (why : Refusal) → reading words ≡ Err why → EndsUnread host.roots why result
  -- it ends with a fault only where the outside's count rose, and says only the fixed line then
  pub fault : result ≡ end.Fault → IsFaulted old new
  -- and with a sink's fault only where a sink's count rose
  pub sink_fault : result ≡ end.SinkFault → Rose old.out.faults new.out.faults ⊎ Rose old.err.faults new.err.faults
  -- a world and sinks that are steady give no fault, each by itself
  pub world_keeps : WorldKeeps old new result
  pub sinks_keep : SinksKeep old new result
  -- the setting is none of its concern
  pub no_setting : (result ≡ end.BadRoot → ⊥) × (result ≡ end.BadBoot → ⊥)
  pub counts : CountsStay old new
  -- the world's roots, its script and whether it tells its tree stay
  pub lasts : Lasts old.world new.world
