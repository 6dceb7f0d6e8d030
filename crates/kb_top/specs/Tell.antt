-- How a report is written to the two sinks. This project's own.
use Rattle.std.specs.Prelude.{◌≡◌, ◌⊎◌, ℕ, ◌≤◌, List, ◌++◌, Result, Ok, Err, IsTrue}
use Rattle.kb_world.specs.State.{Rose}
use Rattle.kb_world.specs.SinkState.{SinkState}
use Rattle.kb_world.specs.Refusal.{message_of, fault_line, no_memory_line}
use Rattle.kb_world.specs.declared.job.Report.{Report}
use Rattle.kb_world.specs.declared.refusal.Refusal.{Refusal}
use Rattle.kb_world.specs.declared.sink.SinkError.{SinkError}
use Rattle.kb_world.specs.declared.sink.SinkError.TheVariants as sink_error
use Rattle.kb_world.specs.declared.stop.Stop.{Stop}
use Rattle.kb_world.specs.declared.stop.Stop.TheVariants.{Refused, Fault, NoMemory}
use Rattle.kb_top.specs.declared.end.End.{End}
use Rattle.kb_top.specs.declared.end.End.TheVariants as end
use Rattle.kb_top.specs.Run.{WroteFront, Wrote, WroteNothing}

pub record Sinks : Type 0 where
  pub out : SinkState
  pub err : SinkState

-- no count falls, and steady sinks stay steady
pub record SinksGoOn (old new : Sinks) : Type 0 where
  pub out_later : old.out.faults ≤ new.out.faults
  pub err_later : old.err.faults ≤ new.err.faults
  pub out_steady : IsTrue old.out.steady → IsTrue new.out.steady
  pub err_steady : IsTrue old.err.steady → IsTrue new.err.steady

-- a sink failed: one of the counts rose, and one of the sinks wasn't steady
pub record SinkFailed (old new : Sinks) : Type 0 where
  pub rose : Rose old.out.faults new.out.faults ⊎ Rose old.err.faults new.err.faults
  pub unsteady : IsTrue old.out.steady → IsTrue old.err.steady → ⊥

-- both texts, whole
pub record WroteBoth (report : Report) (old new : Sinks) : Type 0 where
  pub out : Wrote report.out old.out new.out
  pub err : Wrote report.err old.err new.err

-- a front of them, the first whole before the second was begun
pub record WroteFronts (report : Report) (old new : Sinks) : Type 0 where
  pub out : WroteFront report.out old.out new.out
  pub err : WroteFront report.err old.err new.err
  pub in_order : Wrote report.out old.out new.out ⊎ WroteNothing old.err new.err
  pub failed : SinkFailed old new

-- the first or nothing
pub record WroteFirst (report : Report) (old new : Sinks) : Type 0 where
  pub out : WroteNothing old.out new.out ⊎ Wrote report.out old.out new.out
  pub err : WroteNothing old.err new.err

abbrev pub DeliversAs : Report → Sinks → Sinks → Result (Unit {0}) SinkError → Type 0
DeliversAs report old new (Ok value) = WroteBoth report old new
DeliversAs report old new (Err sink_error.Failed) = WroteFronts report old new
DeliversAs report old new (Err sink_error.NoMemory) = WroteFirst report old new

pub record Delivers (report : Report) (old new : Sinks) (result : Result (Unit {0}) SinkError) : Type 0 where
  pub texts : DeliversAs report old new result
  pub go_on : SinksGoOn old new

-- a front of a fixed line on standard error, whatever its sink answers
pub record SaysFront (line : List ℕ) (old new : SinkState) : Type 0 where
  pub front : WroteFront line old new
  pub later : old.faults ≤ new.faults
  pub steady : IsTrue old.steady → IsTrue new.steady

-- at most the first text, and a front of the fixed line
pub record GaveUp (report : Report) (old new : Sinks) : Type 0 where
  pub out : WroteNothing old.out new.out ⊎ Wrote report.out old.out new.out
  pub err : WroteFront no_memory_line old.err new.err

-- how it ends once the command has its answer
abbrev pub FinishesAs : End → Report → Sinks → Sinks → End → Type 0
FinishesAs due report old new end.Done = (due ≡ end.Done) × WroteBoth report old new
FinishesAs due report old new (end.Refused why) = (due ≡ end.Refused why) × WroteBoth report old new
FinishesAs due report old new end.SinkFault = WroteFronts report old new
FinishesAs due report old new end.NoMemory = GaveUp report old new
FinishesAs due report old new end.Fault = ⊥
FinishesAs due report old new end.BadRoot = ⊥
FinishesAs due report old new end.BadBoot = ⊥

pub record Finishes (due : End) (report : Report) (old new : Sinks) (result : End) : Type 0 where
  pub ends : FinishesAs due report old new result
  pub go_on : SinksGoOn old new

-- an answer: done, or refused
abbrev pub IsCommandAnswer : End → Type 0
IsCommandAnswer end.Done = Unit {0}
IsCommandAnswer (end.Refused why) = Unit {0}
IsCommandAnswer end.Fault = ⊥
IsCommandAnswer end.NoMemory = ⊥
IsCommandAnswer end.SinkFault = ⊥
IsCommandAnswer end.BadRoot = ⊥
IsCommandAnswer end.BadBoot = ⊥

-- the report with the refusal's line
abbrev pub with_message : Report → Refusal → Report
with_message report why = record { out = report.out; err = report.err ++ message_of why }

-- what is written for an answer of the command, and how it ends
abbrev pub TellsAs : Result (Unit {0}) Stop → Report → Sinks → Sinks → End → Type 0
TellsAs (Ok value) report old new result = FinishesAs end.Done report old new result
TellsAs (Err (Refused why)) report old new result = FinishesAs (end.Refused why) (with_message report why) old new result
TellsAs (Err Fault) report old new result = (result ≡ end.Fault) × WroteNothing old.out new.out × WroteFront fault_line old.err new.err
TellsAs (Err NoMemory) report old new result = (result ≡ end.NoMemory) × WroteNothing old.out new.out × WroteFront no_memory_line old.err new.err

pub record Tells (answer : Result (Unit {0}) Stop) (report : Report) (old new : Sinks) (result : End) : Type 0 where
  pub ends : TellsAs answer report old new result
  pub go_on : SinksGoOn old new
