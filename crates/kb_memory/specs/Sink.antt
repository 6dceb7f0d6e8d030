-- What a sink in memory means. This project's own.
use Rattle.std.specs.Prelude.{◌≡◌, ◌↔◌, List, ℕ, [], true, Some, Result, IsErrOf, IsTrue}
use Rattle.kb_world.specs.SinkState.{SinkState}
use Rattle.kb_world.specs.declared.sink.SinkError.{SinkError}
use Rattle.kb_world.specs.declared.sink.SinkError.TheVariants.{Failed}
use Rattle.kb_memory.specs.Plan.{Plan, is_due, is_over, after_call, risen}
use Rattle.kb_memory.specs.declared.sink.MemorySink.{MemorySink}

-- what was written to it
abbrev pub written_of : MemorySink → List ℕ
written_of sink = sink.written

-- the writes to it that are to fail
abbrev pub sink_plan_of : MemorySink → Plan
sink_plan_of sink = sink.failures.due.items

-- it is steady where no write that is still to come is to fail
abbrev pub sink_state_of : MemorySink → SinkState
sink_state_of sink = record {
  written = Some (written_of sink);
  faults = sink.failures.faults;
  steady = is_over (sink_plan_of sink);
}

-- the state of a new sink
abbrev pub new_sink_state : SinkState
new_sink_state = record { written = Some []; faults = 0; steady = true }

-- A write fails exactly where it is due to, and then it appends nothing. Each write counts as one.
pub record WriteFollowsPlan {T : Type 0} (old new : MemorySink) (result : Result T SinkError) : Type 0 where
  pub failed : IsErrOf result Failed ↔ IsTrue (is_due (sink_plan_of old))
  pub faults : (sink_state_of new).faults ≡ risen (is_due (sink_plan_of old)) (sink_state_of old).faults
  pub plan : sink_plan_of new ≡ after_call (sink_plan_of old)
  pub undone : IsErrOf result Failed → written_of new ≡ written_of old
