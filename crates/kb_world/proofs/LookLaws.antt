-- Calls that only look, one after another.
use Rattle.std.proofs.Common.{◌≤◌, arith}
use Rattle.std.specs.Prelude.{IsTrue, Result}
use Rattle.kb_world.specs.State.{State, Looks, Unchanged}
use Rattle.kb_world.specs.declared.world.WorldError.{WorldError}
use Rattle.kb_world.proofs.CallLaws.{unchanged_none, unchanged_then}

-- since then nothing was done but looks that succeeded
pub record Quiet (old new : State) : Type 0 where
  pub unchanged : Unchanged old new
  pub later : old.faults ≤ new.faults
  pub steady : IsTrue old.steady → IsTrue new.steady

pub quiet_none : (state : State) → Quiet state state
quiet_none state = record { unchanged = unchanged_none state; later = omega arith; steady = λ is. is }

pub quiet_then : {T : Type 0} (old mid new : State) (result : Result T WorldError) → Quiet old mid → Looks mid new result → Quiet old new
quiet_then old mid new result a b = record {
  unchanged = unchanged_then old mid new a.unchanged b.unchanged;
  later = omega (arith, a.later, b.cause.later);
  steady = λ is. b.cause.steady (a.steady is);
}
