-- How a call stops, or doesn't, where a call of the world did.
use Rattle.std.proofs.Common.{◌≡◌, Result, Ok, Err, refl, arith}
use Rattle.std.specs.Prelude.{IsErrOf}
use Rattle.kb_world.specs.State.{State, HasCause}
use Rattle.kb_world.specs.Stop.{stop_for}
use Rattle.kb_world.specs.declared.refusal.Refusal.{Refusal}
use Rattle.kb_world.specs.declared.stop.Stop.{Stop}
use Rattle.kb_world.specs.declared.stop.Stop.TheVariants as stops
use Rattle.kb_world.specs.declared.world.WorldError.{WorldError}
use Rattle.kb_world.specs.declared.world.WorldError.TheVariants.{Failed, NoMemory}

abbrev stopped : {T : Type 0} → Stop → Result T Stop
stopped stop = Err stop

pub done_unrefused : {T : Type 0} (value : T) (refusal : Refusal) → IsErrOf {E = Stop} (Ok value) (stops.Refused refusal) → ⊥
done_unrefused value refusal e = let impossible : Ok value ≡ stopped (stops.Refused refusal) = e in cc

pub done_cause : {A T : Type 0} (old new : State) (first : A) (value : T) → HasCause {T = A} Failed old new (Ok first) → HasCause {T = T} stops.Fault old new (Ok value)
done_cause old new first value c = record {
  later = c.later;
  rose = λ e. let impossible : Ok value ≡ stopped stops.Fault = e in cc;
  steady = c.steady;
  never = λ told is e. let impossible : Ok value ≡ stopped stops.Fault = e in cc;
}

pub stop_unrefused : {T : Type 0} (error : WorldError) (refusal : Refusal) → IsErrOf {T = T} (Err (stop_for error)) (stops.Refused refusal) → ⊥
stop_unrefused {T = T} Failed refusal e = let impossible : stopped {T = T} stops.Fault ≡ stopped (stops.Refused refusal) = e in cc
stop_unrefused {T = T} NoMemory refusal e = let impossible : stopped {T = T} stops.NoMemory ≡ stopped (stops.Refused refusal) = e in cc

pub stop_cause : {A T : Type 0} (old new : State) (error : WorldError) → HasCause {T = A} Failed old new (Err error) → HasCause {T = T} stops.Fault old new (Err (stop_for error))
stop_cause old new Failed c = record { later = c.later; rose = λ e. c.rose refl; steady = c.steady; never = λ told is e. c.never told is refl }
stop_cause {T = T} old new NoMemory c = record {
  later = c.later;
  rose = λ e. let impossible : stopped {T = T} stops.NoMemory ≡ stopped stops.Fault = e in cc;
  steady = c.steady;
  never = λ told is e. let impossible : stopped {T = T} stops.NoMemory ≡ stopped stops.Fault = e in cc;
}

-- nothing was done, for want of memory
pub wanting_cause : {T : Type 0} (state : State) → HasCause {T = T} Failed state state (Err NoMemory)
wanting_cause {T = T} state = record { later = omega arith; rose = λ e. absurd (other e); steady = λ is. is; never = λ told is e. other e }
  where
    failed : WorldError → Result T WorldError
    failed error = Err error

    other : failed NoMemory ≡ failed Failed → ⊥
    other e = cc
