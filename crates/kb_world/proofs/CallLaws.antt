-- One call after another: its causes, and what no call changes.
use Rattle.std.proofs.Common.{◌≡◌, ◌≤◌, ℕ, refl, ◌∙◌, arith}
use Rattle.std.specs.Prelude.{IsErrOf, Result, Ok, Err, is_some}
use Rattle.kb_world.specs.State.{State, HasCause, Rose, Lasts, RanNone, Unchanged}
use Rattle.kb_world.specs.declared.stop.Stop.{Stop}
use Rattle.kb_world.specs.declared.stop.Stop.TheVariants.{Fault}

-- a count that rose since a later moment rose since an earlier one
pub rose_since : (a b c : ℕ) → a ≤ b → Rose b c → Rose a c
rose_since a b c le rose = omega (arith, le, rose)

-- one call after another
pub cause_then : {E T U : Type 0} (error : E) (old mid new : State) (first : Result T E) (second : Result U E) → is_some mid.tree ≡ is_some old.tree
    → HasCause error old mid first → HasCause error mid new second → HasCause error old new second
cause_then error old mid new first second same a b = record {
  later = omega (arith, a.later, b.later);
  rose = λ failed. rose_since old.faults mid.faults new.faults a.later (b.rose failed);
  steady = λ is. b.steady (a.steady is);
  never = λ told is failed. b.never (same ∙ told) (a.steady is) failed;
}

pub lasts_then : (old mid new : State) → Lasts old mid → Lasts mid new → Lasts old new
lasts_then old mid new a b = record { roots = b.roots ∙ a.roots; script = b.script ∙ a.script; told = b.told ∙ a.told }

pub ran_none_then : (old mid new : State) → RanNone old mid → RanNone mid new → RanNone old new
ran_none_then old mid new a b = record { ran = b.ran ∙ a.ran; lasts = lasts_then old mid new a.lasts b.lasts }

pub unchanged_none : (state : State) → Unchanged state state
unchanged_none state = record { tree = refl; history = refl; ran_none = record { ran = refl; lasts = record { roots = refl; script = refl; told = refl } } }

pub unchanged_then : (old mid new : State) → Unchanged old mid → Unchanged mid new → Unchanged old new
unchanged_then old mid new a b = record { tree = b.tree ∙ a.tree; history = b.history ∙ a.history; ran_none = ran_none_then old mid new a.ran_none b.ran_none }

pub cause_other : {T U : Type 0} (old new : State) (first : Result T Stop) (second : Result U Stop) → HasCause Fault old new first → (IsErrOf second Fault → ⊥) → HasCause Fault old new second
cause_other old new first second a never = record {
  later = a.later;
  rose = λ failed. absurd (never failed);
  steady = a.steady;
  never = λ told is failed. never failed;
}

pub no_cause : {T : Type 0} (old : State) (value : T) → HasCause Fault old old (Ok value)
no_cause old value = record {
  later = omega arith;
  rose = λ failed. let impossible : Ok value ≡ Err Fault = failed in cc;
  steady = λ is. is;
  never = λ told is failed. let impossible : Ok value ≡ Err Fault = failed in cc;
}
