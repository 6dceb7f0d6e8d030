-- One test behind another: what the first finds refuses, and else the second decides.
use Rattle.std.proofs.Common.{◌≡◌, Option, sym, ap, ◌∙◌, subst}
use Rattle.std.specs.Prelude.{Result, Ok, Err, IsErrOf}
use Rattle.std.specs.Option.{ForSome, option_or}
use Rattle.kb_world.specs.Read.{Agrees, Decides}
use Rattle.kb_machine.specs.Outcome.{◌or◌}
use Rattle.kb_world.specs.State.{State, HasCause}
use Rattle.kb_world.specs.Tree.{Tree}
use Rattle.kb_world.specs.declared.refusal.Refusal.{Refusal}
use Rattle.kb_world.specs.declared.stop.Stop.{Stop}
use Rattle.kb_world.specs.declared.stop.Stop.TheVariants.{Refused, Fault, NoMemory}
use Rattle.kb_world.proofs.CallLaws.{cause_then, unchanged_then}

abbrev pub stops : {T : Type 0} → Stop → Result T Stop
stops stop = Err stop

cause_as : {A B : Type 0} (old new : State) (stop : Stop) → HasCause Fault old new (stops {T = A} stop) → HasCause Fault old new (stops {T = B} stop)
cause_as {A = A} {B = B} old new stop h = record {
  later = h.later;
  rose = λ e. h.rose (back e);
  steady = h.steady;
  never = λ told is e. h.never told is (back e);
}
  where
    back : IsErrOf (stops {T = B} stop) Fault → IsErrOf (stops {T = A} stop) Fault
    back e = let same : stop ≡ Fault = cc in ap (λ s. stops {T = A} s) same

stop_agrees : (A B : Type 0) (stop : Stop) (due : Option Refusal) → Agrees (stops {T = A} stop) due → Agrees (stops {T = B} stop) due
stop_agrees A B (Refused why) due is = is
stop_agrees A B Fault due is = tt
stop_agrees A B NoMemory due is = tt

more_agrees : (A : Type 0) (stop : Stop) (due more : Option Refusal) → Agrees (stops {T = A} stop) due → Agrees (stops {T = A} stop) (option_or due more)
more_agrees A (Refused why) due more is = ap (λ o. option_or o more) is
more_agrees A Fault due more is = tt
more_agrees A NoMemory due more is = tt

-- whatever would have been answered, it stops so
pub decided_stop : (A B : Type 0) (due : Tree → Option Refusal) (old new : State) (stop : Stop) → Decides due old new (stops {T = A} stop) → Decides due old new (stops {T = B} stop)
decided_stop A B due old new stop d = record {
  agrees = λ tree told. stop_agrees A B stop (due tree) (d.agrees tree told);
  unchanged = d.unchanged;
  cause = cause_as {A = A} {B = B} old new stop d.cause;
}

-- and whatever is answered, it passes so
pub decided_ok : {A B : Type 0} (due : Tree → Option Refusal) (old new : State) (first : A) (second : B) → Decides due old new (Ok first) → Decides due old new (Ok second)
decided_ok {B = B} due old new first second d = record {
  agrees = d.agrees;
  unchanged = d.unchanged;
  cause = record {
    later = d.cause.later;
    rose = λ e. let impossible : ◌≡◌ {A = Result B Stop} (Ok second) (Err Fault) = e in cc;
    steady = d.cause.steady;
    never = λ told is e. let impossible : ◌≡◌ {A = Result B Stop} (Ok second) (Err Fault) = e in cc;
  };
}

-- the first stops it
pub decided_first : {A : Type 0} (first second : Tree → Option Refusal) (old mid : State) (stop : Stop)
    → Decides first old mid (stops {T = A} stop) → Decides (first or second) old mid (stops {T = A} stop)
decided_first {A = A} first second old mid stop d = record {
  agrees = λ tree told. more_agrees A stop (first tree) (second tree) (d.agrees tree told);
  unchanged = d.unchanged;
  cause = d.cause;
}

-- it passes the first, and the second decides
pub decided_then : {A B : Type 0} (first second : Tree → Option Refusal) (old mid new : State) (value : A) (result : Result B Stop)
    → Decides first old mid (Ok value) → Decides second mid new result → Decides (first or second) old new result
decided_then first second old mid new value result a b = record {
  agrees = λ tree told. subst (Agrees result) (ap (λ o. option_or o (second tree)) (sym (a.agrees tree told))) (b.agrees tree (a.unchanged.tree ∙ told));
  unchanged = unchanged_then old mid new a.unchanged b.unchanged;
  cause = cause_then Fault old mid new (Ok value) result a.unchanged.ran_none.lasts.told a.cause b.cause;
}

-- a call that asks the same of a told tree decides the same
pub decided_as : {A : Type 0} (asked due : Tree → Option Refusal) (old new : State) (result : Result A Stop)
    → ForSome old.tree (λ tree. asked tree ≡ due tree) → Decides asked old new result → Decides due old new result
decided_as asked due old new result same d = record {
  agrees = λ tree told. subst (Agrees result) (same tree told) (d.agrees tree told);
  unchanged = d.unchanged;
  cause = d.cause;
}
