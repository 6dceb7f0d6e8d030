-- What a call that only looks answers, beside what the tree gives. This project's own.
use Rattle.std.specs.Prelude.{◌≡◌, Option, Some, None, Result, Ok, Err}
use Rattle.std.specs.Option.{ForSome}
use Rattle.kb_world.specs.Tree.{Tree}
use Rattle.kb_world.specs.State.{State, HasCause, Unchanged}
use Rattle.kb_world.specs.declared.refusal.Refusal.{Refusal}
use Rattle.kb_world.specs.declared.stop.Stop.{Stop}
use Rattle.kb_world.specs.declared.stop.Stop.TheVariants.{Refused, Fault, NoMemory}

-- the reading, unless a refusal is due before it
abbrev pub unless_due : {T : Type 0} → Option Refusal → Result T Refusal → Result T Refusal
unless_due None reading = reading
unless_due (Some due) reading = Err due

-- The call answers the value or the refusal that the definition gives, or had no memory.
abbrev pub IsRead : {T : Type 0} → Result T Stop → Result T Refusal → Type 0
IsRead (Ok value) right = right ≡ Ok value
IsRead (Err (Refused refusal)) right = right ≡ Err refusal
IsRead (Err Fault) right = ⊥
IsRead (Err NoMemory) right = Unit {0}

-- The call went on where no refusal is due, and was refused exactly so where one is. A fault and want of memory tell
-- nothing.
abbrev pub Agrees : {T : Type 0} → Result T Stop → Option Refusal → Type 0
Agrees (Ok value) due = due ≡ None
Agrees (Err (Refused refusal)) due = due ≡ Some refusal
Agrees (Err Fault) due = Unit {0}
Agrees (Err NoMemory) due = Unit {0}

-- The call changes nothing, and is refused exactly where this finds a cause in the tree.
pub record Decides (due : Tree → Option Refusal) {T : Type 0} (old new : State) (result : Result T Stop) : Type 0 where
  pub agrees : ForSome old.tree (λ tree. Agrees result (due tree))
  pub unchanged : Unchanged old new
  pub cause : HasCause Fault old new result

-- The call answered the value or the refusal. A fault and want of memory tell nothing.
abbrev pub IsAnswer : {T : Type 0} → Result T Stop → Result T Refusal → Type 0
IsAnswer (Ok value) right = right ≡ Ok value
IsAnswer (Err (Refused due)) right = right ≡ Err due
IsAnswer (Err Fault) right = Unit {0}
IsAnswer (Err NoMemory) right = Unit {0}

-- The call changes nothing, and answers what this says of the tree.
pub record Gives {T : Type 0} (right : Tree → Result T Refusal) (old new : State) (result : Result T Stop) : Type 0 where
  pub answers : ForSome old.tree (λ tree. IsAnswer result (right tree))
  pub unchanged : Unchanged old new
  pub cause : HasCause Fault old new result
