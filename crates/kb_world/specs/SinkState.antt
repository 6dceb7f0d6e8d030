-- What a sink means, and what a write does to it. This project's own.
use Rattle.std.specs.Prelude.{◌≡◌, ℕ, ◌≤◌, Bool, List, ◌++◌, take, Option, Result, option_map, OnOk, IsErrOf, IsTrue}
use Rattle.kb_world.specs.State.{Rose}
use Rattle.kb_world.specs.declared.sink.SinkError.{SinkError}
use Rattle.kb_world.specs.declared.sink.SinkError.TheVariants.{Failed, NoMemory}

-- A sink that doesn't tell what was written has none here.
pub record SinkState : Type 0 where
  pub written : Option (List ℕ)
  -- how often the outside has failed
  pub faults : ℕ
  -- no fault of its own is due
  pub steady : Bool

-- what was written goes on with this piece
abbrev pub grown : List ℕ → Option (List ℕ) → Option (List ℕ)
grown piece written = option_map (λ before. before ++ piece) written

-- A write appends its piece, or where it fails a front of it, or where memory ran out nothing. It fails only by a
-- fault, which a steady sink has none of.
pub record Writes (piece : List ℕ) {T : Type 0} (old new : SinkState) (result : Result T SinkError) : Type 0 where
  pub done : OnOk result (new.written ≡ grown piece old.written)
  pub failed : IsErrOf result Failed → (n : ℕ) × (new.written ≡ grown (take n piece) old.written)
  pub no_memory : IsErrOf result NoMemory → new.written ≡ old.written
  pub later : old.faults ≤ new.faults
  pub rose : IsErrOf result Failed → Rose old.faults new.faults
  pub steady : IsTrue old.steady → IsTrue new.steady
  pub never : IsTrue old.steady → IsErrOf result Failed → ⊥
