-- Counts of faults. This project's own.
use Rattle.std.specs.Prelude.{ℕ, ◌+◌, ◌-◌, ◌^◌, min, Result, Ok, Err}
use Rattle.kb_world.specs.declared.world.WorldError.{WorldError}
use Rattle.kb_world.specs.declared.world.WorldError.TheVariants.{Failed, NoMemory}

-- the count after one more fault; it stays at its end
abbrev pub one_more_fault : ℕ → ℕ
one_more_fault faults = min (faults + 1) (2 ^ 64 - 1)

-- the count after a call with this answer: want of memory is no fault
abbrev pub faults_after : {T : Type 0} → Result T WorldError → ℕ → ℕ
faults_after (Ok value) faults = faults
faults_after (Err Failed) faults = one_more_fault faults
faults_after (Err NoMemory) faults = faults
