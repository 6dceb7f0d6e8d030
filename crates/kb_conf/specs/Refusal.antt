-- Why a text isn't read.
use Rattle.std.specs.Prelude.{ℕ}
use Rattle.kb_conf.specs.declared.reading.ReadError.{ReadError}
use Rattle.kb_conf.specs.declared.reading.ReadError.TheVariants.{BadLine, OutOfMemory}

-- what holds of the line of a refusal. Of want of memory nothing is said
abbrev pub AtBadLine : (ℕ → Type 0) → ReadError → Type 0
AtBadLine P (BadLine line) = P line
AtBadLine P OutOfMemory = Unit {0}
