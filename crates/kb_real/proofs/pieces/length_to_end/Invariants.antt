-- What left the reader so far is counted.
use Rattle.std.proofs.Common.{◌≡◌, ℕ, List, length}
use Rattle.std.specs.Io.KnownBytes.{Consumes}
use Rattle.std.specs.Io.Iter.{u64_saturate}
use Rattle.kb_real.proofs.pieces.length_to_end.Given as goal

abbrev pub invariant-loop : goal.invariant-loop
invariant-loop g l = (read : List ℕ) × (l.len ≡ u64_saturate (length read)) × Consumes (g.R.Read.remaining l.initial.reader) (g.R.Read.remaining l.reader) read
