-- What one read gives. This project's own.
use Rattle.std.specs.Prelude.{◌≡◌, ℕ, ◌≤◌, List, length, take, Option, MatchOption}
use Rattle.std.specs.Io.KnownBytes.{Consumes, Keeps, IsAtEnd}

-- A read that wasn't interrupted gave this many bytes at the buffer's front, and none only at the reader's end.
abbrev pub ReadsPiece : Option (List ℕ) → Option (List ℕ) → List ℕ → Option ℕ → Type 0
ReadsPiece old new buffer read = MatchOption read (Keeps old new) (λ count. (count ≤ length buffer) × Consumes old new (take count buffer) × (count ≡ 0 → IsAtEnd new))
