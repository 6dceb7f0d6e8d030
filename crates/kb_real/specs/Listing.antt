-- The names of a directory's listing, as getdents(2) gives them.
use Rattle.std.specs.Prelude.{◌≡◌, ℕ, ◌+◌, ◌<◌, Bool, ◌&&◌, not, List, get_or, length, codes, bytes_eq, filter, nat_eq}
use Rattle.std.specs.declared.cmp.Ordering.TheVariants.{Less}
use Rattle.std.specs.Ordering.{nat_cmp}
use Rattle.std.specs.Cmp.Lexicographic.{slice_cmp}

-- what stands before a NUL is an entry, but for the directory itself and its parent
abbrev pub is_entry : List ℕ → Bool
is_entry part = not (nat_eq (length part) 0) && not (bytes_eq part (codes ".")) && not (bytes_eq part (codes ".."))

abbrev pub listed_names : List (List ℕ) → List (List ℕ)
listed_names parts = filter is_entry parts

-- each name is below the next, by bytes
abbrev pub Rises : List (List ℕ) → Type 0
Rises names = (k : ℕ) (d : List ℕ) → k + 1 < length names → slice_cmp nat_cmp (get_or names k d) (get_or names (k + 1) d) ≡ Less
