-- What the laws of the order speak of.
use Rattle.std.specs.Prelude.{◌≡◌, ◌≢◌, ◌<◌, ◌∷◌, ◌++◌, ℕ, List, [], length, false, slice_index_or}
use Rattle.std.specs.List.{Contains}
use Rattle.kb_auto.specs.declared.Listed.{Listed}
use Rattle.kb_auto.specs.declared.Placed.{Placed}
use Rattle.kb_auto.specs.Queue.{module_at}

-- the one that is placed here
abbrev pub placed_at : List Placed → ℕ → Placed
placed_at order i = slice_index_or order i (record { name = []; cyclic = false })

-- a module of this name depends on the next one, and isn't it
pub record LeadsTo (list : List Listed) (name next : List ℕ) : Type 0 where
  pub at : ℕ
  pub within : at < length list
  pub named : (module_at list at).name ≡ name
  pub depends : Contains (module_at list at).depends next
  pub other : next ≢ name

-- each of these names is a dependency of the one before it
abbrev pub IsChain : List Listed → List ℕ → List (List ℕ) → Type 0
IsChain list name [] = Unit {0}
IsChain list name (next ∷ names) = LeadsTo list name next × IsChain list next names

-- no chain of dependencies leads back to its start
abbrev pub HasNoRing : List Listed → Type 0
HasNoRing list = (start : List ℕ) (between : List (List ℕ)) → IsChain list start (between ++ start ∷ []) → ⊥
