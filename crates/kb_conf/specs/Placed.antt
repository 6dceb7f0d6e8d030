-- What the private `Placed` of the code holds.
use Rattle.std.specs.Prelude.{◌≡◌, ℕ, Bool, false, List, Option, Some, None, bytes_eq}
use Rattle.std.specs.List.{All}
use Rattle.kb_conf.specs.declared.targets.Placed.{Placed}
use Rattle.kb_conf.specs.Values.{Values}
use Rattle.kb_conf.specs.Targets.{target_place}

abbrev pub target_number : Placed → ℕ
target_number target = target.number

-- the place is its target's
abbrev pub IsPlaced : Values → Placed → Type 0
IsPlaced values target = target.place ≡ target_place values target.number

abbrev pub ArePlaced : Values → List Placed → Type 0
ArePlaced values targets = All (IsPlaced values) targets

-- there is a name, and it is this one
abbrev pub is_that_name : List ℕ → Option (List ℕ) → Bool
is_that_name name None = false
is_that_name name (Some other) = bytes_eq name other
