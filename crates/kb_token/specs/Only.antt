-- An answer that has a property, where nothing else has it.
use Rattle.std.specs.Prelude.{◌≡◌, Option, Some, None}

-- the answer is the only one with the property, or there is none
abbrev pub IsOnly : {X : Type 0} → (X → Type 0) → Option X → Type 0
IsOnly {X} P None = (x : X) → P x → ⊥
IsOnly {X} P (Some x) = P x × ((y : X) → P y → y ≡ x)
