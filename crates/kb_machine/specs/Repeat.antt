-- An action that is done again from a store that it left: it comes to the same store. This project's own.
use Rattle.std.specs.Prelude.{◌≡◌, [], ◌∷◌}
use Rattle.kb_world.specs.Tree.{Tree}
use Rattle.kb_machine.specs.Outcome.{Action, last_of}
use Rattle.kb_machine.specs.Stands.{IsOneOf}

-- it makes no store
abbrev pub LeavesNone : Action → Tree → Tree → Type 0
LeavesNone action store foreign = (action store foreign).after ≡ []

-- it makes no store, or one, of which this holds
pub data IsOnce (Holds : Tree → Type 0) (action : Action) (store foreign : Tree) : Type 0 where
  none : LeavesNone action store foreign → IsOnce Holds action store foreign
  one : (next : Tree) → (action store foreign).after ≡ next ∷ [] → Holds next → IsOnce Holds action store foreign

-- from each of the stores that the first may leave, the second comes to the first's last one
abbrev pub ComesToSame : Action → Action → Tree → Tree → Type 0
ComesToSame first second store foreign =
    (left : Tree) → IsOneOf left (store ∷ (first store foreign).after) → last_of left (second left foreign).after ≡ last_of store (first store foreign).after
