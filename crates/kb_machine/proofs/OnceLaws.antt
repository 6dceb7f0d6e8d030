-- Actions that make one store at most, and none from there.
use Rattle.std.proofs.Common.{◌≡◌, ℕ, List, [], ◌∷◌, Option, Some, None, Result, Ok, Err, refl, sym, ap, ◌∙◌, subst, inl, inr}
use Rattle.kb_world.specs.Layout.{united}
use Rattle.kb_world.specs.Tree.{Tree}
use Rattle.kb_world.specs.declared.refusal.Refusal.{Refusal}
use Rattle.kb_machine.specs.Outcome.{Action, last_of, go_on, refuse_if, unless, by_answer, reads, ◌then◌}
use Rattle.kb_machine.specs.Repeat.{LeavesNone, IsOnce, ComesToSame}
use Rattle.kb_machine.specs.Repeat.IsOnce.{none, one}
use Rattle.kb_machine.specs.Stands.{IsOneOf}

-- ---- no store

-- a refusal that is due makes none
pub none_due : (due : Tree → Option Refusal) (second : Action) (store foreign : Tree) (why : Refusal) → due (united store foreign) ≡ Some why
    → LeavesNone (unless due then second) store foreign
none_due due second store foreign why is = ap (λ (o : Option Refusal). (go_on store (refuse_if o store foreign) second).after) is

pub none_unless : (due : Tree → Option Refusal) (second : Action) (store foreign : Tree) → LeavesNone second store foreign
    → LeavesNone (unless due then second) store foreign
none_unless due second store foreign empty = by (due (united store foreign))
  where
    by : (o : Option Refusal) → (go_on store (refuse_if o store foreign) second).after ≡ []
    by None = empty
    by (Some why) = refl

pub none_reads : {A : Type 0} (right : Tree → Result A Refusal) (next : A → Action) (store foreign : Tree)
    → ((value : A) → right (united store foreign) ≡ Ok value → LeavesNone (next value) store foreign) → LeavesNone (reads right next) store foreign
none_reads {A = A} right next store foreign empty = by (right (united store foreign)) empty
  where
    by : (r : Result A Refusal) → ((value : A) → r ≡ Ok value → LeavesNone (next value) store foreign) → (by_answer next r store foreign).after ≡ []
    by (Ok value) each = each value refl
    by (Err why) each = refl

-- ---- one store at most

pub once_unless : (Holds : Tree → Type 0) (due : Tree → Option Refusal) (second : Action) (store foreign : Tree) → IsOnce Holds second store foreign
    → IsOnce Holds (unless due then second) store foreign
once_unless Holds due second store foreign once = by (due (united store foreign)) refl
  where
    goes : due (united store foreign) ≡ None → (unless due then second) store foreign ≡ second store foreign
    goes is = ap (λ (o : Option Refusal). go_on store (refuse_if o store foreign) second) is

    from : due (united store foreign) ≡ None → IsOnce Holds second store foreign → IsOnce Holds (unless due then second) store foreign
    from is (none empty) = none (ap (λ o. o.after) (goes is) ∙ empty)
    from is (one next after holds) = one next (ap (λ o. o.after) (goes is) ∙ after) holds

    by : (o : Option Refusal) → due (united store foreign) ≡ o → IsOnce Holds (unless due then second) store foreign
    by None is = from is once
    by (Some why) is = none (none_due due second store foreign why is)

pub once_reads : {A : Type 0} (Holds : Tree → Type 0) (right : Tree → Result A Refusal) (next : A → Action) (store foreign : Tree)
    → ((value : A) → right (united store foreign) ≡ Ok value → IsOnce Holds (next value) store foreign) → IsOnce Holds (reads right next) store foreign
once_reads {A = A} Holds right next store foreign each = by (right (united store foreign)) refl
  where
    goes : (r : Result A Refusal) → right (united store foreign) ≡ r → (reads right next) store foreign ≡ by_answer next r store foreign
    goes r is = ap (λ (o : Result A Refusal). by_answer next o store foreign) is

    from : (value : A) → right (united store foreign) ≡ Ok value → IsOnce Holds (next value) store foreign → IsOnce Holds (reads right next) store foreign
    from value is (none empty) = none (ap (λ o. o.after) (goes (Ok value) is) ∙ empty)
    from value is (one made after holds) = one made (ap (λ o. o.after) (goes (Ok value) is) ∙ after) holds

    by : (r : Result A Refusal) → right (united store foreign) ≡ r → IsOnce Holds (reads right next) store foreign
    by (Ok value) is = from value is (each value is)
    by (Err why) is = none (ap (λ o. o.after) (goes (Err why) is))

-- ---- the same store

-- The first makes one store at most, the second from the same store the same ones, and from the one that was made none.
pub once_same : (first second : Action) (store foreign : Tree) → (second store foreign).after ≡ (first store foreign).after
    → IsOnce (λ next. LeavesNone second next foreign) first store foreign → ComesToSame first second store foreign
once_same first second store foreign alike (none empty) left (inl here) =
    subst (λ s. last_of s (second s foreign).after ≡ last_of store (first store foreign).after) (sym here) (ap (last_of store) alike)
once_same first second store foreign alike (none empty) left (inr later) = absurd (subst (IsOneOf left) empty later)
once_same first second store foreign alike (one next after empty) left (inl here) =
    subst (λ s. last_of s (second s foreign).after ≡ last_of store (first store foreign).after) (sym here) (ap (last_of store) alike)
once_same first second store foreign alike (one next after empty) left (inr later) = by (subst (IsOneOf left) after later)
  where
    ended : last_of next (second next foreign).after ≡ last_of store (first store foreign).after
    ended = ap (last_of next) empty ∙ sym (ap (last_of store) after)

    by : IsOneOf left (next ∷ []) → last_of left (second left foreign).after ≡ last_of store (first store foreign).after
    by (inl here) = subst (λ s. last_of s (second s foreign).after ≡ last_of store (first store foreign).after) (sym here) ended
    by (inr impossible) = absurd impossible
