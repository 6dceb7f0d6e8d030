-- The kinds of what a walk met are those of the tree.
use Rattle.std.proofs.Common.{◌≡◌, ℕ, zero, suc, ◌<◌, List, [], ◌∷◌, length, get_or, map, Option, Some, None, refl, sym, ap, ◌∙◌, subst, arith, Bool}
use Rattle.kb_world.specs.Path.{Path}
use Rattle.kb_world.specs.Tree.{Tree}
use Rattle.kb_walk.specs.Walking.{entries, met_at, walked}
use Rattle.kb_walk.specs.declared.walking.Limits.{Limits}
use Rattle.kb_walk.specs.declared.walking.Met.{Met}
use Rattle.kb_walk.specs.declared.walking.Walk.{Walk}
use Rattle.kb_walk.proofs.LimitLaws.{met_all, met_before}
use Rattle.kb_store.specs.Notes.{IsKindOf, AreKinds}

met_kinds : (tree : Tree) (paths : List Path) → AreKinds tree (map (met_at tree) paths)
met_kinds tree [] = tt
met_kinds tree (path ∷ paths) = (refl, met_kinds tree paths)

pub kinds_met : (tree : Tree) (met : List Met) (paths : List Path) → met ≡ map (met_at tree) paths → AreKinds tree met
kinds_met tree met paths is = subst (AreKinds tree) (sym is) (met_kinds tree paths)

-- whether or not a limit ended the walk
pub kinds_walked : (limits : Limits) (tree : Tree) (skips : Path → Bool) (start : Path) (walk : Walk) → walk ≡ walked limits tree skips start → AreKinds tree walk.met
kinds_walked limits tree skips start walk is = by walk.over refl
  where
    by : (over : Option Path) → walk.over ≡ over → AreKinds tree walk.met
    by None e = kinds_met tree walk.met (entries tree skips start) (ap (λ (w : Walk). w.met) is ∙ met_all limits tree skips start (sym (ap (λ (w : Walk). w.over) is) ∙ e))
    by (Some far) e =
        let front = met_before limits tree skips start far (sym (ap (λ (w : Walk). w.over) is) ∙ e) in
        kinds_met tree walk.met front.before (ap (λ (w : Walk). w.met) is ∙ front.met)

pub kind_at : (tree : Tree) (met : List Met) (k : ℕ) (entry : Met) → k < length met → entry ≡ get_or met k entry → AreKinds tree met → IsKindOf tree entry
kind_at tree [] k entry l is kinds = absurd (omega (arith, l))
kind_at tree (first ∷ met) zero entry l is kinds = subst (IsKindOf tree) (sym is) kinds.0
kind_at tree (first ∷ met) (suc k) entry l is kinds = kind_at tree met k entry (omega (arith, l)) is kinds.1
