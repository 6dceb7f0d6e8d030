-- What is below a private path is private.
use Rattle.std.proofs.Common.{◌≡◌, Bool, true, false, ◌||◌, List, [], ◌∷◌, ◌++◌, length, drop, Option, Some, codes, refl, ap, ◌∙◌, append_assoc}
use Rattle.std.specs.List.{list_any}
use Rattle.kb_world.specs.Path.{Path, is_under}
use Rattle.kb_world.specs.Public.{is_private, private_places}
use Rattle.kb_world.specs.StorePath.{store_path, path_of, is_in_scratch}
use Rattle.kb_world.specs.declared.roots.Roots.{Roots}
use Rattle.kb_world.specs.declared.store_path.StorePath.{StorePath}
use Rattle.kb_world.specs.declared.store_path.StorePath.TheVariants.{InScratch}
use Rattle.kb_world.proofs.PathLaws.{under-append, under-split}
use Rattle.kb_world.proofs.StorePathLaws.{place_back, place_there}

pub under_more : (path directory more : Path) → is_under path directory ≡ true → is_under (path ++ more) directory ≡ true
under_more path directory more h =
    let rest = drop (length directory) path in
    ap (λ p. is_under (p ++ more) directory) (under-split path directory h) ∙ ap (λ p. is_under p directory) (append_assoc directory rest more) ∙ under-append directory (rest ++ more)

or_right : (a b : Bool) → b ≡ true → (a || b) ≡ true
or_right true b e = refl
or_right false b e = e

-- one of two, each of which leads on
pub either_more : (a b c d : Bool) → (a ≡ true → c ≡ true) → (b ≡ true → d ≡ true) → (a || b) ≡ true → (c || d) ≡ true
either_more true b c d first second h = ap (λ x. x || d) (first refl)
either_more false b c d first second h = or_right c d (second h)

any_more : (path more : Path) (places : List Path) → list_any (is_under path) places ≡ true → list_any (is_under (path ++ more)) places ≡ true
any_more path more [] h = h
any_more path more (place ∷ places) h =
    either_more (is_under path place) (list_any (is_under path) places) (is_under (path ++ more) place) (list_any (is_under (path ++ more)) places) (under_more path place more) (any_more path more places) h

-- what is below a path in a scratch tree is in it
in_scratch_more : (roots : Roots) (path more : Path) → is_in_scratch (store_path roots path) ≡ true → is_in_scratch (store_path roots (path ++ more)) ≡ true
in_scratch_more roots path more h = by (store_path roots path) refl h
  where
    untrue : false ≡ true → ⊥
    untrue e = cc

    by : (told : Option StorePath) → store_path roots path ≡ told → is_in_scratch told ≡ true → is_in_scratch (store_path roots (path ++ more)) ≡ true
    by (Some (InScratch key rest)) e h =
        let is = place_back roots path (InScratch key rest) e in
        let longer : path ++ more ≡ path_of roots (InScratch key (rest ++ more)) =
        ap (λ p. p ++ more) is.is ∙ append_assoc roots.dkms (key.module ∷ key.version ∷ codes "build" ∷ rest) more in
        ap (λ p. is_in_scratch (store_path roots p)) longer ∙ ap is_in_scratch (place_there roots (InScratch key (rest ++ more)) is.ruled)
    by other e h = absurd (untrue h)

pub private_below : (roots : Roots) (path more : Path) → is_private roots path ≡ true → is_private roots (path ++ more) ≡ true
private_below roots path more =
    either_more (list_any (is_under path) (private_places roots)) (is_in_scratch (store_path roots path)) (list_any (is_under (path ++ more)) (private_places roots)) (is_in_scratch (store_path roots (path ++ more)))
    (any_more path more (private_places roots)) (in_scratch_more roots path more)
