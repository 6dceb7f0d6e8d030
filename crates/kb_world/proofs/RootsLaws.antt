-- The usual roots are apart, whatever base they are below.
use Rattle.std.proofs.Common.{◌≡◌, true, ◌&&◌, not, List, [], ◌∷◌, ◌++◌, map, refl, sym, ap, ◌∙◌, append-nil, append_assoc}
use Rattle.std.specs.Prelude.{codes}
use Rattle.std.specs.List.{list_all}
use Rattle.std.specs.Cmp.{first_so, second_so}
use Rattle.std.specs.Cmp.Derive.{both_true}
use Rattle.kb_world.specs.Path.{Path, is_under, are_apart}
use Rattle.kb_world.specs.Roots.{AreApart, roots_under, based_roots, each_apart, is_below}
use Rattle.kb_world.proofs.PathLaws.{under-append, under-beside}

-- below a base, paths are apart as they are below the root directory
apart_below : (base a b : Path) → are_apart (base ++ a) (base ++ b) ≡ are_apart a b
apart_below base a b = (λ i. not (under-beside base a b i) && not (under-beside base b a i))

all_below : (base a : Path) (paths : List Path) → list_all (are_apart a) paths ≡ true → list_all (are_apart (base ++ a)) (map (λ p. base ++ p) paths) ≡ true
all_below base a [] h = refl
all_below base a (path ∷ paths) h =
    both_true (apart_below base a path ∙ first_so (are_apart a path) _ h) (all_below base a paths (second_so (are_apart a path) _ h))

each_below : (base : Path) (paths : List Path) → each_apart paths ≡ true → each_apart (map (λ p. base ++ p) paths) ≡ true
each_below base [] h = refl
each_below base (path ∷ paths) h =
    both_true (all_below base path paths (first_so (list_all (are_apart path) paths) _ h)) (each_below base paths (second_so (list_all (are_apart path) paths) _ h))

-- a path below a base is below it
below_base : (base path : Path) → is_below path [] ≡ true → is_below (base ++ path) base ≡ true
below_base base path h =
    let back : is_under base (base ++ path) ≡ is_under [] path = ap (λ b. is_under b (base ++ path)) (sym (append-nil base)) ∙ under-beside base [] path in
    both_true (under-append base path) (ap not back ∙ second_so (is_under path []) _ h)

below_all : (base : Path) (paths : List Path) → list_all (λ root. is_below root []) paths ≡ true → list_all (λ root. is_below root base) (map (λ p. base ++ p) paths) ≡ true
below_all base [] h = refl
below_all base (path ∷ paths) h =
    both_true (below_base base path (first_so (is_below path []) _ h)) (below_all base paths (second_so (is_below path []) _ h))

-- the usual roots as they stand below the root directory
abbrev usual : List Path
usual =
    (codes "var" ∷ codes "lib" ∷ codes "dkms" ∷ []) ∷ (codes "usr" ∷ codes "src" ∷ []) ∷ (codes "lib" ∷ codes "modules" ∷ []) ∷ (codes "etc" ∷ [])
    ∷ (codes "usr" ∷ codes "lib" ∷ []) ∷ (codes "proc" ∷ []) ∷ []

abbrev usual_boot : Path
usual_boot = codes "boot" ∷ []

listed : (base : Path) → based_roots (roots_under base) ≡ map (λ p. base ++ p) usual
listed base =
    let dkms : (roots_under base).dkms ≡ base ++ (codes "var" ∷ codes "lib" ∷ codes "dkms" ∷ []) =
    append_assoc (base ++ codes "var" ∷ []) (codes "lib" ∷ []) (codes "dkms" ∷ []) ∙ append_assoc base (codes "var" ∷ []) (codes "lib" ∷ codes "dkms" ∷ []) in
    let src : (roots_under base).src ≡ base ++ (codes "usr" ∷ codes "src" ∷ []) = append_assoc base (codes "usr" ∷ []) (codes "src" ∷ []) in
    let modules : (roots_under base).modules ≡ base ++ (codes "lib" ∷ codes "modules" ∷ []) = append_assoc base (codes "lib" ∷ []) (codes "modules" ∷ []) in
    let lib : (roots_under base).lib ≡ base ++ (codes "usr" ∷ codes "lib" ∷ []) = append_assoc base (codes "usr" ∷ []) (codes "lib" ∷ []) in
    (λ i. dkms i ∷ src i ∷ modules i ∷ (base ++ codes "etc" ∷ []) ∷ lib i ∷ (base ++ codes "proc" ∷ []) ∷ [])

-- all but the boot
pub based_apart : (base : Path) → each_apart (based_roots (roots_under base)) ≡ true
based_apart base = ap each_apart (listed base) ∙ each_below base usual refl

pub based_below : (base : Path) → list_all (λ root. is_below root base) (based_roots (roots_under base)) ≡ true
based_below base = ap (list_all (λ root. is_below root base)) (listed base) ∙ below_all base usual refl

pub usual_apart : (base : Path) → AreApart (roots_under base)
usual_apart base =
    let boot = ap (list_all (are_apart (base ++ usual_boot))) (listed base) ∙ all_below base usual_boot usual refl in
    both_true (both_true boot (based_apart base)) (based_below base)
