-- The directories above a path, and what holds of each path of a list.
use Rattle.std.proofs.Common.{◌≡◌, ℕ, Bool, true, false, cond, ◌&&◌, ◌||◌, not, List, [], ◌∷◌, ◌++◌, length, drop, map, refl, sym, ap, ◌∙◌, subst, append_assoc}
use Rattle.std.specs.Prelude.{bytes_eq, filter}
use Rattle.std.specs.List.{list_any, AllByRecursion}
use Rattle.std.specs.Cmp.{first_so, second_so}
use Rattle.std.specs.Cmp.Derive.{both_true}
use Rattle.std.specs.Cmp.Lexicographic.{bytes_decides}
use Rattle.kb_world.specs.Path.{Path, child, is_under, are_apart}
use Rattle.kb_world.specs.TreeLaws.{same_path, same_path-true}
use Rattle.kb_world.specs.Roots.{is_below}
use Rattle.kb_world.specs.Patch.{directories_to, above_in, above, is_listed}
use Rattle.kb_world.specs.declared.roots.Roots.{Roots}
use Rattle.kb_world.proofs.PathLaws.{under-append, under-beside, under-split, elsewhere, apart-back, drop-front}

-- ---- what holds of each of a list

module _ {X : Type 0} (P : X → Type 0) where
  pub all-append : (xs ys : List X) → AllByRecursion P xs → AllByRecursion P ys → AllByRecursion P (xs ++ ys)
  all-append [] ys p q = q
  all-append (x ∷ xs) ys p q = (p.0, all-append xs ys p.1 q)

  pub all-filter : (test : X → Bool) (xs : List X) → AllByRecursion P xs → AllByRecursion P (filter test xs)
  all-filter test [] p = tt
  all-filter test (x ∷ xs) p = by (test x) (all-filter test xs p.1)
    where
      by : (b : Bool) → AllByRecursion P (filter test xs) → AllByRecursion P (cond b (x ∷ filter test xs) (filter test xs))
      by true later = (p.0, later)
      by false later = later

  -- what holds of all that pass the test
  pub all-passing : (test : X → Bool) → ((x : X) → test x ≡ true → P x) → (xs : List X) → AllByRecursion P (filter test xs)
  all-passing test so [] = tt
  all-passing test so (x ∷ xs) = by (test x) refl (all-passing test so xs)
    where
      by : (b : Bool) → test x ≡ b → AllByRecursion P (filter test xs) → AllByRecursion P (cond b (x ∷ filter test xs) (filter test xs))
      by true e later = (so x e, later)
      by false e later = later

  pub all-map : {Y : Type 0} (f : Y → X) (ys : List Y) → AllByRecursion (λ y. P (f y)) ys → AllByRecursion P (map f ys)
  all-map f [] p = tt
  all-map f (y ∷ ys) p = (p.0, all-map f ys p.1)

  pub all-all : ((x : X) → P x) → (xs : List X) → AllByRecursion P xs
  all-all so [] = tt
  all-all so (x ∷ xs) = (so x, all-all so xs)

pub AreAll : {X : Type 0} (P Q : X → Type 0) → ((x : X) → P x → Q x) → (xs : List X) → AllByRecursion P xs → AllByRecursion Q xs
AreAll P Q so [] p = tt
AreAll P Q so (x ∷ xs) p = (so x p.0, AreAll P Q so xs p.1)

pub each-listed : (P : Path → Type 0) (paths : List Path) → AllByRecursion P paths → (q : Path) → is_listed q paths ≡ true → P q
each-listed P [] p q e = let impossible : true ≡ false = sym e in absurd (cc)
each-listed P (path ∷ paths) p q e = by (same_path q path) refl (λ later. each-listed P paths p.1 q later)
  where
    by : (b : Bool) → same_path q path ≡ b → (is_listed q paths ≡ true → P q) → P q
    by true s more = subst P (sym (same_path-true q path s)) p.0
    by false s more = more (sym (ap (λ b. b || is_listed q paths) s) ∙ e)

-- ---- what stands before the names of a path

-- the names of the directories above a path, from none on
abbrev pub fronts : Path → List Path
fronts [] = []
fronts (name ∷ names) = [] ∷ map (λ front. name ∷ front) (fronts names)

any-map : (f : Path → Bool) (name : List ℕ) (paths : List Path) → list_any f (map (λ front. name ∷ front) paths) ≡ list_any (λ front. f (name ∷ front)) paths
any-map f name [] = refl
any-map f name (path ∷ paths) = ap (λ b. f (name ∷ path) || b) (any-map f name paths)

pub none-map : (f : Path → Bool) (g : Path → Path) (paths : List Path) → ((path : Path) → f (g path) ≡ false) → list_any f (map g paths) ≡ false
none-map f g [] none = refl
none-map f g (path ∷ paths) none = ap (λ b. b || list_any f (map g paths)) (none path) ∙ none-map f g paths none

-- a directory above that passes a test is among them
pub front-any : (f : Path → Bool) (path names : Path) → f names ≡ true → is_under path names ≡ true → is_under names path ≡ false → list_any f (fronts path) ≡ true
front-any f [] [] h down up = let impossible : true ≡ false = up in absurd (cc)
front-any f [] (n ∷ names) h down up = let impossible : true ≡ false = sym down in absurd (cc)
front-any f (m ∷ path) [] h down up = ap (λ b. b || list_any f (map (λ front. m ∷ front) (fronts path))) h
front-any f (m ∷ path) (n ∷ names) h down up =
    let is : n ≡ m = (bytes_decides n m).0 (first_so (bytes_eq n m) (is_under path names) down) in
    let below = second_so (bytes_eq n m) (is_under path names) down in
    let over : is_under names path ≡ false = sym (ap (λ b. b && is_under names path) ((bytes_decides m n).1 (sym is))) ∙ up in
    or_right (f []) _ (any-map f m (fronts path) ∙ front-any (λ front. f (m ∷ front)) path names (ap (λ x. f (x ∷ names)) (sym is) ∙ h) below over)
  where
    or_right : (a b : Bool) → b ≡ true → (a || b) ≡ true
    or_right true b e = refl
    or_right false b e = e

-- ---- directories above a path lie above it

and_false : (a : Bool) → (a && false) ≡ false
and_false true = refl
and_false false = refl

directories-below : (base names q : Path) → is_listed q (directories_to base names) ≡ true → is_below (base ++ names) q ≡ true
directories-below base [] q e = let impossible : true ≡ false = sym e in absurd (cc)
directories-below base (name ∷ []) q e = let impossible : true ≡ false = sym e in absurd (cc)
directories-below base (name ∷ next ∷ rest) q e = by (same_path q (child base name)) refl (λ later. directories-below (child base name) (next ∷ rest) q later)
  where
    here : is_below (base ++ name ∷ next ∷ rest) (child base name) ≡ true
    here =
        both_true
        (ap (λ p. is_under p (child base name)) (sym (append_assoc base (name ∷ []) (next ∷ rest))) ∙ under-append (child base name) (next ∷ rest))
        (ap not (under-beside base (name ∷ []) (name ∷ next ∷ rest) ∙ and_false (bytes_eq name name)))

    by : (b : Bool) → same_path q (child base name) ≡ b → (is_listed q (directories_to (child base name) (next ∷ rest)) ≡ true → is_below (child base name ++ next ∷ rest) q ≡ true)
        → is_below (base ++ name ∷ next ∷ rest) q ≡ true
    by true s more = ap (is_below (base ++ name ∷ next ∷ rest)) (same_path-true q (child base name) s) ∙ here
    by false s more =
        ap (λ p. is_below p q) (sym (append_assoc base (name ∷ []) (next ∷ rest)))
        ∙ more (sym (ap (λ b. b || is_listed q (directories_to (child base name) (next ∷ rest))) s) ∙ e)

above_in-below : (roots : List Path) (path q : Path) → is_listed q (above_in roots path) ≡ true → is_below path q ≡ true
above_in-below [] path q e = let impossible : true ≡ false = sym e in absurd (cc)
above_in-below (root ∷ roots) path q e = by (is_under path root) refl (λ later. above_in-below roots path q later)
  where
    by : (b : Bool) → is_under path root ≡ b → (is_listed q (above_in roots path) ≡ true → is_below path q ≡ true) → is_below path q ≡ true
    by true u more =
        ap (λ p. is_below p q) (under-split path root u)
        ∙ directories-below root (drop (length root) path) q (sym (ap (λ b. is_listed q (cond b (directories_to root (drop (length root) path)) (above_in roots path))) u) ∙ e)
    by false u more = more (sym (ap (λ b. is_listed q (cond b (directories_to root (drop (length root) path)) (above_in roots path))) u) ∙ e)

pub above-below : (roots : Roots) (path q : Path) → is_listed q (above roots path) ≡ true → is_below path q ≡ true
above-below roots path q e = above_in-below (roots.dkms ∷ roots.src ∷ roots.modules ∷ roots.boot ∷ []) path q e

-- below the dkms root they are known
pub above-dkms : (roots : Roots) (names : Path) → above roots (roots.dkms ++ names) ≡ directories_to roots.dkms names
above-dkms roots names =
    ap (λ b. cond b (directories_to roots.dkms (drop (length roots.dkms) (roots.dkms ++ names))) (above_in (roots.src ∷ roots.modules ∷ roots.boot ∷ []) (roots.dkms ++ names))) (under-append roots.dkms names)
    ∙ ap (directories_to roots.dkms) (drop-front roots.dkms names)

-- and so they are below the root of sources
pub above-src : (roots : Roots) → are_apart roots.dkms roots.src ≡ true → (names : Path) → above roots (roots.src ++ names) ≡ directories_to roots.src names
above-src roots apart names =
    ap (λ b. cond b (directories_to roots.dkms (drop (length roots.dkms) (roots.src ++ names))) (above_in (roots.src ∷ roots.modules ∷ roots.boot ∷ []) (roots.src ++ names)))
    (elsewhere (roots.src ++ names) roots.src roots.dkms (apart-back roots.dkms roots.src apart) (under-append roots.src names))
    ∙ ap (λ b. cond b (directories_to roots.src (drop (length roots.src) (roots.src ++ names))) (above_in (roots.modules ∷ roots.boot ∷ []) (roots.src ++ names))) (under-append roots.src names)
    ∙ ap (directories_to roots.src) (drop-front roots.src names)
