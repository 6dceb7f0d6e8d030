-- Targets beside their places.
use Rattle.std.proofs.Common.{◌≡◌, ℕ, zero, suc, ◌<◌, Bool, true, false, List, [], ◌∷◌, ◌++◌, length, take, map, get_or, refl, sym, ap, ap₂, ◌∙◌, arith}
use Rattle.std.specs.Prelude.{◌&&◌, ◌||◌, bytes_eq, slice_get}
use Rattle.std.specs.List.{list_any}
use Rattle.std.proofs.lemmas.List.{take-map}
use Rattle.kb_world.specs.Path.{Path, is_under}
use Rattle.kb_conf.specs.declared.targets.Placed.{Placed}
use Rattle.kb_conf.specs.Values.{Values}
use Rattle.kb_conf.specs.Targets.{target_place, collide, collides, bad_target}
use Rattle.kb_conf.specs.Placed.{target_number, ArePlaced, is_that_name}

swap_and : (a b c : Bool) → (a && (b && c)) ≡ (b && (a && c))
swap_and true b c = refl
swap_and false true c = refl
swap_and false false c = refl

-- a path is at or below a directory's entry where the entry's name stands behind the directory, and it is at or below the directory
pub under_child : (path directory : Path) (name : List ℕ) →
    is_under path (directory ++ name ∷ []) ≡ (is_that_name name (slice_get path (length directory)) && is_under path directory)
under_child [] [] name = refl
under_child (first ∷ path) [] name = refl
under_child [] (entry ∷ directory) name = refl
under_child (first ∷ path) (entry ∷ directory) name =
    ap (λ b. bytes_eq entry first && b) (under_child path directory name)
    ∙ swap_and (bytes_eq entry first) (is_that_name name (slice_get path (length directory))) (is_under path directory)

pub any_number : (test : ℕ → Bool) (targets : List Placed) → list_any (λ (other : Placed). test other.number) targets ≡ list_any test (map target_number targets)
any_number test [] = refl
any_number test (target ∷ targets) = ap (λ b. test target.number || b) (any_number test targets)

pub any_place : (values : Values) (number : ℕ) (place : Path) (targets : List Placed) → place ≡ target_place values number → ArePlaced values targets →
    list_any (λ (other : Placed). collide place other.place) targets ≡ list_any (collides values number) (map target_number targets)
any_place values number place [] is placed = refl
any_place values number place (target ∷ targets) is placed =
    ap₂ (λ a b. a || b) (ap₂ collide is (placed 0 target (omega arith)))
    (any_place values number place targets is (λ k d lt. placed (suc k) d (omega (arith, lt))))

get_number : (targets : List Placed) (k : ℕ) (d : Placed) → k < length targets → get_or (map target_number targets) k 0 ≡ (get_or targets k d).number
get_number [] k d lt = absurd (omega (arith, lt))
get_number (target ∷ targets) zero d lt = refl
get_number (target ∷ targets) (suc k) d lt = get_number targets k d (omega (arith, lt))

-- the target at an index, behind those before it
pub bad_at_index : (values : Values) (targets earlier : List Placed) (numbers : List ℕ) (target : Placed) (k : ℕ) → map target_number targets ≡ numbers → k < length targets
    → earlier ≡ take k targets → target ≡ get_or targets k target → bad_target values (map target_number earlier) target.number ≡ bad_target values (take k numbers) (get_or numbers k 0)
bad_at_index values targets earlier numbers target k same lt before at =
    ap₂ (bad_target values)
    (ap (map target_number) before ∙ sym (take-map target_number k targets) ∙ ap (take k) same)
    (ap (λ (t : Placed). t.number) at ∙ sym (get_number targets k target lt) ∙ ap (λ ns. get_or ns k 0) same)
