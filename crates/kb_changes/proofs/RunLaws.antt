-- What a run like depmod's may change.
use Rattle.std.proofs.Common.{◌≡◌, ℕ, ◌<◌, Bool, true, false, ◌&&◌, List, [], ◌∷◌, length, get_or, refl, sym, ap, ◌∙◌}
use Rattle.std.specs.Prelude.{bytes_eq}
use Rattle.std.specs.List.{list_all}
use Rattle.std.specs.Cmp.{first_so, second_so}
use Rattle.std.specs.Cmp.Lexicographic.{pointwise, bytes_decides}
use Rattle.std.proofs.lemmas.List.Folds.{list_all_at}
use Rattle.kb_world.specs.Names.{is_name}
use Rattle.kb_world.specs.Path.{Path, child}
use Rattle.kb_world.specs.Tree.{name_in}
use Rattle.kb_world.specs.TreeLaws.{same_path}
use Rattle.kb_world.specs.View.{index_names}
use Rattle.kb_world.specs.declared.child.Area.{Area}
use Rattle.kb_world.specs.declared.child.Area.TheVariants as areas
use Rattle.kb_world.specs.declared.child.Request.{Request}
use Rattle.kb_world.specs.declared.roots.Roots.{Roots}
use Rattle.kb_changes.specs.Valid.{is_among_paths, HoldSame, is_kernel_name, same_paths, is_fit_area, is_fit_run}

-- texts that are equal one by one are one list
pub same_texts : (a b : List (List ℕ)) → pointwise bytes_eq a b ≡ true → a ≡ b
same_texts [] [] h = refl
same_texts [] (y ∷ b) h = let q : true ≡ false = sym h in cc
same_texts (x ∷ a) [] h = let q : true ≡ false = sym h in cc
same_texts (x ∷ a) (y ∷ b) h = (λ i. (bytes_decides x y).0 (first_so (bytes_eq x y) _ h) i ∷ same_texts a b (second_so (bytes_eq x y) _ h) i)

pub all_there : {A : Type 0} (f : A → Bool) (xs : List A) (i : ℕ) (d : A) → list_all f xs ≡ true → i < length xs → f (get_or xs i d) ≡ true
all_there f xs i d all within = by_case (f (get_or xs i d)) refl
  where
    by_case : (b : Bool) → f (get_or xs i d) ≡ b → f (get_or xs i d) ≡ true
    by_case true e = e
    by_case false e = let q : true ≡ false = sym all ∙ list_all_at f xs i d within e in cc

pub index_named : (names : List (List ℕ)) (i : ℕ) (d : List ℕ) → pointwise bytes_eq names index_names ≡ true → i < length names → is_name (get_or names i d) ≡ true
index_named names i d same within = all_there is_name names i d (ap (list_all is_name) (same_texts names index_names same)) within

-- the area of a request that is depmod's fits where each index file is dropped
pub fit_area : (roots : Roots) (drops : List Path) (request : Request) (directory : Path) (names : List (List ℕ)) →
    (is_kernel_name (name_in roots.modules directory) && pointwise bytes_eq names index_names && same_path request.dir roots.base && same_paths request.seen (directory ∷ [])) ≡ true →
    list_all (λ name. is_among_paths drops (child directory name)) names ≡ is_fit_area roots drops request (areas.Names directory names)
fit_area roots drops request directory names h =
    let kernel = is_kernel_name (name_in roots.modules directory) in
    let named = pointwise bytes_eq names index_names in
    let same = same_texts names index_names (second_so kernel named (first_so (kernel && named) _ (first_so (kernel && named && same_path request.dir roots.base) _ h))) in
    ap (list_all (λ name. is_among_paths drops (child directory name))) same
    ∙ sym (ap (λ b. b && list_all (λ name. is_among_paths drops (child directory name)) index_names) h)

pub fit_run : (roots : Roots) (drops : List Path) (request : Request) (directory : Path) (names given : List (List ℕ)) → request.area ≡ areas.Names directory names → given ≡ names →
    (is_kernel_name (name_in roots.modules directory) && pointwise bytes_eq given index_names && same_path request.dir roots.base && same_paths request.seen (directory ∷ [])) ≡ true →
    list_all (λ name. is_among_paths drops (child directory name)) given ≡ is_fit_run roots drops request
fit_run roots drops request directory names given is same h =
    fit_area roots drops request directory given h ∙ ap (λ given. is_fit_area roots drops request (areas.Names directory given)) same ∙ ap (is_fit_area roots drops request) (sym is)

all_alike : {A : Type 0} (f g : A → Bool) (xs : List A) → ((x : A) → f x ≡ g x) → list_all f xs ≡ list_all g xs
all_alike f g [] alike = refl
all_alike f g (x ∷ xs) alike = (λ i. alike x i && all_alike f g xs alike i)

fit_area-same : (roots : Roots) (a b : List Path) → HoldSame a b → (request : Request) (area : Area) → is_fit_area roots a request area ≡ is_fit_area roots b request area
fit_area-same roots a b alike request areas.Nothing = refl
fit_area-same roots a b alike request (areas.Under directory) = refl
fit_area-same roots a b alike request (areas.Names directory names) =
    ap (λ t. is_kernel_name (name_in roots.modules directory) && pointwise bytes_eq names index_names && same_path request.dir roots.base && same_paths request.seen (directory ∷ []) && t)
    (all_alike _ _ index_names (λ name. alike (child directory name)))

-- the runs fit by any list of the same Drops
pub fit_runs-same : (roots : Roots) (a b : List Path) (requests : List Request) → HoldSame a b → list_all (is_fit_run roots a) requests ≡ list_all (is_fit_run roots b) requests
fit_runs-same roots a b requests alike = all_alike _ _ requests (λ request. fit_area-same roots a b alike request request.area)
