-- What is left of a list, one item less.
use Rattle.std.proofs.Common.{◌≡◌, ℕ, suc, ◌+◌, ◌<◌, Bool, true, false, ◌&&◌, List, [], ◌∷◌, ◌++◌, length, drop, get_or, filter_map, Option, Some, None, sym, ap, ◌∙◌, add-one, drop-cons, append_assoc}
use Rattle.std.specs.List.{list_all, cons_option}

-- the item and what is behind it
pub next_item : {A : Type 0} (xs : List A) (i : ℕ) (x : A) → i < length xs → get_or xs i x ≡ x → drop i xs ≡ x ∷ drop (i + 1) xs
next_item xs i x within is = rw (add-one) (drop-cons xs i x within ∙ ap (λ y. y ∷ drop (suc i) xs) is)

-- the test of what is left, where it passes and where it doesn't
pub all_on : {A : Type 0} (f : A → Bool) (whole rest more : List A) (x : A) → list_all f whole ≡ list_all f rest → rest ≡ x ∷ more → f x ≡ true → list_all f whole ≡ list_all f more
all_on f whole rest more x so is passes = so ∙ ap (list_all f) is ∙ ap (λ b. b && list_all f more) passes

pub all_off : {A : Type 0} (f : A → Bool) (whole rest more : List A) (x : A) → list_all f whole ≡ list_all f rest → rest ≡ x ∷ more → f x ≡ false → list_all f whole ≡ false
all_off f whole rest more x so is fails = so ∙ ap (list_all f) is ∙ ap (λ b. b && list_all f more) fails

-- what is given of the items so far, and of what is left
pub given_more : {A B : Type 0} (f : A → Option B) (so_far now : List B) (whole rest more : List A) (x : A) (y : B) →
    so_far ++ filter_map f rest ≡ filter_map f whole → rest ≡ x ∷ more → f x ≡ Some y → now ≡ so_far ++ y ∷ [] → now ++ filter_map f more ≡ filter_map f whole
given_more f so_far now whole rest more x y so is gives pushed =
    ap (λ ys. ys ++ filter_map f more) pushed ∙ append_assoc so_far (y ∷ []) (filter_map f more)
    ∙ ap (λ o. so_far ++ cons_option o (filter_map f more)) (sym gives) ∙ ap (λ xs. so_far ++ filter_map f xs) (sym is) ∙ so

pub given_none : {A B : Type 0} (f : A → Option B) (so_far : List B) (whole rest more : List A) (x : A) →
    so_far ++ filter_map f rest ≡ filter_map f whole → rest ≡ x ∷ more → f x ≡ None → so_far ++ filter_map f more ≡ filter_map f whole
given_none f so_far whole rest more x so is gives =
    ap (λ o. so_far ++ cons_option o (filter_map f more)) (sym gives) ∙ ap (λ xs. so_far ++ filter_map f xs) (sym is) ∙ so
