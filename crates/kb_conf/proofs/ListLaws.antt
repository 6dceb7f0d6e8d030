-- Lists that grow by one item.
use Rattle.std.proofs.Common.{◌≡◌, ℕ, ◌+◌, ◌<◌, Bool, true, false, cond, List, [], ◌∷◌, ◌++◌, length, take, drop, map, filter, get_or, Option, Some, None, refl, sym, ap, ◌∙◌, arith}
use Rattle.std.specs.List.{range_with_len}
use Rattle.std.specs.Option.{option_or}
use Rattle.std.proofs.lemmas.List.{take_more, take-append-drop}
use Rattle.std.proofs.Math.Seq.{drop-cons}
use Rattle.std.proofs.lemmas.List.FromFn.{filter_of_map_range_with_len_more}
use Rattle.kb_conf.specs.Bad.{first_of}
use Rattle.kb_conf.specs.Fields.{last_that}

map_same : (xs : List ℕ) → map (λ x. x) xs ≡ xs
map_same [] = refl
map_same (x ∷ xs) = ap (λ t. x ∷ t) (map_same xs)

-- one number more
pub numbers_more : (p : ℕ → Bool) (n : ℕ) → filter p (range_with_len 0 (n + 1)) ≡ filter p (range_with_len 0 n) ++ cond (p n) (n ∷ []) []
numbers_more p n =
    ap (filter p) (sym (map_same (range_with_len 0 (n + 1)))) ∙ filter_of_map_range_with_len_more p (λ x. x) 0 n n (omega arith)
    ∙ ap (λ t. filter p t ++ cond (p n) (n ∷ []) []) (map_same (range_with_len 0 n))

or_later : {B : Type 0} (a b c : Option B) → option_or a (option_or b c) ≡ option_or (option_or a b) c
or_later None b c = refl
or_later (Some x) b c = refl

first_of-append : {A B : Type 0} (f : A → Option B) (xs ys : List A) → first_of f (xs ++ ys) ≡ option_or (first_of f xs) (first_of f ys)
unfolding first_of
first_of-append f [] ys = refl
first_of-append f (x ∷ xs) ys = ap (option_or (f x)) (first_of-append f xs ys) ∙ or_later (f x) (first_of f xs) (first_of f ys)

first_of-one : {A B : Type 0} (f : A → Option B) (x : A) → f x ≡ None → first_of f (x ∷ []) ≡ None
unfolding first_of
first_of-one f x e = ap (λ o. option_or o None) e

-- where neither the items so far nor the next one give anything
pub first_stays : {A B : Type 0} (f : A → Option B) (xs : List A) (k : ℕ) (d : A) → k < length xs → first_of f (take k xs) ≡ None →
    f (get_or xs k d) ≡ None → first_of f (take (k + 1) xs) ≡ None
first_stays f xs k d lt none here =
    ap (first_of f) (take_more xs k d lt) ∙ first_of-append f (take k xs) (get_or xs k d ∷ [])
    ∙ ap (λ o. option_or o (first_of f (get_or xs k d ∷ []))) none ∙ first_of-one f (get_or xs k d) here

first_of-front : {A B : Type 0} (f : A → Option B) (x : A) (xs : List A) (b : B) → f x ≡ Some b → first_of f (x ∷ xs) ≡ Some b
unfolding first_of
first_of-front f x xs b e = ap (λ o. option_or o (first_of f xs)) e

-- where the items so far give nothing and the next one gives something
pub first_found : {A B : Type 0} (f : A → Option B) (xs : List A) (k : ℕ) (d : A) (b : B) → k < length xs → first_of f (take k xs) ≡ None →
    f (get_or xs k d) ≡ Some b → first_of f xs ≡ Some b
first_found f xs k d b lt none here =
    ap (first_of f) (sym (take-append-drop k xs)) ∙ first_of-append f (take k xs) (drop k xs)
    ∙ ap (λ o. option_or o (first_of f (drop k xs))) none ∙ ap (first_of f) (drop-cons xs k d lt) ∙ first_of-front f (get_or xs k d) _ b here

last_that-more : (p : ℕ → Bool) (xs : List ℕ) (x : ℕ) → last_that p (xs ++ x ∷ []) ≡ cond (p x) (Some x) (last_that p xs)
unfolding last_that
last_that-more p [] x = or_none (p x) x
  where
    or_none : (b : Bool) (x : ℕ) → option_or None (cond b (Some x) None) ≡ cond b (Some x) None
    or_none b x = refl
last_that-more p (y ∷ xs) x = ap (λ o. option_or o (cond (p y) (Some y) None)) (last_that-more p xs x) ∙ kept (p x) x (last_that p xs) (cond (p y) (Some y) None)
  where
    kept : (b : Bool) (x : ℕ) (rest other : Option ℕ) → option_or (cond b (Some x) rest) other ≡ cond b (Some x) (option_or rest other)
    kept true x rest other = refl
    kept false x rest other = refl

-- one item more
pub last_more : (p : ℕ → Bool) (xs : List ℕ) (k : ℕ) (d : ℕ) → k < length xs → last_that p (take (k + 1) xs) ≡ cond (p (get_or xs k d)) (Some (get_or xs k d)) (last_that p (take k xs))
last_more p xs k d lt = ap (last_that p) (take_more xs k d lt) ∙ last_that-more p (take k xs) (get_or xs k d)
