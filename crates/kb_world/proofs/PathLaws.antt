-- Which paths lie below which.
use Rattle.std.proofs.Common.{◌≡◌, ℕ, zero, suc, Bool, true, false, ◌&&◌, ◌||◌, not, List, [], ◌∷◌, ◌++◌, length, take, drop, get_or, ◌≤◌, ◌<◌, arith, Some, None, refl, sym, ap, ◌∙◌, subst, inl, inr, ◌⊎◌}
use Rattle.std.specs.Prelude.{bytes_eq}
use Rattle.std.specs.List.{slice_get, list_any}
use Rattle.std.specs.Cmp.{first_so, second_so}
use Rattle.std.specs.Cmp.Derive.{both_true}
use Rattle.std.specs.Cmp.Lexicographic.{bytes_decides}
use Rattle.kb_world.specs.Names.{is_name}
use Rattle.kb_world.specs.Path.{Path, IsPath, is_under, are_apart}

same_name : (a b : List ℕ) → bytes_eq a b ≡ true → a ≡ b
same_name a b = (bytes_decides a b).0

own_name : (a : List ℕ) → bytes_eq a a ≡ true
own_name a = (bytes_decides a a).1 refl

-- every path is under the root
pub under-root : (p : Path) → is_under p [] ≡ true
under-root p = refl

-- what is below a directory is under it
pub under-append : (a p : Path) → is_under (a ++ p) a ≡ true
under-append [] p = refl
under-append (n ∷ a) p = both_true (own_name n) (under-append a p)

pub under-self : (a : Path) → is_under a a ≡ true
under-self [] = refl
under-self (n ∷ a) = both_true (own_name n) (under-self a)

-- below one directory, it is the rest that counts
pub under-beside : (a p q : Path) → is_under (a ++ p) (a ++ q) ≡ is_under p q
under-beside [] p q = refl
under-beside (n ∷ a) p q = ap (λ b. b && is_under (a ++ p) (a ++ q)) (own_name n) ∙ under-beside a p q

-- what is under a directory further down is under the one above
pub under-above : (p a b : Path) → is_under p (a ++ b) ≡ true → is_under p a ≡ true
under-above p [] b h = refl
under-above [] (n ∷ a) b h = let q : true ≡ false = sym h in cc
under-above (m ∷ p) (n ∷ a) b h = both_true (first_so (bytes_eq n m) _ h) (under-above p a b (second_so (bytes_eq n m) _ h))

-- of two directories above one path, one is under the other
pub comparable : (p a b : Path) → is_under p a ≡ true → is_under p b ≡ true → (is_under a b ≡ true) ⊎ (is_under b a ≡ true)
comparable p a [] h k = inl refl
comparable p [] (y ∷ b) h k = inr refl
comparable [] (x ∷ a) (y ∷ b) h k = let q : true ≡ false = sym h in cc
comparable (n ∷ p) (x ∷ a) (y ∷ b) h k =
    let x_is : x ≡ n = same_name x n (first_so (bytes_eq x n) _ h) in
    let y_is : y ≡ n = same_name y n (first_so (bytes_eq y n) _ k) in
    let same : x ≡ y = x_is ∙ sym y_is in
    elim (comparable p a b (second_so (bytes_eq x n) _ h) (second_so (bytes_eq y n) _ k)) as (λ _. (is_under (x ∷ a) (y ∷ b) ≡ true) ⊎ (is_under (y ∷ b) (x ∷ a) ≡ true)) [
      | inl below ↦ inl (both_true (subst (λ z. bytes_eq z x ≡ true) same (own_name x)) below)
      | inr above ↦ inr (both_true (subst (λ z. bytes_eq x z ≡ true) same (own_name x)) above)
    ]

not_both : (b : Bool) → b ≡ true → not b ≡ true → ⊥
not_both true h k = let q : true ≡ false = sym k in cc
not_both false h k = let q : true ≡ false = sym h in cc

pub by_test : (b : Bool) → (b ≡ true → ⊥) → b ≡ false
by_test true never = absurd (never refl)
by_test false never = refl

-- what is under one of two that are apart isn't under the other
pub elsewhere : (p a b : Path) → are_apart a b ≡ true → is_under p a ≡ true → is_under p b ≡ false
elsewhere p a b apart h = by_test (is_under p b) (λ k. elim (comparable p a b h k) as (λ _. ⊥) [
  | inl below ↦ not_both (is_under a b) below (first_so (not (is_under a b)) _ apart)
  | inr above ↦ not_both (is_under b a) above (second_so (not (is_under a b)) _ apart)
])

-- nor under anything in the other
pub elsewhere-below : (p a b c : Path) → are_apart a b ≡ true → is_under p a ≡ true → is_under p (b ++ c) ≡ false
elsewhere-below p a b c apart h = by_test (is_under p (b ++ c)) (λ k. let out = elsewhere p a b apart h in let q : true ≡ false = sym (under-above p b c k) ∙ out in cc)

-- being apart has no direction
pub apart-back : (a b : Path) → are_apart a b ≡ true → are_apart b a ≡ true
apart-back a b h = both_true (second_so (not (is_under a b)) _ h) (first_so (not (is_under a b)) _ h)

pub drop-front : (a p : Path) → drop (length a) (a ++ p) ≡ p
drop-front [] p = refl
drop-front (n ∷ a) p = drop-front a p

some_same : (a b : List ℕ) → Some a ≡ Some b → a ≡ b
some_same a b e = cc

and_true : (b : Bool) → (b && true) ≡ b
and_true true = refl
and_true false = refl

-- of a path below a directory, the first name behind it tells whether it is under that entry
pub under_entry : (p a : Path) (name first : List ℕ) (names : Path) → is_under p a ≡ true → names ≡ drop (length a) p → slice_get names 0 ≡ Some first
    → is_under p (a ++ name ∷ []) ≡ bytes_eq name first
under_entry p [] name first [] h e f = let q : None ≡ Some first = f in cc
under_entry p [] name first (n ∷ rest) h e f =
    let same : n ≡ first = some_same n first f in
    ap (λ q. is_under q (name ∷ [])) (sym e) ∙ and_true (bytes_eq name n) ∙ ap (bytes_eq name) same
under_entry [] (n ∷ a) name first names h e f = let q : true ≡ false = sym h in cc
under_entry (m ∷ p) (n ∷ a) name first names h e f =
    ap (λ b. b && is_under p (a ++ name ∷ [])) (first_so (bytes_eq n m) _ h) ∙ under_entry p a name first names (second_so (bytes_eq n m) _ h) e f

-- the directory itself isn't
pub under_no_entry : (p a : Path) (name : List ℕ) (names : Path) → is_under p a ≡ true → names ≡ drop (length a) p → names ≡ [] → is_under p (a ++ name ∷ []) ≡ false
under_no_entry p [] name names h e f = ap (λ q. is_under q (name ∷ [])) (sym e ∙ f)
under_no_entry [] (n ∷ a) name names h e f = let q : true ≡ false = sym h in cc
under_no_entry (m ∷ p) (n ∷ a) name names h e f =
    ap (λ b. b && is_under p (a ++ name ∷ [])) (first_so (bytes_eq n m) _ h) ∙ under_no_entry p a name names (second_so (bytes_eq n m) _ h) e f

-- nor is what isn't under the directory
pub under_other : (p a : Path) (name : List ℕ) → is_under p a ≡ false → is_under p (a ++ name ∷ []) ≡ false
under_other p a name h = by_test (is_under p (a ++ name ∷ [])) (λ k. let q : true ≡ false = sym (under-above p a (name ∷ []) k) ∙ h in cc)

-- the names behind the first so many are names
pub named_behind : (path : Path) (n : ℕ) → IsPath path → IsPath (drop n path)
named_behind [] zero named = named
named_behind [] (suc n) named = named
named_behind (name ∷ path) zero named = named
named_behind (name ∷ path) (suc n) named = named_behind path n (second_so (is_name name) _ named)

pub named_front : (path : Path) (n : ℕ) → IsPath path → IsPath (take n path)
named_front [] zero named = named
named_front [] (suc n) named = named
named_front (name ∷ path) zero named = refl
named_front (name ∷ path) (suc n) named = both_true (first_so (is_name name) _ named) (named_front path n (second_so (is_name name) _ named))

pub named_part : (path names : Path) (m n : ℕ) → names ≡ path → IsPath path → IsPath (take m (drop n names))
named_part path names m n is named = named_front (drop n names) m (named_behind names n (subst IsPath (sym is) named))

-- under a directory, it is the names behind it that count
under_behind : (p a b : Path) → is_under p a ≡ true → is_under p (a ++ b) ≡ is_under (drop (length a) p) b
under_behind p [] b h = refl
under_behind [] (n ∷ a) b h = let q : true ≡ false = sym h in cc
under_behind (m ∷ p) (n ∷ a) b h = ap (λ t. t && is_under p (a ++ b)) (first_so (bytes_eq n m) _ h) ∙ under_behind p a b (second_so (bytes_eq n m) _ h)

-- the first name tells whether names are under one of these
pub any_first : (names own : Path) (first : List ℕ) → first ≡ get_or names 0 first → 1 ≤ length names → list_any (λ n. bytes_eq n first) own ≡ list_any (λ n. is_under names (n ∷ [])) own
any_first [] own first e l = absurd (omega (arith, l))
any_first (name ∷ rest) [] first e l = refl
any_first (name ∷ rest) (n ∷ own) first e l = λ i. ((ap (bytes_eq n) e ∙ sym (and_true (bytes_eq n name))) i || any_first (name ∷ rest) own first e l i)

pub none_first : (own : Path) (names : Path) → length names < 1 → false ≡ list_any (λ n. is_under names (n ∷ [])) own
none_first own (name ∷ rest) l = absurd (omega (arith, l))
none_first [] [] l = refl
none_first (n ∷ own) [] l = none_first own [] l

-- of a path below a directory, the names behind it tell whether it is under one of these entries
pub any_behind : (p a own names : Path) → is_under p a ≡ true → names ≡ drop (length a) p → list_any (λ n. is_under names (n ∷ [])) own ≡ list_any (λ n. is_under p (a ++ n ∷ [])) own
any_behind p a [] names h e = refl
any_behind p a (n ∷ own) names h e = λ i. ((ap (λ q. is_under q (n ∷ [])) e ∙ sym (under_behind p a (n ∷ []) h)) i || any_behind p a own names h e i)

pub none_behind : (p a own : Path) → is_under p a ≡ false → false ≡ list_any (λ n. is_under p (a ++ n ∷ [])) own
none_behind p a [] h = refl
none_behind p a (n ∷ own) h = none_behind p a own h ∙ sym (ap (λ t. t || list_any (λ n. is_under p (a ++ n ∷ [])) own) (under_other p a n h))

-- tests by root, or by place with the scratch trees behind them
pub by_roots : (i n s t x y b p : Bool) → (((((i || (n || (s || false))) || t) || x) || y) || (b || (p || false))) ≡ ((i || (n || (s || (x || (y || (b || (p || false))))))) || t)
by_roots true n s t x y b p = refl
by_roots false true s t x y b p = refl
by_roots false false true t x y b p = refl
by_roots false false false true true y b p = refl
by_roots false false false true false true b p = refl
by_roots false false false true false false true p = refl
by_roots false false false true false false false true = refl
by_roots false false false true false false false false = refl
by_roots false false false false true y b p = refl
by_roots false false false false false true b p = refl
by_roots false false false false false false true p = refl
by_roots false false false false false false false true = refl
by_roots false false false false false false false false = refl

-- a path under a directory is that directory's with names behind it
pub under-split : (p a : Path) → is_under p a ≡ true → p ≡ a ++ drop (length a) p
under-split p [] h = refl
under-split [] (n ∷ a) h = let impossible : true ≡ false = sym h in cc
under-split (m ∷ p) (n ∷ a) h =
    let same = (bytes_decides n m).0 (first_so (bytes_eq n m) (is_under p a) h) in
    let below = under-split p a (second_so (bytes_eq n m) (is_under p a) h) in
    λ i. sym same i ∷ below i
