-- A list has one stable sort.
use Rattle.std.proofs.Common.{◌≡◌, ◌⊎◌, inl, inr, suc, Bool, true, false, cond, not, List, [], ◌∷◌, map, refl, sym, ap, ◌∙◌, subst, arith, add-one, get_or}
use Rattle.std.specs.List.{Contains, filter}
use Rattle.std.specs.List.Sorted.{IsSortedBy, ties}
use Rattle.std.specs.Cmp.{IsStrictWeakOrder}
use Rattle.std.proofs.lemmas.Bool.{cases_Bool, true≢false, and_from}
use Rattle.std.proofs.lemmas.List.Elements.{Contains-append_left, Contains-append_right, Contains-append_cases, Contains-push, Contains-push_cases}
use Rattle.std.proofs.lemmas.List.Sorted.{sorted_far}

-- ---- what a list contains

module _ {X : Type 0} where
  pub here : (x : X) (xs : List X) → Contains (x ∷ xs) x
  here x xs = Contains-append_left (x ∷ []) xs x (Contains-push [] x)

  pub there : (x : X) (xs : List X) (y : X) → Contains xs y → Contains (x ∷ xs) y
  there x xs y h = Contains-append_right (x ∷ []) xs y h

  pub nowhere : (y : X) → Contains [] y → ⊥
  nowhere y h = omega (arith, h.1)

  pub either : (x : X) (xs : List X) (y : X) → Contains (x ∷ xs) y → (x ≡ y) ⊎ Contains xs y
  either x xs y h = elim (Contains-append_cases (x ∷ []) xs y h) [
    | inl one ↦ elim (Contains-push_cases [] x y one) [ inl none ↦ absurd (nowhere y none) | inr is ↦ inl is ]
    | inr more ↦ inr more
  ]

  -- what a filter keeps
  pub kept_from : (test : X → Bool) (xs : List X) (y : X) → Contains (filter test xs) y → Contains xs y × (test y ≡ true)
  kept_from test [] y h = absurd (nowhere y h)
  kept_from test (x ∷ xs) y h = by (kept_from test xs y) (test x) refl h
    where
      by : (Contains (filter test xs) y → Contains xs y × (test y ≡ true)) → (b : Bool) → test x ≡ b → Contains (cond b (x ∷ filter test xs) (filter test xs)) y → Contains (x ∷ xs) y × (test y ≡ true)
      by below true is c = elim (either x (filter test xs) y c) [
        | inl same ↦ (subst (Contains (x ∷ xs)) same (here x xs), ap test (sym same) ∙ is)
        | inr more ↦ (let r = below more in (there x xs y r.0, r.1))
      ]
      by below false is c = let r = below c in (there x xs y r.0, r.1)

  pub is_kept : (test : X → Bool) (xs : List X) (y : X) → Contains xs y → test y ≡ true → Contains (filter test xs) y
  is_kept test [] y h so = absurd (nowhere y h)
  is_kept test (x ∷ xs) y h so = by (λ more. is_kept test xs y more so) (test x) refl
    where
      by : (Contains xs y → Contains (filter test xs) y) → (b : Bool) → test x ≡ b → Contains (cond b (x ∷ filter test xs) (filter test xs)) y
      by below true is = elim (either x xs y h) [
        | inl same ↦ subst (Contains (x ∷ filter test xs)) same (here x (filter test xs))
        | inr more ↦ there x (filter test xs) y (below more)
      ]
      by below false is = elim (either x xs y h) [
        | inl same ↦ absurd (true≢false (sym so ∙ ap test (sym same) ∙ is))
        | inr more ↦ below more
      ]

module _ {X Y : Type 0} (made : X → Y) where
  pub made_from : (xs : List X) (y : Y) → Contains (map made xs) y → (x : X) × Contains xs x × (y ≡ made x)
  made_from [] y h = absurd (nowhere y h)
  made_from (x ∷ xs) y h = elim (either (made x) (map made xs) y h) [
    | inl same ↦ (x, here x xs, sym same)
    | inr more ↦ (let r = made_from xs y more in (r.0, there x xs r.0 r.1, r.2))
  ]

  pub is_made : (xs : List X) (x : X) → Contains xs x → Contains (map made xs) (made x)
  is_made [] x h = absurd (nowhere x h)
  is_made (z ∷ xs) x h = elim (either z xs x h) [
    | inl same ↦ subst (λ t. Contains (made z ∷ map made xs) (made t)) same (here (made z) (map made xs))
    | inr more ↦ there (made z) (map made xs) (made x) (is_made xs x more)
  ]

-- ---- one stable sort

abbrev front_of : {X : Type 0} → X → List X → X
front_of d [] = d
front_of d (x ∷ xs) = x

abbrev rest_of : {X : Type 0} → List X → List X
rest_of [] = []
rest_of (x ∷ xs) = xs

module _ {X : Type 0} (lt : X → X → Bool) (ranks : IsStrictWeakOrder lt) where
  -- the same elements tie with each
  abbrev pub TiesAlike : List X → List X → Type 0
  TiesAlike xs ys = (x : X) → filter (ties lt x) xs ≡ filter (ties lt x) ys

  never_itself : (x : X) → lt x x ≡ false
  never_itself x = elim (cases_Bool (lt x x)) [ inl so ↦ absurd (true≢false (sym so ∙ ranks.one_way x x so)) | inr apart ↦ apart ]

  tied : (x y : X) → lt x y ≡ false → lt y x ≡ false → ties lt x y ≡ true
  tied x y a b = and_from (not (lt x y)) (not (lt y x)) (ap not a) (ap not b)

  ties_itself : (x : X) → ties lt x x ≡ true
  ties_itself x = tied x x (never_itself x) (never_itself x)

  -- the first is not greater than any
  first_least : (x : X) (xs : List X) (y : X) → IsSortedBy lt (x ∷ xs) → Contains (x ∷ xs) y → lt y x ≡ false
  first_least x xs y up h = subst (λ z. lt z x ≡ false) h.2 (sorted_far lt ranks (x ∷ xs) up 0 h.0 y (omega arith) h.1)

  pub sorted_rest : (x : X) (xs : List X) → IsSortedBy lt (x ∷ xs) → IsSortedBy lt xs
  sorted_rest x xs up = λ k d low row.
      let at = up (suc k) d (omega arith) (omega (arith, row)) in
      let next = subst (λ n. lt (get_or (x ∷ xs) n d) (get_or xs k d) ≡ false) (add-one (suc k)) at in
      subst (λ n. lt (get_or xs n d) (get_or xs k d) ≡ false) (sym (add-one k)) next

  alike_member : (x : X) (xs ys : List X) → TiesAlike (x ∷ xs) ys → Contains ys x
  alike_member x xs ys same = (kept_from (ties lt x) ys x (subst (λ l. Contains l x) (same x) (is_kept (ties lt x) (x ∷ xs) x (here x xs) (ties_itself x)))).0

  first_same : (x : X) (xs : List X) (y : X) (ys : List X) → IsSortedBy lt (x ∷ xs) → IsSortedBy lt (y ∷ ys) → TiesAlike (x ∷ xs) (y ∷ ys) → x ≡ y
  first_same x xs y ys up upper same =
      let below = first_least y ys x upper (alike_member x xs (y ∷ ys) same) in
      let above = first_least x xs y up (alike_member y ys (x ∷ xs) (λ z. sym (same z))) in
      let kept_x = ap (λ b. cond b (x ∷ filter (ties lt x) xs) (filter (ties lt x) xs)) (ties_itself x) in
      let kept_y = ap (λ b. cond b (y ∷ filter (ties lt x) ys) (filter (ties lt x) ys)) (tied x y below above) in
      ap (front_of x) (sym kept_x ∙ same x ∙ kept_y)

  rest_alike : (x : X) (xs ys : List X) → TiesAlike (x ∷ xs) (x ∷ ys) → TiesAlike xs ys
  rest_alike x xs ys same z = by (ties lt z x) (same z)
    where
      by : (b : Bool) → cond b (x ∷ filter (ties lt z) xs) (filter (ties lt z) xs) ≡ cond b (x ∷ filter (ties lt z) ys) (filter (ties lt z) ys) → filter (ties lt z) xs ≡ filter (ties lt z) ys
      by true e = ap rest_of e
      by false e = e

  pub one_sort : (xs ys : List X) → IsSortedBy lt xs → IsSortedBy lt ys → TiesAlike xs ys → xs ≡ ys
  one_sort [] [] up upper same = refl
  one_sort [] (y ∷ ys) up upper same = absurd (nowhere y (alike_member y ys [] (λ z. sym (same z))))
  one_sort (x ∷ xs) [] up upper same = absurd (nowhere x (alike_member x xs [] same))
  one_sort (x ∷ xs) (y ∷ ys) up upper same =
      let first = first_same x xs y ys up upper same in
      let alike = rest_alike x xs ys (subst (λ t. TiesAlike (x ∷ xs) (t ∷ ys)) (sym first) same) in
      let rest = one_sort xs ys (sorted_rest x xs up) (sorted_rest y ys upper) alike in
      λ i. first i ∷ rest i
