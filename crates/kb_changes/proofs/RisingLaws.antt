-- Lists of paths that rise: such a list is what its paths give in order.
use Rattle.std.proofs.Common.{Less, ◌≡◌, true, false, ◌||◌, List, [], ◌∷◌, refl, sym, ap, ◌∙◌, subst, inl, inr}
use Rattle.std.specs.List.Sorted.{IsStrictlySortedBy}
use Rattle.std.proofs.lemmas.Bool.{cases_Bool, true≢false}
use Rattle.kb_world.specs.Path.{Path, path_cmp}
use Rattle.kb_world.specs.Patch.{in_order, is_listed}
use Rattle.kb_world.specs.TreeLaws.{same_path, same_path-true, same_path-refl}
use Rattle.kb_world.proofs.AboveLaws.{each-listed}
use Rattle.kb_world.proofs.ListedLaws.{listed-in_order}
use Rattle.kb_world.proofs.OrderLaws.{IsRising, in_order_rises, less-once}
use Rattle.kb_changes.specs.Valid.{HoldSame}

first_listed : (path : Path) (paths : List Path) → is_listed path (path ∷ paths) ≡ true
first_listed path paths = ap (λ b. b || is_listed path paths) (same_path-refl path)

-- the first of the one is the first of the other
same_first : (a b : Path) (more_a more_b : List Path) → IsRising (a ∷ more_a) → IsRising (b ∷ more_b) → is_listed a (b ∷ more_b) ≡ true → is_listed b (a ∷ more_a) ≡ true → a ≡ b
same_first a b more_a more_b rise_a rise_b there back = elim (cases_Bool (same_path a b)) [
  | inl is ↦ same_path-true a b is
  | inr isnt ↦ elim (cases_Bool (same_path b a)) [
    | inl is ↦ sym (same_path-true b a is)
    | inr isnt_b ↦ absurd (less-once b a
        (each-listed (λ later. path_cmp b later ≡ Less) more_b rise_b.0 a (sym (ap (λ x. x || is_listed a more_b) isnt) ∙ there))
        (each-listed (λ later. path_cmp a later ≡ Less) more_a rise_a.0 b (sym (ap (λ x. x || is_listed b more_a) isnt_b) ∙ back)))
  ]
]

-- lists that rise and name the same paths are the same
pub rising_same : (a b : List Path) → IsRising a → IsRising b → HoldSame a b → a ≡ b
rising_same [] [] rise_a rise_b same = refl
rising_same [] (b ∷ more_b) rise_a rise_b same = absurd (true≢false (sym (first_listed b more_b) ∙ sym (same b)))
rising_same (a ∷ more_a) [] rise_a rise_b same = absurd (true≢false (sym (first_listed a more_a) ∙ same a))
rising_same (a ∷ more_a) (b ∷ more_b) rise_a rise_b same =
    let first = same_first a b more_a more_b rise_a rise_b (sym (same a) ∙ first_listed a more_a) (same b ∙ first_listed b more_b) in
    let rest = rising_same more_a more_b rise_a.1 rise_b.1 (λ q. later q first) in
    ap (λ p. p ∷ more_a) first ∙ ap (λ ps. b ∷ ps) rest
  where
    none_behind : (p : Path) (ps : List Path) (q : Path) → IsRising (p ∷ ps) → same_path q p ≡ true → is_listed q ps ≡ false
    none_behind p ps q rise is = elim (cases_Bool (is_listed q ps)) [
      | inl listed ↦
          let less : path_cmp p p ≡ Less = subst (λ x. path_cmp p x ≡ Less) (same_path-true q p is) (each-listed (λ later. path_cmp p later ≡ Less) ps rise.0 q listed) in
          absurd (less-once p p less less)
      | inr out ↦ out
    ]

    later : (q : Path) → a ≡ b → is_listed q more_a ≡ is_listed q more_b
    later q first = elim (cases_Bool (same_path q a)) [
      | inl is ↦ none_behind a more_a q rise_a is ∙ sym (none_behind b more_b q rise_b (ap (same_path q) (sym first) ∙ is))
      | inr isnt ↦
          sym (ap (λ x. x || is_listed q more_a) isnt) ∙ same q ∙ ap (λ x. x || is_listed q more_b) (ap (same_path q) (sym first) ∙ isnt)
    ]

-- what is put in order goes by which paths there are
pub in_order-same : (a b : List Path) → HoldSame a b → in_order a ≡ in_order b
in_order-same a b same = rising_same (in_order a) (in_order b) (in_order_rises a) (in_order_rises b) (λ q. listed-in_order q a ∙ same q ∙ sym (listed-in_order q b))

rises : (paths : List Path) → IsStrictlySortedBy path_cmp paths → IsRising paths
unfolding IsStrictlySortedBy
rises [] s = tt
rises (p ∷ ps) s = (s.0, rises ps s.1)

-- a list that is sorted is in order
pub in_order-sorted : (paths : List Path) → IsStrictlySortedBy path_cmp paths → paths ≡ in_order paths
in_order-sorted paths sorted = rising_same paths (in_order paths) (rises paths sorted) (in_order_rises paths) (λ q. sym (listed-in_order q paths))
