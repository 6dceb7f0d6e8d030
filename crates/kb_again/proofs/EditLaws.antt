-- What one change leaves at each path.
use Rattle.std.proofs.Common.{◌≡◌, ◌⊎◌, inl, inr, true, false, ◌||◌, List, [], ◌∷◌, refl, sym, ap, ◌∙◌, Some, None, is_some}
use Rattle.std.specs.declared.option.Option.{Option}
use Rattle.kb_world.specs.TreeLaws.{same_path, same_path-true, same_path-refl, same_path-false}
use Rattle.std.specs.List.{list_any}
use Rattle.kb_world.specs.Tree.{node_at, Tree, is_dir}
use Rattle.std.specs.FinMap.{keys, contains_key-keys}
use Rattle.std.proofs.lemmas.Bool.{cases_Bool, true≢false, or_cases}
use Rattle.kb_again.proofs.PathLaws.{is_above, listed_more, listed_first, is_listed}
use Rattle.kb_world.specs.declared.tree.Node.{Node}
use Rattle.kb_world.specs.Path.{Path}
use Rattle.kb_world.specs.declared.tree.Node.TheVariants as node

pub dir_is : (o : Option Node) → is_dir o ≡ true → o ≡ Some node.Dir
dir_is None h = absurd (true≢false (sym h))
dir_is (Some node.Dir) h = refl
dir_is (Some (node.File bytes exec)) h = absurd (true≢false (sym h))
dir_is (Some (node.Link text)) h = absurd (true≢false (sym h))

pub dir_test : (o : Option Node) → o ≡ Some node.Dir → is_dir o ≡ true
dir_test o e = ap is_dir e

pub stands_some : (o : Option Node) → (o ≡ None → ⊥) → is_some o ≡ true
stands_some None h = absurd (h refl)
stands_some (Some n) h = refl

pub some_stands : (o : Option Node) → is_some o ≡ true → o ≡ None → ⊥
some_stands o h e = true≢false (sym h ∙ ap is_some e)

pub same_or_not : (q p : Path) → (q ≡ p) ⊎ (q ≡ p → ⊥)
same_or_not q p = elim (cases_Bool (same_path q p)) [
  | inl same ↦ inl (same_path-true q p same)
  | inr other ↦ inr (λ same. true≢false (sym (ap (λ x. same_path x p) same ∙ same_path-refl p) ∙ other))
]

-- something that stands below, or nothing does
witness_in : (p : Path) (ks : List Path) → list_any (is_above p) ks ≡ true → (r : Path) × (is_above p r ≡ true) × (is_listed r ks ≡ true)
witness_in p [] h = absurd (true≢false (sym h))
witness_in p (k ∷ ks) h = elim (or_cases _ _ h) [
  | inl here ↦ (k, here, listed_first k k ks refl)
  | inr there ↦ let w = witness_in p ks there in (w.0, w.1, listed_more w.0 k ks w.2)
]

none_in : (p : Path) (ks : List Path) → list_any (is_above p) ks ≡ false → (r : Path) → is_above p r ≡ true → is_listed r ks ≡ false
none_in p [] h r below = refl
none_in p (k ∷ ks) h r below = elim (same_or_not r k) [
  | inl same ↦ absurd (true≢false (sym (ap (λ b. b || list_any (is_above p) ks) (ap (is_above p) (sym same) ∙ below)) ∙ h))
  | inr other ↦
      ap (λ b. b || is_listed r ks) (same_path-false r k other)
      ∙ none_in p ks (elim (cases_Bool (is_above p k)) [
        | inl here ↦ absurd (true≢false (sym (ap (λ b. b || list_any (is_above p) ks) here) ∙ h))
        | inr not_here ↦ sym (ap (λ b. b || list_any (is_above p) ks) not_here) ∙ h
      ]) r below
]

pub record Empty (t : Tree) (p : Path) : Type 0 where
  pub none : (r : Path) → is_above p r ≡ true → node_at t r ≡ None

pub record Filled (t : Tree) (p : Path) : Type 0 where
  pub path : Path
  pub below : is_above p path ≡ true
  pub stands : node_at t path ≡ None → ⊥

none_here : (o : Option Node) → is_some o ≡ false → o ≡ None
none_here None h = refl
none_here (Some n) h = absurd (true≢false h)

pub empty_or_filled : (t : Tree) (p : Path)
    → ((list_any (is_above p) (keys t) ≡ false) × Empty t p) ⊎ ((list_any (is_above p) (keys t) ≡ true) × Filled t p)
empty_or_filled t p = elim (cases_Bool (list_any (is_above p) (keys t))) [
  | inl some ↦
      let w = witness_in p (keys t) some in
      inr (some, record { path = w.0; below = w.1; stands = some_stands _ (contains_key-keys t w.0 ∙ w.2) })
  | inr none ↦ inl (none, record { none = λ r below. none_here _ (contains_key-keys t r ∙ none_in p (keys t) none r below) })
]
