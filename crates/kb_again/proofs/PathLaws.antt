-- Paths above paths, and paths of a list.
use Rattle.std.proofs.Common.{◌≡◌, ◌⊎◌, inl, inr, ℕ, suc, ◌-◌, Bool, true, false, not, ◌&&◌, ◌||◌, List, [], ◌∷◌, length, take, refl, sym, ap, ◌∙◌, subst, arith}
use Rattle.std.specs.Prelude.{bytes_eq}
use Rattle.std.specs.List.{list_any}
use Rattle.std.specs.Cmp.Lexicographic.{bytes_decides}
use Rattle.std.proofs.lemmas.Bool.{cases_Bool, true≢false, and_parts, and_from, or_cases}
use Rattle.kb_world.specs.Path.{Path, is_under, parent}
use Rattle.kb_world.specs.Roots.{is_below}
use Rattle.kb_world.specs.TreeLaws.{same_path, same_path-true, same_path-refl}

-- the directory is the path, or the path lies below it
abbrev pub is_over : Path → Path → Bool
is_over directory path = is_under path directory

-- the path lies below the directory
abbrev pub is_above : Path → Path → Bool
is_above directory path = is_below path directory

-- the path is one of the list
abbrev pub is_listed : Path → List Path → Bool
is_listed q ps = list_any (same_path q) ps

pub same_bytes : (a b : List ℕ) → bytes_eq a b ≡ true → a ≡ b
same_bytes a b = (bytes_decides a b).0

pub bytes_itself : (a : List ℕ) → bytes_eq a a ≡ true
bytes_itself a = (bytes_decides a a).1 refl

pub over_itself : (q : Path) → is_over q q ≡ true
over_itself [] = refl
over_itself (n ∷ q) = and_from _ _ (bytes_itself n) (over_itself q)

pub over_over : (p q r : Path) → is_over p q ≡ true → is_over q r ≡ true → is_over p r ≡ true
over_over [] q r h k = refl
over_over (a ∷ p) [] r h k = absurd (true≢false (sym h))
over_over (a ∷ p) (b ∷ q) [] h k = absurd (true≢false (sym k))
over_over (a ∷ p) (b ∷ q) (c ∷ r) h k =
    let ab = and_parts _ _ h in
    let bc = and_parts _ _ k in
    and_from _ _ (subst (λ x. bytes_eq x c ≡ true) (sym (same_bytes a b ab.0)) bc.0) (over_over p q r ab.1 bc.1)

-- two paths at or under each other are one
pub over_both : (p q : Path) → is_over p q ≡ true → is_over q p ≡ true → p ≡ q
over_both [] [] h k = refl
over_both [] (b ∷ q) h k = absurd (true≢false (sym k))
over_both (a ∷ p) [] h k = absurd (true≢false (sym h))
over_both (a ∷ p) (b ∷ q) h k =
    let ab = and_parts _ _ h in
    let ba = and_parts _ _ k in
    λ i. same_bytes a b ab.0 i ∷ over_both p q ab.1 ba.1 i

pub and_false : (b : Bool) → (b && false) ≡ false
and_false true = refl
and_false false = refl

pub not_so : (b : Bool) → not b ≡ true → b ≡ false
not_so true h = absurd (true≢false (sym h))
not_so false h = refl

pub above_over : (p q : Path) → is_above p q ≡ true → is_over p q ≡ true
above_over p q h = (and_parts _ _ h).0

-- one that is below isn't above
pub not_back : (p q : Path) → is_above p q ≡ true → is_over q p ≡ false
not_back p q h = not_so _ (and_parts _ _ h).1

pub above_from : (p q : Path) → is_over p q ≡ true → is_over q p ≡ false → is_above p q ≡ true
above_from p q h k = and_from _ _ h (ap not k)

pub over_cases : (p q : Path) → is_over p q ≡ true → (p ≡ q) ⊎ (is_above p q ≡ true)
over_cases p q h = elim (cases_Bool (is_over q p)) [
  | inl back ↦ inl (over_both p q h back)
  | inr not_one ↦ inr (above_from p q h not_one)
]

pub not_above_itself : (p : Path) → is_above p p ≡ true → ⊥
not_above_itself p h = true≢false (sym (over_itself p) ∙ not_back p p h)

pub over_above : (p q r : Path) → is_over p q ≡ true → is_above q r ≡ true → is_above p r ≡ true
over_above p q r h k = elim (cases_Bool (is_over r p)) [
  | inr not_one ↦ above_from p r (over_over p q r h (above_over q r k)) not_one
  | inl back ↦ absurd (true≢false (sym (over_over r p q back h) ∙ not_back q r k))
]

pub above_over_above : (p q r : Path) → is_above p q ≡ true → is_over q r ≡ true → is_above p r ≡ true
above_over_above p q r h k = elim (cases_Bool (is_over r p)) [
  | inr not_one ↦ above_from p r (over_over p q r (above_over p q h) k) not_one
  | inl back ↦ absurd (true≢false (sym (over_over q r p k back) ∙ not_back p q h))
]

-- the root is below nothing
pub none_above_root : (s : Path) → is_above s [] ≡ true → ⊥
none_above_root [] h = true≢false (sym h)
none_above_root (a ∷ s) h = true≢false (sym h)

-- name by name
pub above_names : (a b : List ℕ) (s r : Path) → is_above (a ∷ s) (b ∷ r) ≡ true → (bytes_eq a b ≡ true) × (is_above s r ≡ true)
above_names a b s r h =
    let both = and_parts (bytes_eq a b) (is_over s r) (above_over (a ∷ s) (b ∷ r) h) in
    let same : bytes_eq b a ≡ true = subst (λ x. bytes_eq x a ≡ true) (same_bytes a b both.0) (bytes_itself a) in
    (both.0, above_from s r both.1 (ap (λ x. x && is_over r s) (sym same) ∙ not_back (a ∷ s) (b ∷ r) h))

pub above_cons : (a b : List ℕ) (s r : Path) → bytes_eq a b ≡ true → is_above s r ≡ true → is_above (a ∷ s) (b ∷ r) ≡ true
above_cons a b s r same h =
    above_from (a ∷ s) (b ∷ r) (and_from _ _ same (above_over s r h))
    (ap (λ x. bytes_eq b a && x) (not_back s r h) ∙ and_false (bytes_eq b a))

-- the directory that a path stands in
pub parent_cons : (n m : List ℕ) (ns : Path) → parent (n ∷ (m ∷ ns)) ≡ n ∷ parent (m ∷ ns)
parent_cons n m ns =
    let longer : length (n ∷ (m ∷ ns)) - 1 ≡ suc (length ns) = omega arith in
    let shorter : length (m ∷ ns) - 1 ≡ length ns = omega arith in
    ap (λ k. take k (n ∷ (m ∷ ns))) longer ∙ sym (ap (λ k. n ∷ take k (m ∷ ns)) shorter)

pub over_parent : (n : List ℕ) (ns : Path) → is_over (parent (n ∷ ns)) (n ∷ ns) ≡ true
over_parent n [] = refl
over_parent n (m ∷ ns) = ap (λ p. is_over p (n ∷ (m ∷ ns))) (parent_cons n m ns) ∙ and_from _ _ (bytes_itself n) (over_parent m ns)

above_parent_of : (n : List ℕ) (ns : Path) → is_over (n ∷ ns) (parent (n ∷ ns)) ≡ false
above_parent_of n [] = refl
above_parent_of n (m ∷ ns) =
    ap (is_over (n ∷ (m ∷ ns))) (parent_cons n m ns) ∙ ap (λ b. bytes_eq n n && b) (above_parent_of m ns) ∙ and_false (bytes_eq n n)

pub above_parent : (p : Path) → (p ≡ []) ⊎ (is_above (parent p) p ≡ true)
above_parent [] = inl refl
above_parent (n ∷ ns) = inr (above_from (parent (n ∷ ns)) (n ∷ ns) (over_parent n ns) (above_parent_of n ns))

-- a directory above a path is at or above the one that the path stands in
pub above_up : (s : Path) (n : List ℕ) (ns : Path) → is_above s (n ∷ ns) ≡ true → is_over s (parent (n ∷ ns)) ≡ true
above_up [] n ns h = refl
above_up (a ∷ s) n [] h = absurd (none_above_root s (above_names a n s [] h).1)
above_up (a ∷ s) n (m ∷ ns) h =
    let both = above_names a n s (m ∷ ns) h in
    ap (is_over (a ∷ s)) (parent_cons n m ns) ∙ and_from _ _ both.0 (above_up s m ns both.1)

-- members
pub listed_cons : (q p : Path) (ps : List Path) → is_listed q (p ∷ ps) ≡ true → (q ≡ p) ⊎ (is_listed q ps ≡ true)
listed_cons q p ps h = elim (or_cases _ _ h) [ inl here ↦ inl (same_path-true q p here) | inr there ↦ inr there ]

pub listed_more : (q p : Path) (ps : List Path) → is_listed q ps ≡ true → is_listed q (p ∷ ps) ≡ true
listed_more q p ps h =
    elim (cases_Bool (same_path q p)) [
      | inl here ↦ ap (λ b. b || is_listed q ps) here
      | inr other ↦ ap (λ b. b || is_listed q ps) other ∙ h
    ]

pub listed_first : (q p : Path) (ps : List Path) → q ≡ p → is_listed q (p ∷ ps) ≡ true
listed_first q p ps same = ap (λ b. b || is_listed q ps) (ap (same_path q) (sym same) ∙ same_path-refl q)
