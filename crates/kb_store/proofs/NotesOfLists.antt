-- What is noted at each path, put together.
use Rattle.std.proofs.Common.{◌≡◌, Bool, true, false, cond, List, [], ◌∷◌, ◌++◌, Option, Some, None, refl, sym, ap, ◌∙◌, append_assoc}
use Rattle.std.proofs.lemmas.List.{append-nil}
use Rattle.std.specs.Prelude.{flat_map, filter_map}
use Rattle.std.specs.declared.cmp.Ordering.{Ordering}
use Rattle.std.specs.declared.cmp.Ordering.TheVariants.{Less, Equal, Greater}
use Rattle.std.specs.Ordering.{is_lt, is_le, ordering_reverse}
use Rattle.std.specs.BTreeMap.Comparable.{le_lt_trans}
use Rattle.kb_world.specs.Path.{Path, path_cmp}
use Rattle.kb_world.specs.Tree.{Tree}
use Rattle.kb_world.specs.TreeLaws.{paths_total}
use Rattle.kb_world.specs.Store.{added_at}
use Rattle.kb_world.specs.Damage.{least, harm_at}
use Rattle.kb_world.specs.declared.roots.Roots.{Roots}
use Rattle.kb_store.specs.Notes.{told_build, told_installation, list_of, first_of_two, noted, noted_all, notes_of, no_notes}
use Rattle.kb_store.specs.declared.notes.Notes.{Notes}
use Rattle.kb_walk.proofs.OrderLaws.{less}
use Rattle.kb_walk.proofs.MemberLaws.{less_then}

-- ---- the first of paths

le_of : (order other : Ordering) → order ≡ ordering_reverse other → is_lt other ≡ false → is_le order ≡ true
le_of order Less e h = let impossible : true ≡ false = h in cc
le_of order Equal e h = ap is_le e
le_of order Greater e h = ap is_le e

-- a path that isn't before one that isn't before a third isn't before that
not_before : (a b c : Path) → is_lt (path_cmp a b) ≡ false → is_lt (path_cmp b c) ≡ false → is_lt (path_cmp a c) ≡ false
not_before a b c e f = by (is_lt (path_cmp a c)) refl
  where
    by : (v : Bool) → is_lt (path_cmp a c) ≡ v → is_lt (path_cmp a c) ≡ false
    by false h = h
    by true h =
        let before : path_cmp b c ≡ Less = le_lt_trans paths_total b a c (le_of (path_cmp b a) (path_cmp a b) (paths_total.antisymm b a) e) (less (path_cmp a c) h) in
        absurd (clash (sym (ap is_lt before) ∙ f))
      where
        clash : true ≡ false → ⊥
        clash x = cc

-- a path and none is that path
pub first_none : (path : Option Path) → first_of_two path None ≡ path
first_none None = refl
first_none (Some path) = refl

-- of three the first is found in either order
pub first_assoc : (a b c : Option Path) → first_of_two (first_of_two a b) c ≡ first_of_two a (first_of_two b c)
first_assoc None b c = refl
first_assoc (Some a) None c = refl
first_assoc (Some a) (Some b) None = refl
first_assoc (Some a) (Some b) (Some c) = ap (λ p. Some p) (by (is_lt (path_cmp b a)) (is_lt (path_cmp c b)) (is_lt (path_cmp c a)) refl refl refl)
  where
    by : (x y z : Bool) → is_lt (path_cmp b a) ≡ x → is_lt (path_cmp c b) ≡ y → is_lt (path_cmp c a) ≡ z
        → cond (is_lt (path_cmp c (cond x b a))) c (cond x b a) ≡ cond (is_lt (path_cmp (cond y c b) a)) (cond y c b) a
    by true true z e f h = ap (λ v. cond v c b) f ∙ sym (ap (λ v. cond v c a) (less_then c b a f e))
    by true false z e f h = ap (λ v. cond v c b) f ∙ sym (ap (λ v. cond v b a) e)
    by false true z e f h = refl
    by false false z e f h = ap (λ v. cond v c a) (not_before c b a f e) ∙ sym (ap (λ v. cond v b a) e)

-- the least of a list, by its first
pub least-cons : (path : Path) (paths : List Path) → least (path ∷ paths) ≡ first_of_two (Some path) (least paths)
least-cons path paths = by (least paths) refl
  where
    by : (o : Option Path) → least paths ≡ o → least (path ∷ paths) ≡ first_of_two (Some path) o
    by None e = rw e refl
    by (Some other) e = rw e refl

-- the least of two lists is the first of their leasts
pub least-append : (xs ys : List Path) → least (xs ++ ys) ≡ first_of_two (least xs) (least ys)
least-append [] ys = refl
least-append (x ∷ xs) ys =
    least-cons x (xs ++ ys) ∙ ap (first_of_two (Some x)) (least-append xs ys) ∙ sym (first_assoc (Some x) (least xs) (least ys)) ∙ ap (λ o. first_of_two o (least ys)) (sym (least-cons x xs))

-- ---- notes put together

-- the notes of some paths, and of those behind them
abbrev joined : Notes → Notes → Notes
joined a b = record { added = a.added ++ b.added; builds = a.builds ++ b.builds; installed = a.installed ++ b.installed; hurt = first_of_two a.hurt b.hurt }

filter_map-cons : {A B : Type 0} (f : A → Option B) (x : A) (xs : List A) → filter_map f (x ∷ xs) ≡ list_of (f x) ++ filter_map f xs
filter_map-cons {B = B} f x xs = by (f x) refl
  where
    by : (o : Option B) → f x ≡ o → filter_map f (x ∷ xs) ≡ list_of o ++ filter_map f xs
    by None e = rw e refl
    by (Some y) e = rw e refl

moved : {A B : Type 0} (front : List B) (f : A → Option B) (x : A) (xs : List A) → (front ++ list_of (f x)) ++ filter_map f xs ≡ front ++ filter_map f (x ∷ xs)
moved front f x xs = append_assoc front (list_of (f x)) (filter_map f xs) ∙ ap (λ l. front ++ l) (sym (filter_map-cons f x xs))

-- noting paths puts what they tell behind what is noted
noted_all_joined : (roots : Roots) (tree : Tree) (notes : Notes) (paths : List Path) → noted_all roots tree notes paths ≡ joined notes (notes_of roots tree paths)
noted_all_joined roots tree notes [] =
    λ i. record { added = sym (append-nil notes.added) i; builds = sym (append-nil notes.builds) i; installed = sym (append-nil notes.installed) i; hurt = sym (first_none notes.hurt) i }
noted_all_joined roots tree notes (path ∷ paths) =
    let hurt : first_of_two (first_of_two notes.hurt (least (harm_at roots tree path))) (least (flat_map (harm_at roots tree) paths)) ≡ first_of_two notes.hurt (least (harm_at roots tree path ++ flat_map (harm_at roots tree) paths)) =
    first_assoc notes.hurt (least (harm_at roots tree path)) (least (flat_map (harm_at roots tree) paths)) ∙ ap (first_of_two notes.hurt) (sym (least-append (harm_at roots tree path) (flat_map (harm_at roots tree) paths))) in
    let added = moved notes.added (added_at roots tree) path paths in
    let builds = moved notes.builds (told_build roots tree) path paths in
    let installed = moved notes.installed (told_installation roots tree) path paths in
    noted_all_joined roots tree (noted roots tree notes path) paths ∙ (λ i. record { added = added i; builds = builds i; installed = installed i; hurt = hurt i })

-- noting each path in turn is taking what all of them tell
pub noted_all_is : (roots : Roots) (tree : Tree) (paths : List Path) → noted_all roots tree no_notes paths ≡ notes_of roots tree paths
noted_all_is roots tree paths = noted_all_joined roots tree no_notes paths
