-- What areas let a crash leave: a tree itself, what is left of what is left, and more where more is soft.
use Rattle.std.proofs.Common.{◌≡◌, ◌⊎◌, inl, inr, Bool, true, false, cond, not, ◌&&◌, ◌||◌, List, [], ◌∷◌, Option, Some, None, refl, sym, ap, subst, ◌∙◌}
use Rattle.std.specs.Prelude.{filter}
use Rattle.std.specs.List.{list_any}
use Rattle.kb_world.specs.Path.{Path, is_under}
use Rattle.kb_world.specs.Tree.{Tree, node_at, is_dir, edited, IsFormed}
use Rattle.kb_world.specs.TreeLaws.{same_path, same_path-true, node_at-with_node, node_at-remove}
use Rattle.kb_world.specs.Area.{is_named, lets_differ, is_soft_at, IsLeft}
use Rattle.kb_world.specs.declared.child.Area.{Area}
use Rattle.kb_world.specs.declared.child.Area.TheVariants as areas
use Rattle.kb_world.specs.declared.tree.Node.{Node}

-- ---- what is soft at a path, told apart from what stands there

-- anything may be left at the path
abbrev anything_at : Path → Area → Bool
anything_at path areas.Nothing = false
anything_at path (areas.Under directory) = is_under path directory
anything_at path (areas.Names directory names) = false

-- a file or a link may be left at the path in place of another, or nothing
abbrev named_at : Path → Area → Bool
named_at path areas.Nothing = false
named_at path (areas.Under directory) = false
named_at path (areas.Names directory names) = is_named directory names path

regrouped : (n u m p q : Bool) → (n && p && q) || (u || (m && (p && q))) ≡ u || ((n || m) && (p && q))
regrouped true true true true true = refl
regrouped true true true true false = refl
regrouped true true true false q = refl
regrouped true true false true true = refl
regrouped true true false true false = refl
regrouped true true false false q = refl
regrouped true false true true true = refl
regrouped true false true true false = refl
regrouped true false true false q = refl
regrouped true false false true true = refl
regrouped true false false true false = refl
regrouped true false false false q = refl
regrouped false u m p q = refl

either_first : (a b c : Bool) → a || (b || c) ≡ (a || b) || c
either_first true b c = refl
either_first false b c = refl

soft_is : (soft : List Area) (path : Path) (was left : Option Node)
    → is_soft_at soft path was left ≡ list_any (anything_at path) soft || (list_any (named_at path) soft && (not (is_dir was) && not (is_dir left)))
soft_is [] path was left = refl
soft_is (areas.Nothing ∷ soft) path was left = soft_is soft path was left
soft_is (areas.Under directory ∷ soft) path was left =
    ap (λ b. is_under path directory || b) (soft_is soft path was left)
    ∙ either_first (is_under path directory) (list_any (anything_at path) soft) (list_any (named_at path) soft && (not (is_dir was) && not (is_dir left)))
soft_is (areas.Names directory names ∷ soft) path was left =
    ap (λ b. (is_named directory names path && not (is_dir was) && not (is_dir left)) || b) (soft_is soft path was left)
    ∙ regrouped (is_named directory names path) (list_any (anything_at path) soft) (list_any (named_at path) soft) (not (is_dir was)) (not (is_dir left))

joined : (u n p q r : Bool) → u || (n && (p && q)) ≡ true → u || (n && (q && r)) ≡ true → u || (n && (p && r)) ≡ true
joined true n p q r a b = refl
joined false true true true true a b = refl
joined false true true true false a b = b
joined false true true false r a b = let e : false ≡ true = a in cc
joined false true false q r a b = a
joined false false p q r a b = a

-- what may be left of what may be left
soft_then : (soft : List Area) (path : Path) (was mid left : Option Node) → is_soft_at soft path was mid ≡ true → is_soft_at soft path mid left ≡ true → is_soft_at soft path was left ≡ true
soft_then soft path was mid left a b =
    soft_is soft path was left
    ∙ joined (list_any (anything_at path) soft) (list_any (named_at path) soft) (not (is_dir was)) (not (is_dir mid)) (not (is_dir left))
    (sym (soft_is soft path was mid) ∙ a) (sym (soft_is soft path mid left) ∙ b)

soft_or : (a b : Bool) → b ≡ true → a || b ≡ true
soft_or true b h = refl
soft_or false b h = h

-- where more is soft more may be left
soft_more : (area : Area) (soft : List Area) (path : Path) (was left : Option Node) → is_soft_at soft path was left ≡ true → is_soft_at (area ∷ soft) path was left ≡ true
soft_more area soft path was left h = soft_or (lets_differ area path was left) _ h

soft_tail : (area : Area) (some soft : List Area) (path : Path) (was left : Option Node) → (is_soft_at some path was left ≡ true → is_soft_at soft path was left ≡ true)
    → is_soft_at (area ∷ some) path was left ≡ true → is_soft_at (area ∷ soft) path was left ≡ true
soft_tail area some soft path was left more h = by_test (lets_differ area path was left) h
  where
    by_test : (b : Bool) → b || is_soft_at some path was left ≡ true → b || is_soft_at soft path was left ≡ true
    by_test true h = refl
    by_test false h = more h

soft_less : (keeps : Area → Bool) (soft : List Area) (path : Path) (was left : Option Node) → is_soft_at (filter keeps soft) path was left ≡ true → is_soft_at soft path was left ≡ true
soft_less keeps [] path was left h = h
soft_less keeps (area ∷ soft) path was left h = by_test (soft_less keeps soft path was left) (keeps area) h
  where
    by_test : (is_soft_at (filter keeps soft) path was left ≡ true → is_soft_at soft path was left ≡ true) → (b : Bool) → is_soft_at (cond b (area ∷ filter keeps soft) (filter keeps soft)) path was left ≡ true → is_soft_at (area ∷ soft) path was left ≡ true
    by_test more true h = soft_tail area (filter keeps soft) soft path was left more h
    by_test more false h = soft_more area soft path was left (more h)

-- ---- whole trees

-- what is left of a tree differs from it only where something is soft
wider : (some soft : List Area) (before after : Tree) → ((path : Path) (was left : Option Node) → is_soft_at some path was left ≡ true → is_soft_at soft path was left ≡ true)
    → IsLeft some before after → IsLeft soft before after
wider some soft before after more image = record {
  each = λ path. elim (image.each path) [ inl same ↦ inl same | inr differs ↦ inr (more path (node_at before path) (node_at after path) differs) ];
  formed = image.formed;
}

-- the tree itself
pub left_same : (soft : List Area) (tree : Tree) → IsFormed tree → IsLeft soft tree tree
left_same soft tree formed = record { each = λ path. inl refl; formed = formed }

-- what is left of what is left
pub left_then : (soft : List Area) (before mid after : Tree) → IsLeft soft before mid → IsLeft soft mid after → IsLeft soft before after
left_then soft before mid after a b = record { each = λ path. at path (a.each path) (b.each path); formed = b.formed }
  where
    at : (path : Path) → (node_at mid path ≡ node_at before path) ⊎ (is_soft_at soft path (node_at before path) (node_at mid path) ≡ true)
        → (node_at after path ≡ node_at mid path) ⊎ (is_soft_at soft path (node_at mid path) (node_at after path) ≡ true)
        → (node_at after path ≡ node_at before path) ⊎ (is_soft_at soft path (node_at before path) (node_at after path) ≡ true)
    at path (inl same) (inl stays) = inl (stays ∙ same)
    at path (inl same) (inr later) = inr (subst (λ was. is_soft_at soft path was (node_at after path) ≡ true) same later)
    at path (inr first) (inl stays) = inr (subst (λ left. is_soft_at soft path (node_at before path) left ≡ true) (sym stays) first)
    at path (inr first) (inr later) = inr (soft_then soft path (node_at before path) (node_at mid path) (node_at after path) first later)

-- where one area more is soft
pub left_more : (area : Area) (soft : List Area) (before after : Tree) → IsLeft soft before after → IsLeft (area ∷ soft) before after
left_more area soft before after image = wider soft (area ∷ soft) before after (soft_more area soft) image

-- in one area, where others are soft too
pub left_first : (area : Area) (soft : List Area) (before after : Tree) → IsLeft (area ∷ []) before after → IsLeft (area ∷ soft) before after
left_first area soft before after image = wider (area ∷ []) (area ∷ soft) before after (λ path was left h. soft_tail area [] soft path was left (λ none. let e : false ≡ true = none in cc) h) image

-- where some of the areas are soft, all of them allow it
pub left_less : (keeps : Area → Bool) (soft : List Area) (before after : Tree) → IsLeft (filter keeps soft) before after → IsLeft soft before after
left_less keeps soft before after image = wider (filter keeps soft) soft before after (soft_less keeps soft) image

-- an edit where something is soft
pub left_edit : (soft : List Area) (path : Path) (at : Option Node) (tree : Tree) → IsFormed (edited path at tree) → is_soft_at soft path (node_at tree path) at ≡ true → IsLeft soft tree (edited path at tree)
left_edit soft path at tree formed differs = record { each = λ q. by_test q (same_path q path) refl; formed = formed }
  where
    edit : (at : Option Node) (q : Path) → node_at (edited path at tree) q ≡ cond (same_path q path) at (node_at tree q)
    edit None q = node_at-remove tree path q
    edit (Some node) q = node_at-with_node tree path node q

    by_test : (q : Path) (b : Bool) → same_path q path ≡ b
        → (node_at (edited path at tree) q ≡ node_at tree q) ⊎ (is_soft_at soft q (node_at tree q) (node_at (edited path at tree) q) ≡ true)
    by_test q true same =
        let here : q ≡ path = same_path-true q path same in
        let left : node_at (edited path at tree) q ≡ at = edit at q ∙ ap (λ b. cond b at (node_at tree q)) same in
        inr (subst (λ left. is_soft_at soft q (node_at tree q) left ≡ true) (sym left) (subst (λ p. is_soft_at soft p (node_at tree p) at ≡ true) (sym here) differs))
    by_test q false apart = inl (edit at q ∙ ap (λ b. cond b at (node_at tree q)) apart)
