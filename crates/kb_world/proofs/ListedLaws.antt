-- Which paths a list has.
use Rattle.std.proofs.Common.{◌≡◌, Bool, true, false, cond, ◌||◌, List, [], ◌∷◌, ◌++◌, map, Some, is_some, refl, sym, ap, ◌∙◌}
use Rattle.std.specs.Prelude.{flat_map, reverse}
use Rattle.std.specs.FinMap.{find, from_entries, contains_key-keys, get-from_entries}
use Rattle.std.proofs.lemmas.List.Folds.{list_any-append}
use Rattle.std.proofs.lemmas.List.Sorted.{list_any-IsPermutation, IsPermutation-reverse}
use Rattle.kb_world.specs.Path.{Path, path_cmp}
use Rattle.kb_world.specs.Tree.{Tree}
use Rattle.kb_world.specs.TreeLaws.{same_path, same_path-refl, paths_total}
use Rattle.kb_world.specs.Patch.{in_order, is_listed}
use Rattle.kb_world.specs.declared.tree.Node.{Node}
use Rattle.kb_world.specs.declared.tree.Node.TheVariants as node

pub or_first : (a b : Bool) → (a || b) ≡ false → a ≡ false
or_first true b e = e
or_first false b e = refl

pub or_second : (a b : Bool) → (a || b) ≡ false → b ≡ false
or_second true b e = let impossible : true ≡ false = e in absurd (cc)
or_second false b e = e

pub neither : (a b : Bool) → a ≡ false → b ≡ false → (a || b) ≡ false
neither a b h k = ap (λ x. x || b) h ∙ k

pub listed-append : (q : Path) (a b : List Path) → is_listed q (a ++ b) ≡ (is_listed q a || is_listed q b)
listed-append q a b = list_any-append (same_path q) a b

pub listed-reverse : (q : Path) (paths : List Path) → is_listed q (reverse paths) ≡ is_listed q paths
listed-reverse q paths = sym (list_any-IsPermutation (same_path q) paths (reverse paths) (IsPermutation-reverse paths))

-- what is put in order is the same paths
pub listed-in_order : (q : Path) (paths : List Path) → is_listed q (in_order paths) ≡ is_listed q paths
listed-in_order q paths = sym (contains_key-keys made q) ∙ ap is_some (get-from_entries paths_total (entry_of paths) q) ∙ found paths
  where
    entry_of : List Path → List (Path × Node)
    entry_of ps = map (λ path. (path, node.Dir)) ps

    made : Tree
    made = from_entries (entry_of paths)

    found : (ps : List Path) → is_some (find path_cmp q (entry_of ps)) ≡ is_listed q ps
    found [] = refl
    found (p ∷ ps) = by (same_path q p) (found ps)
      where
        by : (b : Bool) → is_some (find path_cmp q (entry_of ps)) ≡ is_listed q ps → is_some (cond b (Some node.Dir) (find path_cmp q (entry_of ps))) ≡ (b || is_listed q ps)
        by true later = refl
        by false later = later

-- what holds of no path holds of no list
pub no_path_listed : (paths : List Path) → ((q : Path) → is_listed q paths ≡ false) → paths ≡ []
no_path_listed [] none = refl
no_path_listed (p ∷ paths) none =
    let impossible : true ≡ false = sym (ap (λ b. b || is_listed p paths) (same_path-refl p)) ∙ none p in absurd (cc)

-- a path of a list that is joined stands in one of the parts
pub listed-flat_map : (f : Path → List Path) (paths : List Path) (q : Path) → ((p : Path) → is_listed p paths ≡ true → is_listed q (f p) ≡ false) → is_listed q (flat_map f paths) ≡ false
listed-flat_map f [] q none = refl
listed-flat_map f (p ∷ paths) q none =
    listed-append q (f p) (flat_map f paths)
    ∙ neither _ _ (none p (ap (λ b. b || is_listed p paths) (same_path-refl p)))
    (listed-flat_map f paths q (λ other later. none other (or_right (same_path other p) (is_listed other paths) later)))
  where
    or_right : (a b : Bool) → b ≡ true → (a || b) ≡ true
    or_right true b e = refl
    or_right false b e = e
