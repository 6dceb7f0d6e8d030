-- What changes do to trees, and what a group of them leaves at each path. A change does nothing where its condition isn't met.
use Rattle.std.specs.Prelude.{◌≡◌, ◌⊎◌, Bool, true, false, not, ◌&&◌, List, [], ◌∷◌, is_some, cond, None}
use Rattle.std.specs.List.{list_any}
use Rattle.kb_world.specs.Tree.{node_at, with_node, without, edited, is_dir, is_leaf, Tree}
use Rattle.std.specs.FinMap.{retain_keys, keys}
use Rattle.kb_again.proofs.PathLaws.{is_above, is_listed}
use Rattle.kb_world.specs.Path.{is_under}
use Rattle.kb_world.specs.Roots.{is_below}
use Rattle.kb_world.specs.Path.{parent, Path}
use Rattle.kb_again.proofs.Standing.{Standing}
use Rattle.kb_world.specs.declared.tree.Node.TheVariants as node

abbrev pub drop_at : Path → Tree → Tree
drop_at p t = cond (is_leaf (node_at t p)) (without p t) t

abbrev pub wipe_at : Path → Tree → Tree
wipe_at p t = retain_keys t (λ q. not (is_under q p))

abbrev pub drop_dir_at : Path → Tree → Tree
drop_dir_at p t = cond (is_dir (node_at t p) && not (list_any (λ q. is_below q p) (keys t))) (without p t) t

abbrev pub make_dir_at : Path → Tree → Tree
make_dir_at p t = cond (not (is_some (node_at t p)) && is_dir (node_at t (parent p))) (with_node p node.Dir t) t

-- a staged path and a target
abbrev pub Move : Type 0
Move = Path × Path

abbrev pub can_move : Standing → Move → Bool
can_move look m = is_leaf (look m.0) && not (is_dir (look m.1)) && is_dir (look (parent m.1))

abbrev pub move_at : Move → Tree → Tree
move_at m t = cond (can_move (node_at t) m) (edited m.1 (node_at t m.0) (without m.0 t)) t

-- one after another
abbrev pub in_turn : {A : Type 0} → (A → Tree → Tree) → List A → Tree → Tree
in_turn f [] t = t
in_turn f (x ∷ xs) t = in_turn f xs (f x t)

abbrev pub is_under_one : List Path → Path → Bool
is_under_one ps q = list_any (is_under q) ps

-- the files and links of a list are taken away
pub record Dropped (ps : List Path) (old new : Standing) : Type 0 where
  pub each : (q : Path) → (new q ≡ old q) ⊎ ((is_listed q ps ≡ true) × (is_leaf (old q) ≡ true) × (new q ≡ None))
  pub gone : (q : Path) → is_listed q ps ≡ true → is_leaf (new q) ≡ true → ⊥

-- what is at or below the paths of a list is taken away
pub record Wiped (ps : List Path) (old new : Standing) : Type 0 where
  pub each : (q : Path) → (new q ≡ old q) ⊎ ((is_under_one ps q ≡ true) × (new q ≡ None))
  pub gone : (q : Path) → is_under_one ps q ≡ true → new q ≡ None

-- a path stands before the paths above it
abbrev pub IsUpward : List Path → Type 0
IsUpward [] = Unit {0}
IsUpward (p ∷ ps) = ((r : Path) → is_listed r ps ≡ true → is_above p r ≡ true → ⊥) × IsUpward ps

-- a path stands before the paths below it
abbrev pub IsDownward : List Path → Type 0
IsDownward [] = Unit {0}
IsDownward (p ∷ ps) = ((r : Path) → is_listed r ps ≡ true → is_above r p ≡ true → ⊥) × IsDownward ps

abbrev pub IsMember : {A : Type 0} → A → List A → Type 0
IsMember x [] = ⊥
IsMember x (y ∷ ys) = (x ≡ y) ⊎ IsMember x ys

-- two moves that have no path in common
pub record Disjoint (m n : Move) : Type 0 where
  pub sources : m.0 ≡ n.0 → ⊥
  pub source_target : m.0 ≡ n.1 → ⊥
  pub target_source : m.1 ≡ n.0 → ⊥
  pub targets : m.1 ≡ n.1 → ⊥

-- some of the moves of a list are done
pub record Moved (ms : List Move) (old new : Standing) : Type 0 where
  pub each : (q : Path)
      → (new q ≡ old q) ⊎
      ((is_dir (old q) ≡ false) ×
      (((m : Move) × IsMember m ms × (m.0 ≡ q) × (new q ≡ None)) ⊎ ((m : Move) × IsMember m ms × (m.1 ≡ q) × (is_leaf (new q) ≡ true))))

-- two moves of a list are one, or have no path in common
pub record MovesApart (ms : List Move) : Type 0 where
  pub own : (m : Move) → IsMember m ms → m.0 ≡ m.1 → ⊥
  pub two : (m n : Move) → IsMember m ms → IsMember n ms → (m ≡ n) ⊎ Disjoint m n
