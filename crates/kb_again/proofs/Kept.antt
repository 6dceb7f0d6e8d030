-- What stands at the paths that pass a test p, here called kept, and beside them at those that pass a test b.
use Rattle.std.specs.Prelude.{◌≡◌, ◌⊎◌, Bool, true, false, List, is_some, Some, None}
use Rattle.kb_world.specs.Tree.{node_at, Tree, is_dir}
use Rattle.kb_again.proofs.PathLaws.{is_above, is_listed}
use Rattle.kb_world.specs.Path.{parent, Path}
use Rattle.kb_again.proofs.Ends.{Move, can_move, is_under_one, IsMember}
use Rattle.kb_again.proofs.Parts.{Groups, made_tree, groups_done, IsValid, IsPart}
use Rattle.kb_world.specs.declared.tree.Node.TheVariants as node

-- the same at each kept path
abbrev pub SameOn : (Path → Bool) → Tree → Tree → Type 0
SameOn p t u = (q : Path) → p q ≡ true → node_at t q ≡ node_at u q

-- directories at the same of these paths
abbrev pub SameDirs : (Path → Bool) → Tree → Tree → Type 0
SameDirs b t u = (q : Path) → b q ≡ true → is_dir (node_at t q) ≡ is_dir (node_at u q)

-- what stands, stands in a directory
abbrev pub IsWhole : Tree → Type 0
IsWhole t = (q : Path) → is_some (node_at t q) ≡ true → node_at t (parent q) ≡ Some node.Dir

-- What isn't kept is out of the way of these changes: a directory that is taken away holds nothing that isn't kept, but what is
-- wiped and what stands in a kept directory below. At the paths beside, which no change names, files and links may differ.
pub record IsHidden (p b : Path → Bool) (g : Groups) : Type 0 where
  pub above : (q : Path) → p q ≡ true → (p (parent q) ≡ true) ⊎ (b (parent q) ≡ true)
  pub spared : (q : Path) → ((is_listed q g.first ≡ true) ⊎ (is_listed q g.second ≡ true)) ⊎ (is_listed q g.dirs ≡ true) → b q ≡ true → ⊥
  pub staged : (m : Move) → IsMember m g.puts → p m.0 ≡ true → ⊥
  pub within : (q r : Path) → (is_listed q g.first ≡ true) ⊎ (is_listed q g.second ≡ true) → p q ≡ true → is_above q r ≡ true → p r ≡ false
      → (is_under_one g.wipes r ≡ true) ⊎ ((s : Path) × (is_above q s ≡ true) × (is_above s r ≡ true) × (p s ≡ true))

-- the staged files of the first tree stand in the second, but those that aren't needed
abbrev pub HasStaged : (Path → Bool) → Groups → Tree → Tree → Type 0
HasStaged p g t u =
    (m : Move) → IsMember m g.puts → p m.1 ≡ true → (node_at u m.0 ≡ node_at t m.0) ⊎
    ((node_at u m.0 ≡ None) × (can_move (node_at (made_tree g t)) m ≡ false))

-- the same at kept paths, but for what is no directory at the paths of a list
abbrev pub IsSoftlyOn : (Path → Bool) → List Path → Tree → Tree → Type 0
IsSoftlyOn p ps t u =
    (q : Path) → p q ≡ true → (node_at u q ≡ node_at t q) ⊎
    ((is_listed q ps ≡ true) × (is_dir (node_at t q) ≡ false) × (is_dir (node_at u q) ≡ false))

-- trees that are so at kept paths are the same there after all changes
abbrev pub KeptSame : Type 0
KeptSame =
    (p b : Path → Bool) (g : Groups)
    (t u : Tree) → IsValid g → IsHidden p b g → IsWhole t → IsWhole u → IsSoftlyOn p g.drops t u → SameDirs b t u → HasStaged p g t u
    → SameOn p (groups_done g t) (groups_done g u) × SameDirs b (groups_done g t) (groups_done g u)

-- from a tree in which a part is done, with anything at paths that are neither kept nor staged
abbrev pub KeptAgain : Type 0
KeptAgain =
    (p b : Path → Bool) (g : Groups)
    (t v u : Tree) → IsValid g → IsHidden p b g → IsPart g t v → IsWhole v → IsWhole u → IsSoftlyOn p g.drops v u → SameDirs b v u
    → HasStaged p g v u → SameOn p (groups_done g t) (groups_done g u) × SameDirs b (groups_done g t) (groups_done g u)

-- after all changes any staged files may be gone
abbrev pub KeptAfter : Type 0
KeptAfter =
    (p b : Path → Bool) (g : Groups) (t u : Tree) → IsValid g → IsHidden p b g → IsWhole t → IsWhole u → IsSoftlyOn p g.drops
    (groups_done g t) u → SameDirs b (groups_done g t) u →
    ((m : Move) → IsMember m g.puts → (node_at u m.0 ≡ node_at (groups_done g t) m.0) ⊎ (node_at u m.0 ≡ None)) → SameOn p (groups_done g t)
    (groups_done g u) × SameDirs b (groups_done g t) (groups_done g u)
