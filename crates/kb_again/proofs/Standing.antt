-- Trees as what stands where, and what groups of changes make of them.
use Rattle.std.specs.Prelude.{◌≡◌, ◌⊎◌, true, List, Some, None}
use Rattle.std.specs.declared.option.Option.{Option}
use Rattle.kb_again.proofs.PathLaws.{is_over, is_listed}
use Rattle.kb_world.specs.declared.tree.Node.{Node}
use Rattle.kb_world.specs.Path.{Path, parent}
use Rattle.kb_world.specs.declared.tree.Node.TheVariants as node

-- what stands at each path
abbrev pub Standing : Type 0
Standing = Path → Option Node

-- at each path stands what stands there in one of these
abbrev pub Between : Standing → Standing → Standing → Type 0
Between old new mid = (q : Path) → (mid q ≡ old q) ⊎ (mid q ≡ new q)

-- what stands there doesn't go with the directories of a list
pub record Solid (ps : List Path) (look : Standing) (r : Path) : Type 0 where
  pub stands : look r ≡ None → ⊥
  pub stays : look r ≡ Some node.Dir → is_listed r ps ≡ true → ⊥

-- a directory of the list that holds nothing goes
pub record Goes (ps : List Path) (old new : Standing) (q : Path) : Type 0 where
  pub was : old q ≡ Some node.Dir
  pub gone : new q ≡ None
  pub listed : is_listed q ps ≡ true
  pub bare : (r : Path) → is_over q r ≡ true → new r ≡ None

-- one that stays holds what doesn't go
pub record Holds (ps : List Path) (old : Standing) (q : Path) : Type 0 where
  pub path : Path
  pub under : is_over q path ≡ true
  pub solid : Solid ps old path

-- the directories of a list are taken away where nothing is left in them
pub record Cleared (ps : List Path) (old new : Standing) : Type 0 where
  pub each : (q : Path) → (new q ≡ old q) ⊎ Goes ps old new q
  pub full : (q : Path) → is_listed q ps ≡ true → new q ≡ Some node.Dir → Holds ps old q

-- a directory of the list is made
pub record Makes (ps : List Path) (old new : Standing) (q : Path) : Type 0 where
  pub was : old q ≡ None
  pub made : new q ≡ Some node.Dir
  pub listed : is_listed q ps ≡ true
  pub above : new (parent q) ≡ Some node.Dir

-- the directories of a list are made where a directory is above them and nothing stands
pub record Made (ps : List Path) (old new : Standing) : Type 0 where
  pub each : (q : Path) → (new q ≡ old q) ⊎ Makes ps old new q
  pub full : (q : Path) → is_listed q ps ≡ true → new (parent q) ≡ Some node.Dir → new q ≡ None → ⊥
