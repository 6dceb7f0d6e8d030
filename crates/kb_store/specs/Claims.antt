-- Which of two claims comes first, and what a claim is of a tree. This project's own.
use Rattle.std.specs.Prelude.{◌≡◌, ℕ, true, false, cond, List, Option, Some, None}
use Rattle.std.specs.Ordering.{is_lt}
use Rattle.std.specs.List.{list_any}
use Rattle.kb_world.specs.Names.{is_word}
use Rattle.kb_world.specs.Path.{Path}
use Rattle.kb_world.specs.Tree.{Tree}
use Rattle.kb_world.specs.TreeLaws.{same_path}
use Rattle.kb_world.specs.Targets.{last_name}
use Rattle.kb_world.specs.Boxes.{key_of, is_spot, boxed, installed}
use Rattle.kb_world.specs.declared.roots.Roots.{Roots}
use Rattle.kb_world.specs.declared.job.Spot.{Spot}
use Rattle.kb_store.specs.Accessors.{claim_cmp}

-- the lesser of two claims, of which either may be absent
abbrev pub lesser : Option (Path × List ℕ) → Option (Path × List ℕ) → Option (Path × List ℕ)
lesser None b = b
lesser (Some a) None = Some a
lesser (Some a) (Some b) = Some (cond (is_lt (claim_cmp b a)) b a)

-- An installed target, as a claim to a file of a kernel by another than this module for this architecture: a place that
-- has the file's name, and the module.
pub record IsClaim (roots : Roots) (store : Tree) (kernel file word arch : List ℕ) (claim : Path × List ℕ) : Type 0 where
  pub spot : Spot
  pub version : List ℕ
  pub places : List Path
  pub worded : is_word claim.1 ≡ true
  pub spotted : is_spot spot ≡ true
  pub for_kernel : spot.kernel ≡ kernel
  pub other : claim.1 ≡ word → spot.arch ≡ arch → ⊥
  pub installed_there : installed roots store claim.1 spot ≡ Some version
  pub built_there : boxed roots store (key_of claim.1 version) spot ≡ Some places
  pub among : list_any (same_path claim.0) places ≡ true
  pub named : last_name claim.0 ≡ file

-- it is one that none is less than, or there is none
abbrev pub IsLeastClaim : Roots → Tree → List ℕ → List ℕ → List ℕ → List ℕ → Option (Path × List ℕ) → Type 0
IsLeastClaim roots store kernel file word arch None = (claim : Path × List ℕ) → IsClaim roots store kernel file word arch claim → ⊥
IsLeastClaim roots store kernel file word arch (Some least) =
    IsClaim roots store kernel file word arch least × ((claim : Path × List ℕ) → IsClaim roots store kernel file word arch claim → is_lt (claim_cmp claim least) ≡ false)
