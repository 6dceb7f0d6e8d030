-- What is known where areas are soft.
use Rattle.std.specs.Prelude.{◌≡◌, ◌⊎◌, true, List, map}
use Rattle.kb_world.specs.Area.{is_soft_at}
use Rattle.kb_world.specs.Path.{Path}
use Rattle.kb_world.specs.Public.{intent_path}
use Rattle.kb_world.specs.Tree.{Tree, node_at}
use Rattle.kb_world.specs.declared.child.Area.{Area}
use Rattle.kb_world.specs.declared.child.Request.{Request}
use Rattle.kb_world.specs.declared.roots.Roots.{Roots}
use Rattle.kb_again.specs.Sparing.{IsSparing}
use Rattle.kb_again.proofs.Ends.{IsMember}
use Rattle.kb_again.proofs.Facts.{StagedPut, Lists, staged_at, is_kept, is_beside}
use Rattle.kb_again.proofs.Kept.{SameDirs, IsSoftlyOn}

-- what a crash leaves of a tree in which these areas are soft, whether or not it is formed
abbrev pub IsLeftIn : List Area → Tree → Tree → Type 0
IsLeftIn soft v u = (q : Path) → (node_at u q ≡ node_at v q) ⊎ (is_soft_at soft q (node_at v q) (node_at u q) ≡ true)

abbrev pub run_areas : List Request → List Area
run_areas runs = map (λ c. c.area) runs

-- a sparing area, or that of a run
abbrev pub IsFit : Roots → List Request → Area → Type 0
IsFit r runs a = IsSparing r (run_areas runs) a ⊎ ((c : Request) × IsMember c runs × (a ≡ c.area))

-- agreement softly on kept places, directories alike beside, and what is staged and the journal as they were
pub record IsSoftBehind (r : Roots) (s : Lists) (v u : Tree) : Type 0 where
  pub kept : IsSoftlyOn (is_kept r) s.drops v u
  pub dirs : SameDirs (is_beside r) v u
  pub staged : (c : StagedPut) → IsMember c s.puts → node_at u (staged_at r c) ≡ node_at v (staged_at r c)
  pub journal : node_at u (intent_path r) ≡ node_at v (intent_path r)
