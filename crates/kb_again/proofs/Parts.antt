-- The changes of an intent in their groups, and trees in which a part of them is done.
use Rattle.std.specs.Prelude.{◌≡◌, ◌⊎◌, true, false, List, []}
use Rattle.kb_world.specs.Tree.{node_at, Tree, is_dir}
use Rattle.kb_again.proofs.PathLaws.{is_over, is_above, is_listed}
use Rattle.kb_world.specs.Path.{Path}
use Rattle.kb_again.proofs.Standing.{Between}
use Rattle.kb_again.proofs.Ends.{Move, drop_at, wipe_at, drop_dir_at, make_dir_at, move_at, in_turn, is_under_one, IsUpward, IsDownward, IsMember, MovesApart}

pub record Groups : Type 0 where
  pub drops : List Path
  pub wipes : List Path
  pub first : List Path
  pub dirs : List Path
  pub puts : List Move
  pub second : List Path

abbrev pub dropped_tree : Groups → Tree → Tree
dropped_tree g t = in_turn drop_at g.drops t

abbrev pub wiped_tree : Groups → Tree → Tree
wiped_tree g t = in_turn wipe_at g.wipes (dropped_tree g t)

abbrev pub cleared_tree : Groups → Tree → Tree
cleared_tree g t = in_turn drop_dir_at g.first (wiped_tree g t)

abbrev pub made_tree : Groups → Tree → Tree
made_tree g t = in_turn make_dir_at g.dirs (cleared_tree g t)

abbrev pub put_tree : Groups → Tree → Tree
put_tree g t = in_turn move_at g.puts (made_tree g t)

-- the tree after all changes but the runs
abbrev pub groups_done : Groups → Tree → Tree
groups_done g t = in_turn drop_dir_at g.second (put_tree g t)

pub record IsValid (g : Groups) : Type 0 where
  pub first_order : IsUpward g.first
  pub second_order : IsUpward g.second
  pub dirs_order : IsDownward g.dirs
  pub first_root : is_listed [] g.first ≡ false
  pub dirs_root : is_listed [] g.dirs ≡ false
  pub apart : MovesApart g.puts
  pub no_drop : (m : Move) → IsMember m g.puts → is_listed m.1 g.drops ≡ true → ⊥
  pub no_wipe : (m : Move) → IsMember m g.puts → is_under_one g.wipes m.1 ≡ true → ⊥
  pub no_second : (m : Move) → IsMember m g.puts → is_listed m.1 g.second ≡ true → ⊥
  pub wipes_no_dir : (q : Path) → is_listed q g.dirs ≡ true → is_under_one g.wipes q ≡ true → ⊥
  pub second_not_below : (q r : Path) → is_listed q g.first ≡ true → is_above q r ≡ true → is_listed r g.second ≡ true → ⊥
  pub staged_no_dir : (m : Move) → IsMember m g.puts → is_listed m.0 g.dirs ≡ true → ⊥
  pub staged_apart : (m : Move) → IsMember m g.puts → (q : Path) → is_listed q g.first ≡ true → is_over q m.0 ≡ true → ⊥

-- A tree after some of the groups, with some of the next one done. After the last group, files and links
-- at paths that are dropped may be any.
pub data IsPart (g : Groups) (t u : Tree) : Type 0 where
  in_drops : Between (node_at t) (node_at (dropped_tree g t)) (node_at u) → IsPart g t u
  in_wipes : Between (node_at (dropped_tree g t)) (node_at (wiped_tree g t)) (node_at u) → IsPart g t u
  in_first : Between (node_at (wiped_tree g t)) (node_at (cleared_tree g t)) (node_at u) → IsPart g t u
  in_dirs : Between (node_at (cleared_tree g t)) (node_at (made_tree g t)) (node_at u) → IsPart g t u
  in_puts : (some : List Move) → ((m : Move) → IsMember m some → IsMember m g.puts) → u ≡ in_turn move_at some (made_tree g t)
      → IsPart g t u
  in_second : Between (node_at (put_tree g t)) (node_at (groups_done g t)) (node_at u) → IsPart g t u
  in_runs : ((q : Path)
      → (node_at u q ≡ node_at (groups_done g t) q) ⊎
      ((is_listed q g.drops ≡ true) × (is_dir (node_at (groups_done g t) q) ≡ false) × (is_dir (node_at u q) ≡ false)))
      → IsPart g t u

-- doing all again from any of them gives what doing all once gives
abbrev pub DoneOnce : Type 0
DoneOnce = (g : Groups) (t u : Tree) → IsValid g → IsPart g t u → groups_done g u ≡ groups_done g t
