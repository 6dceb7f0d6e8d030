-- Steps: something done at a path, or a child that is run.
use Rattle.std.specs.Prelude.{◌≡◌, ◌⊎◌, not, cond, ◌&&◌, List, [], ◌∷◌, ◌++◌, map, Option, Some, None}
use Rattle.std.specs.List.{cons_option}
use Rattle.kb_world.specs.Path.{Path, parent}
use Rattle.kb_world.specs.Script.{Script, answer, edit_of}
use Rattle.kb_world.specs.Tree.{Tree, node_at, is_dir, edited}
use Rattle.kb_world.specs.View.{view_of}
use Rattle.kb_world.specs.declared.child.Area.{Area}
use Rattle.kb_world.specs.declared.child.Effect.{Effect}
use Rattle.kb_world.specs.declared.child.Reply.{Reply}
use Rattle.kb_world.specs.declared.child.Request.{Request}
use Rattle.kb_world.specs.declared.roots.Roots.{Roots}
use Rattle.kb_world.specs.declared.tree.Edit.{Edit}
use Rattle.kb_world.specs.declared.tree.Node.{Node}
use Rattle.kb_changes.specs.Change.{staged_path}
use Rattle.kb_changes.specs.declared.change.Change.{Change}
use Rattle.kb_changes.specs.declared.change.Change.TheVariants as change
use Rattle.kb_again.specs.Sparing.{reaches}
use Rattle.kb_again.proofs.Standing.{Between}
use Rattle.kb_again.proofs.Ends.{in_turn, IsMember, wipe_at}
use Rattle.kb_again.proofs.Parts.{IsPart, groups_done}
use Rattle.kb_again.proofs.Flat.{Act, to_drop, to_wipe, to_drop_dir, to_make, to_put, do_act, acts_of}
use Rattle.kb_again.proofs.Kept.{SameDirs, IsWhole, IsSoftlyOn}
use Rattle.kb_again.proofs.Facts.{StagedPut, Lists, staged_at, groups_of, is_kept, is_beside}

-- ---- what a child does

-- a file or a link that a child leaves at a path, or nothing
abbrev pub Written : Type 0
Written = Path × Option Node

abbrev pub written : Option Edit → Option Written
written None = None
written (Some edit) = Some (edit.path, edit.at)

abbrev pub all_written : Tree → List Effect → List Written
all_written view [] = []
all_written view (effect ∷ effects) = cons_option (written (edit_of view effect)) (all_written view effects)

abbrev pub writes : Script → Request → Tree → List Written
writes f c view = all_written view (answer f c view).effects

abbrev pub effect_in : Area → Written → Tree → Tree
effect_in a e t =
    cond ((reaches a e.0 && not (is_dir e.1)) && (not (is_dir (node_at t e.0)) && is_dir (node_at t (parent e.0)))) (edited e.0 e.1 t) t

abbrev pub run_request : Script → Roots → Request → Tree → Tree
run_request f r c t = cond (is_dir (node_at t c.dir)) (in_turn (effect_in c.area) (writes f c (view_of r c t)) t) t

-- ---- all steps

pub data Step : Type 0 where
  act : Act → Step
  run : Request → Step

abbrev pub step_of : Roots → Change → Step
step_of r (change.Dir path) = act (to_make path)
step_of r (change.Put root number target) = act (to_put (staged_path r root number) target)
step_of r (change.Drop path) = act (to_drop path)
step_of r (change.DropDir path) = act (to_drop_dir path)
step_of r (change.Wipe path) = act (to_wipe path)
step_of r (change.Run request) = run request

abbrev pub do_step : Script → Roots → Step → Tree → Tree
do_step f r (act c) t = do_act c t
do_step f r (run c) t = run_request f r c t

abbrev pub do_steps : Script → Roots → List Step → Tree → Tree
do_steps f r xs t = in_turn (do_step f r) xs t

-- the groups in their order, and then the runs
abbrev pub steps_of : Roots → Lists → List Step
steps_of r s = map act (acts_of (groups_of r s)) ++ map run s.runs

-- the tree after all changes and some of the runs, and after all
abbrev pub after_runs : Script → Roots → Lists → List Request → Tree → Tree
after_runs f r s cs t = in_turn (run_request f r) cs (groups_done (groups_of r s) t)

abbrev pub after_all : Script → Roots → Lists → Tree → Tree
after_all f r s t = after_runs f r s s.runs t

-- what the runs answer, in turn, and those that are made
abbrev pub run_replies : Script → Roots → List Request → Tree → List Reply
run_replies f r [] t = []
run_replies f r (c ∷ cs) t =
    cond (is_dir (node_at t c.dir)) ((answer f c (view_of r c t)).reply ∷ run_replies f r cs (run_request f r c t))
    (run_replies f r cs (run_request f r c t))

abbrev pub runs_made : Script → Roots → List Request → Tree → List Request
runs_made f r [] t = []
runs_made f r (c ∷ cs) t =
    cond (is_dir (node_at t c.dir)) (c ∷ runs_made f r cs (run_request f r c t)) (runs_made f r cs (run_request f r c t))

-- ---- cut off

-- A step that is cut off. A wipe may have taken away some of what it takes away.
abbrev pub IsCut : Act → Tree → Tree → Type 0
IsCut (to_drop p) t v = (v ≡ t) ⊎ (v ≡ do_act (to_drop p) t)
IsCut (to_wipe p) t v = Between (node_at t) (node_at (wipe_at p t)) (node_at v)
IsCut (to_drop_dir p) t v = (v ≡ t) ⊎ (v ≡ do_act (to_drop_dir p) t)
IsCut (to_make p) t v = (v ≡ t) ⊎ (v ≡ do_act (to_make p) t)
IsCut (to_put staged target) t v = (v ≡ t) ⊎ (v ≡ do_act (to_put staged target) t)

-- What may be left, whatever stands at private paths that aren't staged: a part of the groups is done; or all are and some
-- runs, and staged files may be gone. At paths that are dropped there may be any files and links.
pub data IsBehind (f : Script) (r : Roots) (s : Lists) (t u : Tree) : Type 0 where
  among_groups : (v : Tree) → IsPart (groups_of r s) t v → IsWhole v → IsSoftlyOn (is_kept r) s.drops v u → SameDirs (is_beside r) v u
      → ((c : StagedPut) → IsMember c s.puts → node_at u (staged_at r c) ≡ node_at v (staged_at r c)) → IsBehind f r s t u
  among_runs : (front back : List Request) → front ++ back ≡ s.runs
      → IsSoftlyOn (is_kept r) s.drops (after_runs f r s front t) u → SameDirs (is_beside r) (after_runs f r s front t) u
      → ((c : StagedPut) → IsMember c s.puts
      → (node_at u (staged_at r c) ≡ node_at (after_runs f r s front t) (staged_at r c)) ⊎ (node_at u (staged_at r c) ≡ None))
      → IsBehind f r s t u
