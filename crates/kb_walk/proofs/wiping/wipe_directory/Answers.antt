-- The entries go first, and then the directory.
use Rattle.std.proofs.Common.{◌∙◌}
use Rattle.kb_walk.specs.Wipe.{without_tree, emptied}
use Rattle.kb_walk.proofs.WipeCalls.{takes_none, takes_part, takes_since, emptied_and_gone, dir_left, all_met}
use Rattle.kb_walk.proofs.wiping.wipe_directory.Goals as goal

pub returns-in-Err : goal.returns-in-Err
returns-in-Err g c = takes_none (without_tree c.args.path.now) c.args.path.now _ _ c.in-Err.error (g.met.W.World.formed c.args.world.now) c.in-Err.ensures.same

pub wipe_entries-requires : goal.wipe_entries-requires
wipe_entries-requires g c tree told =
    c.as_slice.ensures ∙ all_met (g.W.World.state c.args.world.now) (g.W.World.state c.walk_all.new.world) c.args.path.now c.in-Ok.met c.in-Ok.ensures.same.unchanged c.in-Ok.ensures.met tree told

pub remove_dir-requires : goal.remove_dir-requires
remove_dir-requires g c = dir_left c.args.path.now (g.W.World.state c.args.world.now) (g.W.World.state c.walk_all.new.world) _ c.in-Ok.ensures.same.unchanged c.in-Ok-wipe_entries.ensures c.requires

pub returns-in-Ok-wipe_entries : goal.returns-in-Ok-wipe_entries
returns-in-Ok-wipe_entries g c =
    takes_since (without_tree c.args.path.now) c.args.path.now (g.W.World.state c.args.world.now) (g.W.World.state c.walk_all.new.world) _ _ c.remove_dir.result c.in-Ok.ensures.same
    (emptied_and_gone c.args.path.now (g.W.World.state c.walk_all.new.world) (g.W.World.state c.wipe_entries.new.world) _ c.remove_dir.result (g.met.W.World.formed c.walk_all.new.world) (g.met.W.World.formed c.wipe_entries.new.world)
    c.in-Ok-wipe_entries.ensures c.remove_dir.ensures.gone)

pub returns : goal.returns
returns g c =
    takes_since (without_tree c.args.path.now) c.args.path.now (g.W.World.state c.args.world.now) (g.W.World.state c.walk_all.new.world) _ _ _ c.in-Ok.ensures.same
    (takes_part (emptied c.args.path.now) (without_tree c.args.path.now) c.args.path.now _ _ c.in-Err-wipe_entries.error c.in-Err-wipe_entries.ensures)
