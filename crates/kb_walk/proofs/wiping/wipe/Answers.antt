-- Nothing, a directory, or a file or a link.
use Rattle.std.proofs.Common.{rules}
use Rattle.kb_walk.specs.Wipe.{without_tree}
use Rattle.kb_walk.proofs.WipeCalls.{takes_none, takes_since, absent_wiped, leaf_wiped}
use Rattle.kb_walk.proofs.wiping.wipe.Goals as goal

pub returns-in-Ok-Absent : goal.returns-in-Ok-Absent
returns-in-Ok-Absent g c =
    absent_wiped c.args.path.now (g.W.World.state c.args.world.now) _ c.in-Ok-Absent.field-0 (g.met.W.World.formed c.args.world.now) c.in-Ok-Absent.ensures.same c.in-Ok-Absent.field-0-is c.in-Ok-Absent.ensures.kind

pub returns-in-Ok-Dir : goal.returns-in-Ok-Dir
returns-in-Ok-Dir g c = takes_since (without_tree c.args.path.now) c.args.path.now (g.W.World.state c.args.world.now) (g.W.World.state c.look.new.self) _ _ c.wipe_directory.result c.in-Ok-Dir.ensures.same c.wipe_directory.ensures

pub returns-in-Ok-File : goal.returns-in-Ok-File
returns-in-Ok-File g c =
    leaf_wiped c.args.path.now (g.W.World.state c.args.world.now) (g.W.World.state c.look.new.self) _ _ c.unlink.result (g.met.W.World.formed c.look.new.self) c.in-Ok-File.ensures.same (search rules) c.unlink.ensures.gone

pub returns-in-Err : goal.returns-in-Err
returns-in-Err g c = takes_none (without_tree c.args.path.now) c.args.path.now _ _ c.in-Err.error (g.met.W.World.formed c.args.world.now) c.in-Err.ensures.same
