-- One more is taken away, from the last on.
use Rattle.std.proofs.Common.{rules, length, map, arith}
use Rattle.std.proofs.lemmas.List.{length-map}
use Rattle.kb_walk.proofs.WipeLoop.{path_of, wiped_none, can_wipe_last, wiped_last, stopped_last}
use Rattle.kb_walk.proofs.WipeCalls.{entries_gone, entries_stopped}
use Rattle.kb_walk.proofs.wiping.wipe_entries.Goals as goal

pub loop-i-init : goal.loop-i-init
loop-i-init g c = wiped_none _ (map path_of c.args.met.now) (length c.args.met.now) (omega (arith, length-map c.args.met.now path_of))

pub wipe_entry-requires : goal.wipe_entry-requires
wipe_entry-requires g c =
    can_wipe_last (g.W.World.state c.args.world.now) (g.W.World.state c.loop-i.world) c.args.start.now c.args.met.now c.index-met-i.result c.loop-i.i (search rules) (search rules) (search rules) c.loop-i.invariant c.requires

pub loop-i-preserved : goal.loop-i-preserved
loop-i-preserved g c =
    wiped_last (g.W.World.state c.args.world.now) (g.W.World.state c.loop-i.world) c.args.start.now c.args.met.now c.index-met-i.result c.loop-i.i (search rules) (search rules) (search rules) c.loop-i.invariant
    (g.W.World.state c.wipe_entry.new.world) c.in-Ok.field-0 (search rules)

pub returns-in-Err : goal.returns-in-Err
returns-in-Err g c =
    entries_stopped (g.W.World.state c.args.world.now) (g.W.World.state c.wipe_entry.new.world) c.args.start.now c.args.met.now (g.met.W.World.formed c.args.world.now) c.requires c.in-Err.error
    (stopped_last (g.W.World.state c.args.world.now) (g.W.World.state c.loop-i.world) c.args.start.now c.args.met.now c.index-met-i.result c.loop-i.i (search rules) (search rules) (search rules) c.loop-i.invariant
    (g.W.World.state c.wipe_entry.new.world) c.in-Err.error (search rules))

pub returns : goal.returns
returns g c =
    entries_gone (g.W.World.state c.args.world.now) (g.W.World.state c.loop-i.world) c.args.start.now c.args.met.now (g.met.W.World.formed c.args.world.now) c.requires tt c.loop-i.i (search rules) c.loop-i.invariant
