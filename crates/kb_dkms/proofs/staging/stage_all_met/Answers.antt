-- One entry behind another.
use Rattle.std.proofs.Common.{arith}
use Rattle.kb_dkms.specs.Copying.{nodes_met}
use Rattle.kb_dkms.proofs.StageLaws.{sources_nothing, sources_stopped, still_there, still_staged, still_room, still_met, one_more_met}
use Rattle.kb_dkms.proofs.staging.stage_all_met.Goals as goal

pub loop-entry-init : goal.loop-entry-init
loop-entry-init g c = sources_nothing c.args.txn.now (g.W.World.state c.args.world.now)

pub stage_met-requires-clause-there : goal.stage_met-requires-clause-there
stage_met-requires-clause-there g c =
    still_there c.args.met.now c.loop-entry.entry-index c.args.txn.now c.loop-entry.txn (g.W.World.state c.args.world.now) (g.W.World.state c.loop-entry.world) c.requires.apart c.requires.met c.loop-entry.invariant c.requires.there

pub stage_met-requires-clause-staged : goal.stage_met-requires-clause-staged
stage_met-requires-clause-staged g c =
    still_staged c.args.met.now c.loop-entry.entry-index c.args.txn.now c.loop-entry.txn (g.W.World.state c.args.world.now) (g.W.World.state c.loop-entry.world) c.requires.apart c.requires.met c.loop-entry.invariant c.requires.staged

pub stage_met-requires-clause-room : goal.stage_met-requires-clause-room
stage_met-requires-clause-room g c =
    still_room c.args.met.now c.loop-entry.entry-index c.args.txn.now c.loop-entry.txn (g.W.World.state c.args.world.now) (g.W.World.state c.loop-entry.world) c.requires.apart c.requires.met c.loop-entry.invariant c.requires.none
    (omega arith) (omega arith)

pub stage_met-requires-clause-met : goal.stage_met-requires-clause-met
stage_met-requires-clause-met g c =
    still_met c.args.met.now c.loop-entry.entry-index c.args.txn.now c.loop-entry.txn (g.W.World.state c.args.world.now) (g.W.World.state c.loop-entry.world) c.requires.apart c.requires.met c.loop-entry.invariant c.entry-item.result
    (omega arith) c.entry-item.is

pub returns-in-Err : goal.returns-in-Err
returns-in-Err g c =
    sources_stopped _ (nodes_met c.args.met.now) _ _ c.args.txn.now c.stage_met.new.txn (g.W.World.state c.args.world.now) (g.W.World.state c.stage_met.new.world) c.in-Err.stop
    (one_more_met c.args.met.now c.loop-entry.entry-index c.args.txn.now c.loop-entry.txn (g.W.World.state c.args.world.now) (g.W.World.state c.loop-entry.world) c.requires.apart c.requires.met c.loop-entry.invariant c.entry-item.result
    (omega arith) c.entry-item.is c.stage_met.new.txn (g.W.World.state c.stage_met.new.world) _ c.in-Err.ensures)

pub loop-entry-preserved : goal.loop-entry-preserved
loop-entry-preserved g c =
    one_more_met c.args.met.now c.loop-entry.entry-index c.args.txn.now c.loop-entry.txn (g.W.World.state c.args.world.now) (g.W.World.state c.loop-entry.world) c.requires.apart c.requires.met c.loop-entry.invariant c.entry-item.result
    (omega arith) c.entry-item.is c.stage_met.new.txn (g.W.World.state c.stage_met.new.world) _ c.in-Ok.ensures
