-- One entry behind another.
use Rattle.std.proofs.Common.{rules}
use Rattle.kb_walk.proofs.CopyCalls.{none_yet, can_copy_met, one_more, one_stopped, entries_copied}
use Rattle.kb_walk.proofs.copying.copy_entries.Goals as goal

pub loop-entry-init : goal.loop-entry-init
loop-entry-init g c = none_yet c.args.from.now c.args.to.now c.args.met.now _ (g.met.W.World.formed c.args.world.now)

pub copy_entry-requires : goal.copy_entry-requires
copy_entry-requires g c =
    can_copy_met c.args.from.now c.args.to.now c.requires.apart c.args.met.now (g.W.World.state c.args.world.now) (g.W.World.state c.loop-entry.world) c.requires.begun c.loop-entry.entry-index c.loop-entry.invariant
    c.entry-item.result (search rules) (search rules)

pub returns-in-Err : goal.returns-in-Err
returns-in-Err g c =
    one_stopped c.args.from.now c.args.to.now c.requires.apart c.args.met.now (g.W.World.state c.args.world.now) (g.W.World.state c.loop-entry.world) c.requires.begun c.loop-entry.entry-index c.loop-entry.invariant
    c.entry-item.result (search rules) (search rules) c.in-Err.error (g.W.World.state c.copy_entry.new.world) c.in-Err.ensures

pub loop-entry-preserved : goal.loop-entry-preserved
loop-entry-preserved g c =
    one_more c.args.from.now c.args.to.now c.requires.apart c.args.met.now (g.W.World.state c.args.world.now) (g.W.World.state c.loop-entry.world) c.requires.begun c.loop-entry.entry-index c.loop-entry.invariant
    c.entry-item.result (search rules) (search rules) c.in-Ok.field-0 (g.W.World.state c.copy_entry.new.world) c.in-Ok.ensures

pub returns : goal.returns
returns g c =
    entries_copied c.args.from.now c.args.to.now c.requires.apart c.args.met.now c.loop-entry.entry-index (g.W.World.state c.args.world.now) (g.W.World.state c.loop-entry.world) (search rules) c.loop-entry.invariant
