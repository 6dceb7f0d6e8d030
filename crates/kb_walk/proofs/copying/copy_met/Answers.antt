-- The directory itself first, then its entries.
use Rattle.kb_walk.proofs.CopyCalls.{copy_begun, whole_unmade, whole_copied}
use Rattle.kb_walk.proofs.copying.copy_met.Goals as goal

pub copy_entries-requires-clause-begun : goal.copy_entries-requires-clause-begun
copy_entries-requires-clause-begun g c =
    copy_begun c.args.from.now c.args.to.now c.requires.apart c.args.met.now (g.W.World.state c.args.world.now) (g.W.World.state c.make_dir.new.self) (g.met.W.World.formed c.args.world.now) c.requires.can c.requires.met c.in-Ok.field-0
    c.in-Ok.ensures.made

pub returns-in-Ok : goal.returns-in-Ok
returns-in-Ok g c =
    whole_copied c.args.from.now c.args.to.now c.requires.apart c.args.met.now (g.W.World.state c.args.world.now) (g.W.World.state c.make_dir.new.self) (g.met.W.World.formed c.args.world.now) c.requires.can c.requires.met c.in-Ok.field-0
    (g.W.World.state c.copy_entries.new.world) c.copy_entries.result c.in-Ok.ensures.made c.copy_entries.ensures

pub returns-in-Err : goal.returns-in-Err
returns-in-Err g c =
    whole_unmade c.args.from.now c.args.to.now c.requires.apart c.args.met.now (g.W.World.state c.args.world.now) (g.W.World.state c.make_dir.new.self) (g.met.W.World.formed c.args.world.now) c.requires.can c.requires.met c.in-Err.error
    c.in-Err.ensures.made
