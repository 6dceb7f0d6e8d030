use Rattle.std.proofs.Common.{refl}
use Rattle.kb_world.specs.Tree.{without}
use Rattle.kb_disk.proofs.MoveLaws.{unlink-formed}
use Rattle.kb_memory.proofs.world.MemoryWorldWorld.unlink.Goals as goal

pub edit-requires : goal.edit-requires
edit-requires c =
    let disk = c.args.self.now.disk in
    unlink-formed disk.nodes (without c.args.path.now disk.nodes) c.args.path.now refl disk.formed (c.requires _ refl)
