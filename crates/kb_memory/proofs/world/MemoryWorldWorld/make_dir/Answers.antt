use Rattle.std.proofs.Common.{Some, refl}
use Rattle.kb_world.specs.declared.tree.Node.TheVariants.{Dir}
use Rattle.kb_disk.proofs.EditLaws.{can_place, edited-formed}
use Rattle.kb_memory.proofs.world.MemoryWorldWorld.make_dir.Goals as goal

pub edit-requires : goal.edit-requires
edit-requires c =
    let disk = c.args.self.now.disk in
    edited-formed disk.nodes c.args.path.now (Some Dir) disk.formed (can_place disk.nodes c.args.path.now disk.formed (c.requires _ refl))
