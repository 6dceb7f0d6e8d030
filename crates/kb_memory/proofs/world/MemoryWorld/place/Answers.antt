use Rattle.kb_disk.proofs.EditLaws.{edited-formed}
use Rattle.kb_memory.proofs.world.MemoryWorld.place.Goals as goal

pub edit-requires : goal.edit-requires
edit-requires c = let disk = c.args.self.now.disk in edited-formed disk.nodes c.args.path.now c.args.node disk.formed c.requires
