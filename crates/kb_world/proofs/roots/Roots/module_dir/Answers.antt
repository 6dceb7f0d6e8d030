-- A module can name an entry of a directory.
use Rattle.kb_world.proofs.NameLaws.{word-is_name}
use Rattle.kb_world.proofs.PartLaws.{named_as}
use Rattle.kb_world.proofs.roots.Roots.module_dir.Goals as goal

pub child-requires : goal.child-requires
child-requires c = named_as _ _ c.as_str.ensures (word-is_name c.args.«module».now c.requires)
