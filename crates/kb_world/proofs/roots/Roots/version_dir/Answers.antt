-- A module and a version can name entries of directories.
use Rattle.kb_world.proofs.PartLaws.{module_named, version_named}
use Rattle.kb_world.proofs.roots.Roots.version_dir.Goals as goal

pub descend-requires-clause-first : goal.descend-requires-clause-first
descend-requires-clause-first c = module_named c.args.key.now c.requires

pub descend-requires-clause-second : goal.descend-requires-clause-second
descend-requires-clause-second c = version_named c.args.key.now c.requires
