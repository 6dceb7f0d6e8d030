-- A module and the name of a link can name entries of directories.
use Rattle.kb_world.proofs.NameLaws.{word-is_name}
use Rattle.kb_world.proofs.PartLaws.{named_as, link_is_name}
use Rattle.kb_world.proofs.roots.Roots.kernel_link.Goals as goal

pub descend-requires-clause-first : goal.descend-requires-clause-first
descend-requires-clause-first c = word-is_name c.args.«module».now c.requires.worded

pub descend-requires-clause-second : goal.descend-requires-clause-second
descend-requires-clause-second c = named_as _ _ c.in_ok-name.ensures (link_is_name c.args.spot.now c.requires.spotted)
