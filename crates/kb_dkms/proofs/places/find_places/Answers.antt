-- The module keeps its rule.
use Rattle.std.specs.Cmp.{first_so}
use Rattle.kb_world.specs.Names.{is_word, is_version}
use Rattle.kb_dkms.proofs.places.find_places.Goals as goal

pub module_dir-requires : goal.module_dir-requires
module_dir-requires c = let key = c.args.key.now in first_so (is_word key.module) (is_version key.version) c.requires
