use Rattle.kb_world.proofs.PatchLaws.{indexing-leaves}
use Rattle.kb_world.proofs.patch_laws.an_old_index_goes.Goals as goal

pub returns : goal.returns
returns c = indexing-leaves
