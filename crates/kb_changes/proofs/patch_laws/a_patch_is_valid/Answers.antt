-- The law stands in PatchValid.
use Rattle.kb_changes.proofs.PatchValid.{patch_is_valid}
use Rattle.kb_changes.proofs.patch_laws.a_patch_is_valid.Goals as goal

pub returns : goal.returns
returns c = patch_is_valid
