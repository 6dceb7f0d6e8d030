-- The laws stand in PatchDone.
use Rattle.kb_changes.proofs.PatchDone.{patch_done, foreign_done}
use Rattle.kb_changes.proofs.patch_laws.a_patch_is_done.Goals as goal

pub returns : goal.returns
returns c = record { done = patch_done; foreign = foreign_done }
