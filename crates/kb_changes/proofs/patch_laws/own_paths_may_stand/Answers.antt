-- The laws stand in PatchOwn.
use Rattle.kb_changes.proofs.PatchOwn.{own_placed, own_no_initrd, dirs_own}
use Rattle.kb_changes.proofs.patch_laws.own_paths_may_stand.Goals as goal

pub returns : goal.returns
returns c = record { placed = own_placed; no_initrd = own_no_initrd; dirs = dirs_own }
