-- The laws stand in PatchLaws and OrderLaws.
use Rattle.kb_world.proofs.OrderLaws.{patched-empty}
use Rattle.kb_world.proofs.PatchLaws.{patched-apart, patched-put, patched-gone, patched-dir}
use Rattle.kb_world.proofs.patch_laws.a_patch_names_its_paths.Goals as goal

pub returns : goal.returns
returns c = record { apart = patched-apart; put = patched-put; gone = patched-gone; dir = patched-dir; empty = patched-empty }
