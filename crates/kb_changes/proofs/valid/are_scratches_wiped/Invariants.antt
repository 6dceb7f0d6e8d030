-- What is left decides.
use Rattle.std.proofs.Common.{◌≡◌, drop}
use Rattle.std.specs.List.{list_all}
use Rattle.kb_changes.specs.Valid as rule
use Rattle.kb_changes.proofs.valid.are_scratches_wiped.Given as goal

abbrev pub invariant-loop-path : goal.invariant-loop-path
invariant-loop-path l = list_all (rule.is_scratch_wiped l.roots l.wipes) l.paths ≡ list_all (rule.is_scratch_wiped l.roots l.wipes) (drop l.path-index l.paths)
