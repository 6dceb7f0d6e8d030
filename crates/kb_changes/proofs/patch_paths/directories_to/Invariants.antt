-- The directories so far, and those that are to come.
use Rattle.std.proofs.Common.{◌≡◌, ◌++◌, drop}
use Rattle.kb_world.specs.Patch.{directories_to}
use Rattle.kb_changes.proofs.patch_paths.directories_to.Given as goal

abbrev pub invariant-loop-name : goal.invariant-loop-name
invariant-loop-name l = l.made.items ++ directories_to l.directory (drop l.name-index l.names) ≡ directories_to l.base l.names
