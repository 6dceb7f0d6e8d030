use Rattle.std.proofs.Common.{◌≡◌, ◌++◌, drop}
use Rattle.kb_store.specs.Chests as told
use Rattle.kb_store.proofs.chests.files_in.Given as goal

abbrev pub invariant-loop-entry : goal.invariant-loop-entry
invariant-loop-entry l = told.files_in l.directory l.met ≡ l.files ++ told.files_in l.directory (drop l.entry-index l.met)
