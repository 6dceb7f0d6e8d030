use Rattle.std.proofs.Common.{◌≡◌, drop}
use Rattle.std.specs.List.{find}
use Rattle.kb_store.specs.Accessors.{is_installation}
use Rattle.kb_store.proofs.store.Store.installed.Given as goal

abbrev pub invariant-loop-installation : goal.invariant-loop-installation
invariant-loop-installation l = find (is_installation l.module l.spot) l.installation-items ≡ find (is_installation l.module l.spot) (drop l.installation-index l.installation-items)
