use Rattle.std.proofs.Common.{◌≡◌, drop}
use Rattle.std.specs.List.{find}
use Rattle.kb_store.specs.Accessors.{is_chest}
use Rattle.kb_store.proofs.store.Store.kept.Given as goal

abbrev pub invariant-loop-chest : goal.invariant-loop-chest
invariant-loop-chest l = find (is_chest l.module l.spot) l.chest-items ≡ find (is_chest l.module l.spot) (drop l.chest-index l.chest-items)
