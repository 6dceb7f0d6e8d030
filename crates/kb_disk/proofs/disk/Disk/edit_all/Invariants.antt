use Rattle.std.proofs.Common.{◌≡◌, ◌++◌}
use Rattle.kb_disk.specs.Stored.{stored_of, with_effects}
use Rattle.kb_disk.proofs.disk.Disk.edit_all.Given as goal

-- the edits so far are made, and the others are left
abbrev pub invariant-loop-edit : goal.invariant-loop-edit
invariant-loop-edit l = (stored_of l.self ≡ with_effects l.area (stored_of l.fn.self) l.yielded) × (l.yielded ++ l.edit-iterator.rest.items ≡ l.fn.edits.items)
