-- The names so far.
use Rattle.std.proofs.Common.{◌≡◌, take}
use Rattle.kb_world.proofs.path.copy_with_room.Given as goal

abbrev pub invariant-loop-name : goal.invariant-loop-name
invariant-loop-name l = l.copy.items ≡ take l.name-index l.names
