use Rattle.std.proofs.Common.{◌≡◌, not, take}
use Rattle.std.specs.Prelude.{filter}
use Rattle.kb_world.specs.Area.{is_settled_by}
use Rattle.kb_disk.proofs.disk.without_settled.Given as goal

abbrev pub invariant-loop-other : goal.invariant-loop-other
invariant-loop-other l = l.made ≡ filter (λ other. not (is_settled_by l.area other)) (take l.other-index l.areas)
