use Rattle.std.proofs.Common.{◌≡◌, map, take}
use Rattle.kb_conf.specs.Assignment.{Assignment}
use Rattle.kb_conf.specs.Table.{view_assignment}
use Rattle.kb_conf.proofs.values.Values.names.Given as goal

abbrev pub invariant-loop-assignment : goal.invariant-loop-assignment
invariant-loop-assignment l = map (λ n. n.now) l.names.items ≡ map (λ (a : Assignment). a.name) (map view_assignment (take l.assignment-index l.assignment-items))
