use Rattle.std.proofs.Common.{◌≡◌, take, false}
use Rattle.std.specs.List.{list_any}
use Rattle.kb_world.specs.Script.{can_edit}
use Rattle.kb_memory.proofs.lose.can_lose.Given as goal

-- in none of the areas so far
abbrev pub invariant-loop-area : goal.invariant-loop-area
invariant-loop-area l = list_any (λ area. can_edit area l.nodes l.path) (take l.area-index l.soft) ≡ false
