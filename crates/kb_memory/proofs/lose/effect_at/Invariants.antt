use Rattle.std.proofs.Common.{◌≡◌, drop}
use Rattle.std.specs.List.{slice_get}
use Rattle.kb_memory.specs.Lost.{effects_of}
use Rattle.kb_memory.proofs.lose.effect_at.Given as goal

-- the effect is that of this number among those of the rows that are left
abbrev pub invariant-loop-row : goal.invariant-loop-row
invariant-loop-row l = slice_get (effects_of (drop l.row-index l.rows)) l.left ≡ slice_get (effects_of l.rows) l.fn.number
