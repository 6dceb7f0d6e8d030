use Rattle.std.proofs.Common.{◌≡◌, ◌+◌, ◌^◌, length, take}
use Rattle.kb_memory.specs.Lost.{effects_of}
use Rattle.kb_memory.proofs.lose.has_few_effects.Given as goal

-- as many effects as are left and those so far are 2^31
abbrev pub invariant-loop-row : goal.invariant-loop-row
invariant-loop-row l = length (effects_of (take l.row-index l.rows)) + l.left ≡ 2 ^ 31
