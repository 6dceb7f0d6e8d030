use Rattle.std.proofs.Common.{◌≡◌, map, take}
use Rattle.kb_token.specs.Variable.{variable_value}
use Rattle.kb_token.proofs.variable.given_value.Given as goal

abbrev pub invariant-loop-line : goal.invariant-loop-line
invariant-loop-line l = l.last ≡ variable_value l.key (map (λ line. line.now) (take l.line-index l.lines))
