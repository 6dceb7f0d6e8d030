use Rattle.std.proofs.Common.{◌≡◌, map, take}
use Rattle.kb_token.specs.Release.{without_return}
use Rattle.kb_token.proofs.release.release_lines.Given as goal

abbrev pub invariant-loop-line : goal.invariant-loop-line
invariant-loop-line l = map (λ line. line.now) l.kept.items ≡ map without_return (map (λ line. line.now) (take l.line-index l.line-items))
