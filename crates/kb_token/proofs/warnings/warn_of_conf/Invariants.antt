use Rattle.std.proofs.Common.{◌≡◌, ◌++◌, map, take}
use Rattle.std.specs.Prelude.{filter_map}
use Rattle.kb_token.specs.Facts.{unused_warning}
use Rattle.kb_token.specs.Variable.{variable_of}
use Rattle.kb_token.proofs.warnings.warn_of_conf.Given as goal

abbrev pub invariant-loop-line : goal.invariant-loop-line
invariant-loop-line l = l.warnings ≡ l.initial.warnings ++ filter_map (λ line. unused_warning (variable_of line)) (map (λ line. line.now) (take l.line-index l.line-items))
