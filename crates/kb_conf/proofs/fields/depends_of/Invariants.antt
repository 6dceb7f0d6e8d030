use Rattle.std.proofs.Common.{◌≡◌, take, map, fold, []}
use Rattle.std.specs.Prelude.{codes}
use Rattle.kb_conf.specs.Fields.{with_new}
use Rattle.kb_conf.specs.Values.{value_of}
use Rattle.kb_conf.proofs.fields.depends_of.Given as goal

abbrev pub invariant-loop-number : goal.invariant-loop-number
invariant-loop-number l = l.depends ≡ fold with_new [] (map (value_of l.values (codes "BUILD_DEPENDS")) (take l.number-index l.number-items))
