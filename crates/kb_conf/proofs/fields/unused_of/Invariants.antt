use Rattle.std.proofs.Common.{◌≡◌, take, map, filter, fold, []}
use Rattle.kb_conf.specs.Fields.{with_new, is_unused}
use Rattle.kb_conf.proofs.fields.unused_of.Given as goal

abbrev pub invariant-loop-name : goal.invariant-loop-name
invariant-loop-name l = l.unused ≡ fold with_new [] (filter is_unused (map (λ name. name.now) (take l.name-index l.name-items)))
