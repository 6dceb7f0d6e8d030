use Rattle.std.proofs.Common.{◌≡◌, take}
use Rattle.std.specs.List.{filter_map}
use Rattle.kb_conf.specs.Fields.{patch_at}
use Rattle.kb_conf.proofs.fields.patches_of.Given as goal

abbrev pub invariant-loop-number : goal.invariant-loop-number
invariant-loop-number l = l.patches ≡ filter_map (patch_at l.given l.values) (take l.number-index l.number-items)
