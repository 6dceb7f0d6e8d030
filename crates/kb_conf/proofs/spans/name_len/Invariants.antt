use Rattle.std.proofs.Common.{◌≡◌, ◌+◌, drop}
use Rattle.std.specs.List.{prefix_len}
use Rattle.kb_conf.specs.Bytes.{continues_name}
use Rattle.kb_conf.proofs.spans.name_len.Given as goal

abbrev pub invariant-loop-i : goal.invariant-loop-i
invariant-loop-i l = prefix_len continues_name l.text ≡ l.i + prefix_len continues_name (drop l.i l.text)
