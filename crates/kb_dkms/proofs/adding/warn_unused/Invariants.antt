use Rattle.std.proofs.Common.{◌≡◌, ◌++◌, take}
use Rattle.kb_dkms.specs.Add.{unused_lines}
use Rattle.kb_dkms.proofs.adding.warn_unused.Given as goal

abbrev pub invariant-loop-name : goal.invariant-loop-name
invariant-loop-name l = l.err ≡ l.initial.err ++ unused_lines (take l.name-index l.names)
