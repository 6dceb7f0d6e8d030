use Rattle.std.proofs.Common.{◌≡◌, take}
use Rattle.kb_dkms.specs.Copying.{places_copied, leaves_met}
use Rattle.kb_dkms.proofs.preparing_copy.puts_of.Given as goal

abbrev pub invariant-loop-entry : goal.invariant-loop-entry
invariant-loop-entry l = l.puts ≡ places_copied l.source l.from (leaves_met (take l.entry-index l.met))
