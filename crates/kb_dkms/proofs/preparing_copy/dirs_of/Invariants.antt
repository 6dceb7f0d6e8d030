use Rattle.std.proofs.Common.{◌≡◌, ◌∷◌, take}
use Rattle.kb_dkms.specs.Copying.{places_copied, dirs_met}
use Rattle.kb_dkms.proofs.preparing_copy.dirs_of.Given as goal

abbrev pub invariant-loop-entry : goal.invariant-loop-entry
invariant-loop-entry l = l.dirs ≡ l.source ∷ places_copied l.source l.from (dirs_met (take l.entry-index l.met))
