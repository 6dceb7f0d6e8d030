use Rattle.std.proofs.Common.{◌≡◌, take}
use Rattle.kb_store.specs.Accessors as part
use Rattle.kb_store.proofs.store.least_claim.Given as goal

abbrev pub invariant-loop-place : goal.invariant-loop-place
invariant-loop-place l = part.told l.least ≡ part.least_claim (part.claims_at l.file l.module (take l.place-index l.places))
