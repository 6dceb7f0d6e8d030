use Rattle.std.proofs.Common.{◌≡◌, take}
use Rattle.std.specs.Prelude.{flat_map}
use Rattle.kb_store.specs.Accessors as part
use Rattle.kb_store.proofs.store.Store.claimant.Given as goal

abbrev pub invariant-loop-build : goal.invariant-loop-build
invariant-loop-build l =
    part.told l.least ≡ part.least_claim (flat_map (part.claims_of l.self l.kernel l.file l.module l.arch) (take l.build-index l.build-items))
