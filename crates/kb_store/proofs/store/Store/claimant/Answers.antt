-- A build adds the least of its claims.
use Rattle.std.proofs.Common.{◌∙◌, sym, ap, take}
use Rattle.std.specs.Prelude.{flat_map}
use Rattle.kb_store.specs.Accessors as part
use Rattle.kb_store.specs.Claims.{lesser}
use Rattle.kb_store.proofs.ClaimLaws.{claims_next}
use Rattle.kb_store.proofs.store.Store.claimant.Goals as goal

pub loop-build-preserved : goal.loop-build-preserved
loop-build-preserved c =
    let claims = part.claims_of c.args.self.now c.args.kernel.now c.args.file.now c.args.module.now c.args.arch.now in
    let items = c.as_slice-build-items.result.now in
    let i = c.loop-build.build-index in
    c.lesser_of-least.ensures ∙ ap (λ o. lesser o (part.told c.claim_of-claim.result)) c.loop-build.invariant
    ∙ ap (lesser (part.least_claim (flat_map claims (take i items)))) c.claim_of-claim.ensures
    ∙ sym (claims_next claims items i c.build-item.result c.loop-build-test.true c.build-item.is)
