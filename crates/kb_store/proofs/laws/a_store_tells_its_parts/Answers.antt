-- The laws stand in ContentsLaws, and that of claims in InstalledClaims.
use Rattle.kb_store.proofs.ContentsLaws.{added_is, builds_are, installed_is, kept_are}
use Rattle.kb_store.proofs.InstalledClaims.{claimant_is}
use Rattle.kb_store.proofs.laws.a_store_tells_its_parts.Goals as goal

pub returns : goal.returns
returns c = record { added = added_is; builds = builds_are; installed = installed_is; kept = kept_are; claimant = claimant_is }
