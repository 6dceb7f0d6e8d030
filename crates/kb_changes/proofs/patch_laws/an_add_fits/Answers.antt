-- The laws stand in PatchMet.
use Rattle.kb_changes.proofs.PatchMet.{add_stands, add_fits, met}
use Rattle.kb_changes.proofs.patch_laws.an_add_fits.Goals as goal

pub returns : goal.returns
returns c = record { stands = add_stands; fits = add_fits; met = met }
