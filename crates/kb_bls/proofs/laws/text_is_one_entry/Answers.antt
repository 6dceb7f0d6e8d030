use Rattle.kb_bls.proofs.ReadLaws.{one_entry}
use Rattle.kb_bls.proofs.laws.text_is_one_entry.Goals as goal

pub returns : goal.returns
returns c = one_entry
