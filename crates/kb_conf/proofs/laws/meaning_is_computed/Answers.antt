use Rattle.kb_conf.proofs.MeaningLaws.{meaning}
use Rattle.kb_conf.proofs.laws.meaning_is_computed.Goals as goal

pub returns : goal.returns
returns c = meaning
