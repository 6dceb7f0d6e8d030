use Rattle.kb_journal.proofs.IntentLaws.{one_journal}
use Rattle.kb_journal.proofs.laws.a_text_has_one_intent.Goals as goal

pub returns : goal.returns
returns c = one_journal
