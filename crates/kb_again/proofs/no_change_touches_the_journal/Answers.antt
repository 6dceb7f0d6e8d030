use Rattle.kb_again.proofs.Laws.{journal_kept}
use Rattle.kb_again.proofs.no_change_touches_the_journal.Goals as goal

pub returns : goal.returns
returns c = journal_kept
