use Rattle.kb_again.proofs.Laws.{unseen_done_alike}
use Rattle.kb_again.proofs.AlikeLaws.{alike_parts}
use Rattle.kb_again.proofs.no_change_sees_the_journal.Goals as goal

pub returns-clause-after : goal.returns-clause-after
returns-clause-after c = unseen_done_alike

pub returns-clause-parts : goal.returns-clause-parts
returns-clause-parts c = alike_parts
