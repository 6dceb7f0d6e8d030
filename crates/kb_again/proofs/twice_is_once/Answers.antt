use Rattle.kb_again.proofs.Laws.{between_done_alike, each_done_alike, unstaged_done_alike}
use Rattle.kb_again.proofs.twice_is_once.Goals as goal

pub returns-clause-between : goal.returns-clause-between
returns-clause-between c = between_done_alike

pub returns-clause-repeated : goal.returns-clause-repeated
returns-clause-repeated c = each_done_alike

pub returns-clause-unstaged : goal.returns-clause-unstaged
returns-clause-unstaged c = unstaged_done_alike
