use Rattle.kb_again.proofs.Laws.{own_sparing, settled_sparing}
use Rattle.kb_again.proofs.settled_areas_are_sparing.Goals as goal

pub returns-clause-own : goal.returns-clause-own
returns-clause-own c = own_sparing

pub returns-clause-left : goal.returns-clause-left
returns-clause-left c = settled_sparing
