use Rattle.kb_status.proofs.LineLaws.{in_status}
use Rattle.kb_status.proofs.laws.lines_are_those_of_the_store.Goals as goal

pub returns : goal.returns
returns c = in_status
