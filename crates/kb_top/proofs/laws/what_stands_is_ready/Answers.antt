use Rattle.kb_top.proofs.ReadyLaws.{stands_ready}
use Rattle.kb_top.proofs.laws.what_stands_is_ready.Goals as goal

pub returns : goal.returns
returns c = stands_ready
