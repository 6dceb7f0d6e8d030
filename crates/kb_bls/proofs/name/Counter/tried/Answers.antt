use Rattle.kb_bls.proofs.NameLaws.{tried_once}
use Rattle.kb_bls.proofs.name.Counter.tried.Goals as goal

pub returns-in-Left-clause-once : goal.returns-in-Left-clause-once
returns-in-Left-clause-once c = tried_once c.args.self.now c.in-Left.left c.in-Left.done c.in-Left.is c.if-left-gt0.true
