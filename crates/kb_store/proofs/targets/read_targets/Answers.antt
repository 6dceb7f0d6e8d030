-- What isn't UTF-8 is none.
use Rattle.kb_store.proofs.TargetsLaws.{targets_utf8}
use Rattle.kb_store.proofs.targets.read_targets.Goals as goal

pub returns-in-Err : goal.returns-in-Err
returns-in-Err c = targets_utf8 c.args.bytes.now c.in-Err.ensures.cases.0
