use Rattle.kb_store.proofs.TargetsLaws.{inner_now}
use Rattle.kb_store.proofs.targets.inner.Goals as goal

pub returns-in-len2-up : goal.returns-in-len2-up
returns-in-len2-up c = inner_now c.args.lines.now c.in-len2-up.len_at_least
