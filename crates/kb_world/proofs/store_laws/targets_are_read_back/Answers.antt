-- The laws stand in TargetsLaws.
use Rattle.kb_world.proofs.TargetsLaws.{read, printed}
use Rattle.kb_world.proofs.store_laws.targets_are_read_back.Goals as goal

pub returns : goal.returns
returns c = record { read = read; printed = printed }
