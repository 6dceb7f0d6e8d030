-- What is read of names keeps its rules.
use Rattle.kb_world.proofs.StorePathLaws.{told_ruled}
use Rattle.kb_world.proofs.store_path.StorePath.of.Goals as goal

pub returns-in-Some-clause-ruled : goal.returns-in-Some-clause-ruled
returns-in-Some-clause-ruled c = told_ruled c.told_by.result c.in-Some.names.now c.told_by.ensures
