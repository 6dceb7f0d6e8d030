use Rattle.kb_auto.proofs.PlacedLaws.{behind}
use Rattle.kb_auto.proofs.laws.modules_stand_behind_their_dependencies.Goals as goal

pub returns : goal.returns
returns c = behind
