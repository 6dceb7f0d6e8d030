-- The laws stand in AddLaws.
use Rattle.kb_world.proofs.AddLaws.{added, directories, elsewhere}
use Rattle.kb_world.proofs.laws.add_adds_one_package.Goals as goal

pub returns : goal.returns
returns c = record { added = added; directories = directories; elsewhere = elsewhere }
