use Rattle.kb_auto.proofs.PlacedLaws.{each_placed, listed_once, apart}
use Rattle.kb_auto.proofs.laws.each_module_is_placed_once.Goals as goal

pub returns : goal.returns
returns c = record { all = each_placed; listed = listed_once; once = apart }
