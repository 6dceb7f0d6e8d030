use Rattle.kb_memory.proofs.LostLaws.{nothing_by, file_left}
use Rattle.kb_memory.proofs.laws.each_named_path_can_be_lost.Goals as goal

pub returns : goal.returns
returns c = record {
  nothing = λ script soft tree number path few named can. nothing_by script few soft tree number path named can;
  file = λ script soft tree number path few named can i to bytes exec is. file_left script few soft tree number path named can i to bytes exec is;
}
