use Rattle.kb_conf.proofs.OneMeaning.{one_list, good_or_bad, one_line}
use Rattle.kb_conf.proofs.laws.one_meaning.Goals as goal

pub returns-clause-one_list : goal.returns-clause-one_list
returns-clause-one_list c = one_list

pub returns-clause-good_or_bad : goal.returns-clause-good_or_bad
returns-clause-good_or_bad c = good_or_bad

pub returns-clause-one_line : goal.returns-clause-one_line
returns-clause-one_line c = one_line
