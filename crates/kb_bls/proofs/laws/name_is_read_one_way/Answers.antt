use Rattle.kb_bls.proofs.EntryNameLaws.{name_is_read, read_is_name}
use Rattle.kb_bls.proofs.laws.name_is_read_one_way.Goals as goal

pub returns-clause-read : goal.returns-clause-read
returns-clause-read c = name_is_read

pub returns-clause-is_name : goal.returns-clause-is_name
returns-clause-is_name c = read_is_name
