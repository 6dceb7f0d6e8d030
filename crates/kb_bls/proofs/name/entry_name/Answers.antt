-- What is written is in the relation.
use Rattle.std.proofs.Common.{arith}
use Rattle.std.proofs.lemmas.Grind.{common_steps}
use Rattle.kb_bls.proofs.EntryNameLaws.{name_back}
use Rattle.kb_bls.proofs.name.entry_name.Goals as goal

pub returns-clause-name : goal.returns-clause-name
returns-clause-name c = grind (arith, common_steps)

pub returns-clause-read_back : goal.returns-clause-read_back
returns-clause-read_back c = name_back c.args.base.now c.args.counter.now c.from_string.result c.requires.base c.requires.countable (returns-clause-name c)
