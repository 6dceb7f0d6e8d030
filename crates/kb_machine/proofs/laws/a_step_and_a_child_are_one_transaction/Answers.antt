use Rattle.kb_machine.proofs.TransactLaws.{says_alone, says_asked}
use Rattle.kb_machine.proofs.laws.a_step_and_a_child_are_one_transaction.Goals as goal

pub returns-clause-alone : goal.returns-clause-alone
returns-clause-alone c roots script changes step line text tree none public foreign spares = says_alone roots script changes step line text tree none public foreign spares

pub returns-clause-asked : goal.returns-clause-asked
returns-clause-asked c roots script changes step line text tree request none public foreign spares idle there = says_asked roots script changes step line text tree none public foreign spares request idle there
