use Rattle.kb_words.proofs.PlaceLaws.{related, only, named}
use Rattle.kb_words.proofs.laws.words_are_their_command_line.Goals as goal

pub returns-clause-related : goal.returns-clause-related
returns-clause-related c = related

pub returns-clause-only : goal.returns-clause-only
returns-clause-only c = only

pub returns-clause-named : goal.returns-clause-named
returns-clause-named c = named
