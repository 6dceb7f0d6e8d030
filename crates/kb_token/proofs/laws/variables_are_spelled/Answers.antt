use Rattle.kb_token.proofs.SpellingLaws.{variable_is_only}
use Rattle.kb_token.proofs.laws.variables_are_spelled.Goals as goal

pub returns : goal.returns
returns c = variable_is_only
