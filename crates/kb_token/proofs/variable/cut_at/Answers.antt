use Rattle.std.proofs.lemmas.Str.Pattern.{split_parts}
use Rattle.kb_token.proofs.VariableLaws.{cut_is}
use Rattle.kb_token.proofs.variable.cut_at.Goals as goal

pub returns : goal.returns
returns c = cut_is c.args.mark c.args.text.now c.split_once.result (split_parts c.args.mark c.args.text.now c.split_once.result c.split_once.ensures.cases c.requires)
