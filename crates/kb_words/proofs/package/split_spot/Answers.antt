-- The word is split at its first slash, where there is one.
use Rattle.std.proofs.Common.{lit<}
use Rattle.std.proofs.lemmas.Str.Pattern.{split_once_first}
use Rattle.std.specs.Str.{byte}
use Rattle.kb_words.proofs.SlashLaws.{spot_found}
use Rattle.kb_words.proofs.package.split_spot.Goals as goal

pub returns : goal.returns
returns c = spot_found c.args.word.now c.split_once.result (split_once_first (byte "/") c.args.word.now c.split_once.result c.split_once.ensures.cases (lit< tt))
