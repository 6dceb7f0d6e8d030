use Rattle.std.proofs.Common.{◌≡◌, ◌++◌, length, map}
use Rattle.std.specs.Str.{IsUtf8}
use Rattle.kb_token.specs.Options.{words_of}
use Rattle.kb_token.proofs.options.words_of.Given as goal

abbrev pub invariant-words : goal.invariant-words
invariant-words l = IsUtf8 l.rest × words_of l.fn.text ≡ map (λ word. word.now) l.words.items ++ words_of l.rest

abbrev pub decreases-words : goal.decreases-words
decreases-words l = length l.rest
