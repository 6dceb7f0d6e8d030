use Rattle.std.proofs.Common.{◌≡◌, map, take, not}
use Rattle.std.specs.Prelude.{filter}
use Rattle.kb_token.specs.Options.{is_loader_word}
use Rattle.kb_token.proofs.options.without_loader_words.Given as goal

abbrev pub invariant-loop-word : goal.invariant-loop-word
invariant-loop-word l = map (λ word. word.now) l.kept.items ≡ filter (λ word. not (is_loader_word word)) (map (λ word. word.now) (take l.word-index l.words))
