use Rattle.std.proofs.Common.{ap, ◌∙◌}
use Rattle.std.specs.List.{position_or_len}
use Rattle.std.proofs.lemmas.Str.{IsCharBoundary-after_ascii, IsCharBoundary-before_ascii}
use Rattle.kb_token.specs.Options.{is_separator}
use Rattle.kb_token.proofs.OptionsLaws.{separator_at}
use Rattle.kb_token.proofs.options.cut_at_separator.Goals as goal

pub split_at-requires : goal.split_at-requires
split_at-requires c =
    let at = separator_at c.args.text.now c.word_len-at.result (c.word_len-at.ensures ∙ ap (position_or_len is_separator) c.as_bytes.ensures.value) c.if-at-text.false in
    IsCharBoundary-before_ascii c.args.text.now c.word_len-at.result at.0 at.1

pub split_at-requires-2 : goal.split_at-requires-2
split_at-requires-2 c =
    let at = separator_at c.args.text.now c.word_len-at.result (c.word_len-at.ensures ∙ ap (position_or_len is_separator) c.as_bytes.ensures.value) c.if-at-text.false in
    IsCharBoundary-after_ascii c.args.text.now c.word_len-at.result c.utf8.text at.0 at.1
