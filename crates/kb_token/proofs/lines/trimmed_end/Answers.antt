use Rattle.std.proofs.Common.{ap, ◌∙◌, arith}
use Rattle.std.specs.List.{suffix_len}
use Rattle.std.proofs.lemmas.List.Sums.{suffix_len-le-length}
use Rattle.kb_token.specs.Lines.{is_space}
use Rattle.kb_token.proofs.LineLaws.{cut_end}
use Rattle.kb_token.proofs.lines.trimmed_end.Goals as goal

pub overflow_sub-text : goal.overflow_sub-text
overflow_sub-text c = let e = c.trailing_spaces.ensures ∙ ap (suffix_len is_space) c.as_bytes.ensures.value in omega (arith, suffix_len-le-length is_space c.args.text.now, e)

pub split_at-requires : goal.split_at-requires
split_at-requires c = cut_end c.args.text.now c.trailing_spaces.result (c.trailing_spaces.ensures ∙ ap (suffix_len is_space) c.as_bytes.ensures.value)
