use Rattle.std.proofs.Common.{ap, ◌∙◌}
use Rattle.std.specs.List.{prefix_len}
use Rattle.kb_token.specs.Lines.{is_space}
use Rattle.kb_token.proofs.LineLaws.{cut_start}
use Rattle.kb_token.proofs.lines.trimmed_start.Goals as goal

pub split_at-requires : goal.split_at-requires
split_at-requires c = cut_start c.args.text.now c.utf8.text c.leading_spaces.result (c.leading_spaces.ensures ∙ ap (prefix_len is_space) c.as_bytes.ensures.value)
