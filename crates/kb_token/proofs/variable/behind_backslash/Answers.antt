use Rattle.std.proofs.Common.{sym, ◌∙◌}
use Rattle.kb_token.proofs.VariableLaws.{cut_escaped}
use Rattle.kb_token.proofs.variable.behind_backslash.Goals as goal

pub split_at-requires : goal.split_at-requires
split_at-requires c = cut_escaped c.args.text.now c.utf8.text (sym c.begins_escapable.ensures ∙ c.if-begins_escapable.true)
