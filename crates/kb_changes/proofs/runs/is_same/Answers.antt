-- Paths that are equal compare alike.
use Rattle.std.proofs.Common.{◌∙◌}
use Rattle.std.specs.Cmp.Lexicographic.{lists_ties, texts_ties}
use Rattle.kb_changes.proofs.runs.is_same.Goals as goal

pub returns : goal.returns
returns c = c.eq.ensures ∙ lists_ties _ texts_ties c.args.a.now c.args.b.now
