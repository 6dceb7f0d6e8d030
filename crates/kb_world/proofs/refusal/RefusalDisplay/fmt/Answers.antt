use Rattle.std.proofs.Common.{append_assoc, sym, ap, ◌∙◌}
use Rattle.std.specs.Prelude.{codes, decimal}
use Rattle.std.proofs.Output.{has_written_of_eq}
use Rattle.kb_world.specs.Refusal.{refusal_text}
use Rattle.kb_world.proofs.refusal.RefusalDisplay.fmt.Goals as goal

pub returns-in-ChildFailed-clause-writes : goal.returns-in-ChildFailed-clause-writes
returns-in-ChildFailed-clause-writes g c = λ plain done.
    let regrouped = append_assoc c.in-ChildFailed.which (codes " ended with ") (decimal c.in-ChildFailed.code) in
    has_written_of_eq _ _ _ _ _ (sym regrouped ∙ ap refusal_text (sym c.in-ChildFailed.is)) (c.write-in-ChildFailed.ensures.writes plain done)
