use Rattle.std.proofs.Common.{subst, sym}
use Rattle.kb_machine.specs.Outcome.{print}
use Rattle.kb_machine.specs.Across.{DoesAcrossCrashes}
use Rattle.kb_machine.proofs.EachLaws.{printed, unprinted}
use Rattle.kb_machine.proofs.laws.a_text_is_printed.Goals as goal

pub returns-clause-printed : goal.returns-clause-printed
returns-clause-printed c roots text state before after done is out err =
    subst (DoesAcrossCrashes roots (print text) state state before after) (sym is) (printed roots text state before after out err)

pub returns-clause-wanting : goal.returns-clause-wanting
returns-clause-wanting c roots action state before after result is = subst (DoesAcrossCrashes roots action state state before after) (sym is) (unprinted roots action state before after)
