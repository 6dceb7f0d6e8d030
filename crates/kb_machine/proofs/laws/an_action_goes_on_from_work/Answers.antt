use Rattle.std.proofs.Common.{subst, sym}
use Rattle.kb_machine.specs.Across.{DoesAcrossCrashes}
use Rattle.kb_machine.specs.Works.{works, Works}
use Rattle.kb_machine.proofs.WorksLaws.{does_worked, does_unworked}
use Rattle.kb_machine.proofs.laws.an_action_goes_on_from_work.Goals as goal

pub returns-clause-goes_on : goal.returns-clause-goes_on
returns-clause-goes_on c roots work next value old mid new before between after right result is formed w d =
    does_worked roots work next value old mid new before between after result formed (subst (Works roots work old mid before between) is w) d

pub returns-clause-stops : goal.returns-clause-stops
returns-clause-stops c roots work next old new before after stop right result is ends formed w =
    subst (DoesAcrossCrashes roots (works work next) old new before after) (sym ends)
    (does_unworked roots work next old new before after stop formed (subst (Works roots work old new before after) is w))
