use Rattle.std.proofs.Common.{subst, sym}
use Rattle.kb_machine.specs.Across.{DoesAcrossCrashes}
use Rattle.kb_machine.specs.Child.{runs_child}
use Rattle.kb_machine.proofs.ChildLaws.{does_child, does_no_child, initrds_foreign}
use Rattle.kb_machine.proofs.laws.a_child_changes_what_is_foreign.Goals as goal

pub returns-clause-goes_on : goal.returns-clause-goes_on
returns-clause-goes_on c roots request next reply old mid new before after result area formed r d = does_child roots request area old mid formed next reply new before after result r d

pub returns-clause-stopped : goal.returns-clause-stopped
returns-clause-stopped c roots request next error old new before after result is area formed r =
    subst (DoesAcrossCrashes roots (runs_child roots old.script request next) old new before after) (sym is) (does_no_child roots request area old new formed next before after error r)

pub returns-clause-initrds : goal.returns-clause-initrds
returns-clause-initrds c = initrds_foreign
