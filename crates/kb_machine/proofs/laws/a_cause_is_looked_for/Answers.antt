use Rattle.std.proofs.Common.{subst, sym}
use Rattle.kb_world.specs.Read.{Decides}
use Rattle.kb_machine.specs.Across.{DoesAcrossCrashes}
use Rattle.kb_machine.specs.Outcome.{unless, ◌then◌}
use Rattle.kb_machine.proofs.LookLaws.{refused, passed}
use Rattle.kb_machine.proofs.laws.a_cause_is_looked_for.Goals as goal

pub returns-clause-refused : goal.returns-clause-refused
returns-clause-refused c roots read due second old mid report stop result is same d =
    subst (DoesAcrossCrashes roots (unless due then second) old mid report report) (sym is) (refused roots read due second old mid report stop same (subst (Decides read old mid) is d))

pub returns-clause-passed : goal.returns-clause-passed
returns-clause-passed c roots read due second old mid new before after found result is same d e =
    passed roots read due second old mid new before after result same (subst (Decides read old mid) is d) e
