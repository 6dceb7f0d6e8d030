use Rattle.std.proofs.Common.{subst, sym, Bool}
use Rattle.kb_world.specs.Read.{Gives}
use Rattle.kb_machine.specs.Across.{DoesAcrossCrashes}
use Rattle.kb_machine.specs.Each.{when}
use Rattle.kb_machine.proofs.WhenLaws.{read_of, when_holds, when_fails, when_stops}
use Rattle.kb_machine.proofs.laws.a_part_is_done_where_its_test_holds.Goals as goal

pub returns-clause-holds : goal.returns-clause-holds
returns-clause-holds c roots read test action old mid new before after found result is same g d =
    when_holds roots read test action same old mid new before after result (subst (Gives {T = Bool} (read_of read) old mid) is g) d

pub returns-clause-fails : goal.returns-clause-fails
returns-clause-fails c roots read test action old mid report found done is ok same g =
    subst (DoesAcrossCrashes roots (when test action) old mid report report) (sym ok)
    (when_fails roots read test action same old mid report (subst (Gives {T = Bool} (read_of read) old mid) is g))

pub returns-clause-stopped : goal.returns-clause-stopped
returns-clause-stopped c roots read test action old mid report stop found result is stops same g =
    subst (DoesAcrossCrashes roots (when test action) old mid report report) (sym stops)
    (when_stops roots read test action same old mid report stop (subst (Gives {T = Bool} (read_of read) old mid) is g))
