use Rattle.std.proofs.Common.{subst, sym}
use Rattle.kb_machine.specs.Outcome.{◌then◌}
use Rattle.kb_machine.specs.Across.{DoesAcrossCrashes}
use Rattle.kb_machine.proofs.EachLaws.{does_cut}
use Rattle.kb_machine.proofs.laws.a_part_that_stopped_stops_the_whole.Goals as goal

pub returns : goal.returns
returns c roots first second old new before after stop result is d =
    subst (DoesAcrossCrashes roots (first then second) old new before after) (sym is)
    (does_cut roots first second old new before after stop (subst (DoesAcrossCrashes roots first old new before after) is d))
