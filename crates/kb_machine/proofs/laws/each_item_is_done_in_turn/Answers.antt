use Rattle.std.proofs.Common.{subst, sym}
use Rattle.kb_machine.specs.Across.{DoesAcrossCrashes}
use Rattle.kb_machine.specs.Each.{each}
use Rattle.kb_machine.proofs.EachLaws.{leads_none, leads_more, leads_cut, leads_all}
use Rattle.kb_machine.proofs.laws.each_item_is_done_in_turn.Goals as goal

pub returns-clause-begins : goal.returns-clause-begins
returns-clause-begins c = leads_none

pub returns-clause-goes_on : goal.returns-clause-goes_on
returns-clause-goes_on c roots action items count item old now next before between after done is below here leads d =
    leads_more roots action items count item old now next before between after below here leads (subst (DoesAcrossCrashes roots (action item) now next between after) is d)

pub returns-clause-stops : goal.returns-clause-stops
returns-clause-stops c roots action items count item old now next before between after stop result is below here leads d =
    subst (DoesAcrossCrashes roots (each action items) old next before after) (sym is)
    (leads_cut roots action items count item old now next before between after stop below here leads (subst (DoesAcrossCrashes roots (action item) now next between after) is d))

pub returns-clause-ends : goal.returns-clause-ends
returns-clause-ends c roots action items count old now before between done is none leads =
    subst (DoesAcrossCrashes roots (each action items) old now before between) (sym is) (leads_all roots action items count old now before between none leads)
