use Rattle.std.proofs.Common.{subst, sym}
use Rattle.kb_machine.specs.Across.{DoesAcrossCrashes}
use Rattle.kb_machine.proofs.CommitLaws.{does_commit, does_uncommitted, does_untold}
use Rattle.kb_machine.proofs.laws.an_action_is_one_transaction.Goals as goal

pub returns-clause-done : goal.returns-clause-done
returns-clause-done c roots action made line texts old new before after replies result is says commits out err =
    subst (DoesAcrossCrashes roots action old new before after) (sym is) (does_commit roots action made line texts old new before after replies says commits out err)

pub returns-clause-stopped : goal.returns-clause-stopped
returns-clause-stopped c roots action made line texts old new before after stop result is says commits =
    subst (DoesAcrossCrashes roots action old new before after) (sym is) (does_uncommitted roots action made line texts old new before after stop says commits)

pub returns-clause-untold : goal.returns-clause-untold
returns-clause-untold c roots action made line texts old new before after replies result is says commits =
    subst (DoesAcrossCrashes roots action old new before after) (sym is) (does_untold roots action made line texts old new before after replies says commits)
