-- What a command does is what the machine says.
use Rattle.std.proofs.Common.{◌++◌, ap, sym, refl, ◌∙◌}
use Rattle.kb_machine.proofs.EachLaws.{printed, unprinted}
use Rattle.kb_words.specs.Words.{names_keep_rules}
use Rattle.kb_top.specs.Machine.{help_text, perform}
use Rattle.kb_top.proofs.ServeLaws.{nothing_more}
use Rattle.kb_top.proofs.serve.perform.Goals as goal

pub returns-in-Ok : goal.returns-in-Ok
returns-in-Ok g c =
    rw c.in-Help.is (printed c.args.job.now.host.roots help_text _ c.args.report.now _
    (c.in-Ok.ensures.ok ∙ ap (λ t. c.args.report.now.out ++ t) (c.as_bytes.ensures.value ∙ c.help.ensures)) refl)

pub returns-in-Err : goal.returns-in-Err
returns-in-Err g c =
    unprinted c.args.job.now.host.roots (perform c.args.job.now.host (g.W.World.state c.args.world.now).script c.args.command.now) (g.W.World.state c.args.world.now) c.args.report.now _

pub returns-in-Recover : goal.returns-in-Recover
returns-in-Recover g c = rw c.in-Recover.is (nothing_more c.args.job.now.host.roots _ c.args.report.now)

pub perform_add-requires-clause-named : goal.perform_add-requires-clause-named
perform_add-requires-clause-named g c = sym (ap names_keep_rules c.in-Add.is) ∙ c.requires.named

pub returns-in-Add : goal.returns-in-Add
returns-in-Add g c = rw c.in-Add.is c.perform_add.ensures

pub returns-in-AddTree : goal.returns-in-AddTree
returns-in-AddTree g c = rw c.in-AddTree.is c.perform_add-in-AddTree.ensures
