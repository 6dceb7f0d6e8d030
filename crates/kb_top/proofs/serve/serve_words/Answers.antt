-- The recovery is told, and then the words are done.
use Rattle.std.proofs.Common.{◌≡◌, ap, subst, ◌∙◌}
use Rattle.std.specs.Prelude.{Result}
use Rattle.kb_world.specs.Read.{IsRead}
use Rattle.kb_world.specs.declared.job.Host.{Host}
use Rattle.kb_world.specs.declared.stop.Stop.{Stop}
use Rattle.kb_dkms.specs.Host.{host_keeps_rules}
use Rattle.kb_machine.specs.Across.{DoesAcrossCrashes}
use Rattle.kb_machine.proofs.EachLaws.{unprinted}
use Rattle.kb_words.specs.declared.command.Command.{Command}
use Rattle.kb_words.specs.Reading.{reading}
use Rattle.kb_words.proofs.PlaceLaws.{named}
use Rattle.kb_top.specs.Machine.{is_recovery, perform, machine}
use Rattle.kb_top.specs.Telling.{words_found, told_to}
use Rattle.kb_top.proofs.ServeLaws.{known_keeps_rules, words_unread, words_done, unread_refused, never_unread}
use Rattle.kb_top.proofs.serve.serve_words.Goals as goal

pub returns-in-Err-clause-does : goal.returns-in-Err-clause-does
returns-in-Err-clause-does g c =
    let state = g.W.World.state c.args.world.now in
    unprinted c.args.host.now.roots (machine c.args.host.now state.script c.args.words.now (words_found c.args.found.now)) state c.args.report.now _

pub returns-in-Err-read-clause-does : goal.returns-in-Err-read-clause-does
returns-in-Err-read-clause-does g c =
    let found = words_found c.args.found.now in
    words_unread c.args.host.now c.args.words.now found (g.W.World.state c.args.world.now) c.args.report.now c.tell_recovery.new.report c.in-Err-read.stop
    (subst (λ (read : Result Command Stop). c.tell_recovery.new.report ≡ told_to found (is_recovery read) c.args.report.now) c.in-Err-read.is c.in-Ok.ensures)
    (subst (λ (read : Result Command Stop). IsRead read (reading c.args.words.now)) c.in-Err-read.is c.read_words-read.ensures)

pub returns-in-Err-job_of-clause-does : goal.returns-in-Err-job_of-clause-does
returns-in-Err-job_of-clause-does g c =
    let state = g.W.World.state c.args.world.now in
    unprinted c.args.host.now.roots (machine c.args.host.now state.script c.args.words.now (words_found c.args.found.now)) state c.args.report.now _

pub perform-requires-clause-named : goal.perform-requires-clause-named
perform-requires-clause-named g c =
    named c.args.words.now c.in-Ok-read.command (subst (λ (read : Result Command Stop). IsRead read (reading c.args.words.now)) c.in-Ok-read.is c.read_words-read.ensures)

pub perform-requires-clause-known : goal.perform-requires-clause-known
perform-requires-clause-known g c = ap host_keeps_rules c.in-Ok-job_of.ensures ∙ known_keeps_rules c.args.host.now

pub returns-clause-does : goal.returns-clause-does
returns-clause-does g c =
    let found = words_found c.args.found.now in
    let old = g.W.World.state c.args.world.now in
    let P : Host → Type 0 = λ host. DoesAcrossCrashes host.roots (perform host old.script c.in-Ok-read.command) old (g.W.World.state c.perform.new.world) c.tell_recovery.new.report c.perform.new.report c.perform.result in
    words_done c.args.host.now c.args.words.now found c.in-Ok-read.command old _ c.args.report.now c.tell_recovery.new.report _ c.perform.result
    (subst (λ (read : Result Command Stop). c.tell_recovery.new.report ≡ told_to found (is_recovery read) c.args.report.now) c.in-Ok-read.is c.in-Ok.ensures)
    (subst (λ (read : Result Command Stop). IsRead read (reading c.args.words.now)) c.in-Ok-read.is c.read_words-read.ensures)
    (subst P c.in-Ok-job_of.ensures c.perform.ensures)

pub returns-in-Err-clause-unread : goal.returns-in-Err-clause-unread
returns-in-Err-clause-unread g c = λ why read. tt

pub returns-in-Err-read-clause-unread : goal.returns-in-Err-read-clause-unread
returns-in-Err-read-clause-unread g c =
    unread_refused c.args.host.now.roots c.args.words.now c.in-Err-read.stop
    (subst (λ (read : Result Command Stop). IsRead read (reading c.args.words.now)) c.in-Err-read.is c.read_words-read.ensures)

pub returns-in-Err-job_of-clause-unread : goal.returns-in-Err-job_of-clause-unread
returns-in-Err-job_of-clause-unread g c = λ why read. tt

pub returns-clause-unread : goal.returns-clause-unread
returns-clause-unread g c =
    never_unread c.args.host.now.roots c.args.words.now c.in-Ok-read.command c.perform.result
    (subst (λ (read : Result Command Stop). IsRead read (reading c.args.words.now)) c.in-Ok-read.is c.read_words-read.ensures)
