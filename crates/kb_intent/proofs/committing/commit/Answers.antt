-- The journal comes to stand, and the transaction is finished.
use Rattle.std.proofs.Common.{sym, ◌∙◌, subst, Ok, Err}
use Rattle.kb_machine.specs.Commits.{transacted}
use Rattle.kb_intent.specs.Finish.{EndsTransaction}
use Rattle.kb_intent.proofs.CommitLaws.{commits_wanting, commits_stopped, commits_done, commits_cut, journal_there}
use Rattle.kb_intent.proofs.committing.commit.Goals as goal

pub returns-in-Err : goal.returns-in-Err
returns-in-Err g c =
    let txn = c.args.txn in
    let old = g.W.World.state c.args.world.now in
    commits_wanting txn.roots (transacted txn.roots old.script txn.intent.changes) old

pub returns-in-Err-put_journal : goal.returns-in-Err-put_journal
returns-in-Err-put_journal g c =
    let txn = c.args.txn in
    let text = c.as_slice.result.now in
    let old = g.W.World.state c.args.world.now in
    commits_stopped txn.roots txn.intent text c.requires.apart c.in-Ok.ensures.texts (sym (c.as_slice.ensures ∙ c.in-Ok.ensures.text)) old (g.W.World.state c.put_journal.new.world)
    c.requires.valid (g.met.W.World.formed c.args.world.now)
    c.requires.dkms c.requires.bare c.in-Err-put_journal.error c.from.result c.from.ensures c.in-Err-put_journal.ensures

pub finish-requires-clause-journal : goal.finish-requires-clause-journal
finish-requires-clause-journal g c now told =
    let txn = c.args.txn in
    let text = c.as_slice.result.now in
    let old = g.W.World.state c.args.world.now in
    let there = journal_there txn.roots txn.intent text c.requires.apart c.in-Ok.ensures.texts (sym (c.as_slice.ensures ∙ c.in-Ok.ensures.text)) old (g.W.World.state c.put_journal.new.world)
    c.requires.valid (g.met.W.World.formed c.args.world.now)
    c.requires.dkms c.requires.bare c.in-Ok-put_journal.ensures now told in
    (there.0, there.1, there.2 ∙ sym c.as_slice-2.ensures)

pub returns-in-Ok-finish : goal.returns-in-Ok-finish
returns-in-Ok-finish g c =
    let txn = c.args.txn in
    let text = c.as_slice.result.now in
    let old = g.W.World.state c.args.world.now in
    let mid = g.W.World.state c.put_journal.new.world in
    let new = g.W.World.state c.finish.new.world in
    commits_done txn.roots txn.intent text c.requires.apart c.in-Ok.ensures.texts (sym (c.as_slice.ensures ∙ c.in-Ok.ensures.text)) old mid c.requires.valid (g.met.W.World.formed c.args.world.now) c.requires.dkms c.requires.bare
    c.in-Ok-put_journal.ensures new c.in-Ok-finish.ran (subst (λ cs. EndsTransaction txn.roots cs mid new (Ok c.in-Ok-finish.ran)) c.as_slice-2.ensures c.in-Ok-finish.ensures)

pub returns : goal.returns
returns g c =
    let txn = c.args.txn in
    let text = c.as_slice.result.now in
    let old = g.W.World.state c.args.world.now in
    let mid = g.W.World.state c.put_journal.new.world in
    let new = g.W.World.state c.finish.new.world in
    commits_cut txn.roots txn.intent text c.requires.apart c.in-Ok.ensures.texts (sym (c.as_slice.ensures ∙ c.in-Ok.ensures.text)) old mid c.requires.valid (g.met.W.World.formed c.args.world.now) c.requires.dkms c.requires.bare
    c.in-Ok-put_journal.ensures new c.in-Err-finish.error c.from-in-Err-finish.result c.from-in-Err-finish.ensures (subst (λ cs. EndsTransaction txn.roots cs mid new (Err c.in-Err-finish.error)) c.as_slice-2.ensures c.in-Err-finish.ensures)
