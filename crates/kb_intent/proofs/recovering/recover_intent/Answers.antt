-- It is finished, or a call stopped it.
use Rattle.std.proofs.Common.{Ok, Err, subst, sym}
use Rattle.kb_intent.specs.Finish.{EndsTransaction}
use Rattle.kb_intent.proofs.RecoverLaws.{recovers_done, recovers_cut}
use Rattle.kb_intent.proofs.recovering.recover_intent.Goals as goal

pub finish-requires-clause-journal : goal.finish-requires-clause-journal
finish-requires-clause-journal g c tree told = (c.args.intent, c.requires.journal tree told, sym c.as_slice.ensures)

pub returns-in-Ok : goal.returns-in-Ok
returns-in-Ok g c =
    let old = g.W.World.state c.args.world.now in
    let new = g.W.World.state c.finish.new.world in
    recovers_done c.args.roots.now c.args.intent old new (g.met.W.World.formed c.args.world.now) c.requires.journal c.requires.only c.in-Ok.ran
    (subst (λ changes. EndsTransaction c.args.roots.now changes old new (Ok c.in-Ok.ran)) c.as_slice.ensures c.in-Ok.ensures)

pub returns-in-Err : goal.returns-in-Err
returns-in-Err g c =
    let old = g.W.World.state c.args.world.now in
    let new = g.W.World.state c.finish.new.world in
    recovers_cut c.args.roots.now c.args.intent old new (g.met.W.World.formed c.args.world.now) c.requires.journal c.requires.only c.in-Err.error c.from.result c.from.ensures
    (subst (λ changes. EndsTransaction c.args.roots.now changes old new (Err c.in-Err.error)) c.as_slice.ensures c.in-Err.ensures)
