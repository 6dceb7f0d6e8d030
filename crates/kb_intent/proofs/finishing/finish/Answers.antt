-- The parts go on from one another, and each crash leaves what opens the store.
use Rattle.std.proofs.Common.{Ok, Err}
use Rattle.kb_intent.proofs.FinishLaws.{journal_valid, way_begins, way_settles, way_takes, changes_stopped, way_stopped}
use Rattle.kb_intent.proofs.EndLaws.{leaf_there, end_stopped, end_done}
use Rattle.kb_intent.proofs.UnreachedLaws.{valid_placed}
use Rattle.kb_intent.proofs.finishing.finish.Goals as goal

pub do_changes-requires-clause-placed : goal.do_changes-requires-clause-placed
do_changes-requires-clause-placed g c tree told =
    let has = c.requires.journal tree told in
    valid_placed c.args.roots.now c.args.changes.now (journal_valid c.args.roots.now c.args.changes.now tree has.0 has.1 has.2)

pub returns-in-Err : goal.returns-in-Err
returns-in-Err g c =
    changes_stopped c.args.roots.now c.args.changes.now (g.W.World.state c.args.world.now) c.requires.apart (g.met.W.World.formed c.args.world.now) (g.W.World.state c.do_changes.new.world) c.in-Err.error
    (g.met.W.World.formed c.do_changes.new.world) c.in-Err.ensures

pub returns-in-Err-settle_all : goal.returns-in-Err-settle_all
returns-in-Err-settle_all g c =
    let old = g.W.World.state c.args.world.now in
    let ran = g.W.World.state c.do_changes.new.world in
    let settling = g.W.World.state c.settle_all.new.world in
    way_stopped c.args.roots.now c.args.changes.now old c.requires.apart (g.met.W.World.formed c.args.world.now) settling c.in-Err-settle_all.error (g.met.W.World.formed c.settle_all.new.world)
    (way_settles c.args.roots.now c.args.changes.now old ran settling c.in-Ok.ran (Err c.in-Err-settle_all.error) (way_begins c.args.roots.now c.args.changes.now old ran c.in-Ok.ran c.in-Ok.ensures) c.in-Err-settle_all.ensures)

pub returns-in-Err-unstage : goal.returns-in-Err-unstage
returns-in-Err-unstage g c =
    let old = g.W.World.state c.args.world.now in
    let ran = g.W.World.state c.do_changes.new.world in
    let settling = g.W.World.state c.settle_all.new.world in
    let bare = g.W.World.state c.unstage.new.world in
    way_stopped c.args.roots.now c.args.changes.now old c.requires.apart (g.met.W.World.formed c.args.world.now) bare c.in-Err-unstage.error (g.met.W.World.formed c.unstage.new.world)
    (way_takes c.args.roots.now c.args.changes.now old settling bare tt (Err c.in-Err-unstage.error)
    (way_settles c.args.roots.now c.args.changes.now old ran settling c.in-Ok.ran (Ok tt) (way_begins c.args.roots.now c.args.changes.now old ran c.in-Ok.ran c.in-Ok.ensures) c.in-Ok-settle_all.ensures) c.in-Err-unstage.ensures)

pub drop_journal-requires : goal.drop_journal-requires
drop_journal-requires g c =
    leaf_there c.args.roots.now c.args.changes.now (g.W.World.state c.args.world.now) (g.W.World.state c.do_changes.new.world) (g.W.World.state c.settle_all.new.world) (g.W.World.state c.unstage.new.world) c.requires.apart
    (g.met.W.World.formed c.args.world.now) c.in-Ok.ran c.in-Ok.ensures c.in-Ok-settle_all.ensures c.in-Ok-unstage.ensures (g.met.W.World.formed c.unstage.new.world) c.requires.journal

pub returns-in-Ok-drop_journal : goal.returns-in-Ok-drop_journal
returns-in-Ok-drop_journal g c =
    end_done c.args.roots.now c.args.changes.now (g.W.World.state c.args.world.now) (g.W.World.state c.do_changes.new.world) (g.W.World.state c.settle_all.new.world) (g.W.World.state c.unstage.new.world) c.requires.apart
    (g.met.W.World.formed c.args.world.now) c.in-Ok.ran c.in-Ok.ensures c.in-Ok-settle_all.ensures c.in-Ok-unstage.ensures (g.met.W.World.formed c.unstage.new.world) (g.W.World.state c.drop_journal.new.world)
    (g.met.W.World.formed c.do_changes.new.world) c.requires.journal c.in-Ok-drop_journal.ensures

pub returns-in-Err-drop_journal : goal.returns-in-Err-drop_journal
returns-in-Err-drop_journal g c =
    end_stopped c.args.roots.now c.args.changes.now (g.W.World.state c.args.world.now) (g.W.World.state c.do_changes.new.world) (g.W.World.state c.settle_all.new.world) (g.W.World.state c.unstage.new.world) c.requires.apart
    (g.met.W.World.formed c.args.world.now) c.in-Ok.ran c.in-Ok.ensures c.in-Ok-settle_all.ensures c.in-Ok-unstage.ensures (g.met.W.World.formed c.unstage.new.world) (g.W.World.state c.drop_journal.new.world)
    c.in-Err-drop_journal.error c.in-Err-drop_journal.ensures
