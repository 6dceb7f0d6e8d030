-- Each entry has its kind, since noting changes nothing.
use Rattle.std.proofs.Common.{sym, ◌∙◌}
use Rattle.kb_store.proofs.KindLaws.{kind_at}
use Rattle.kb_store.proofs.notes.note_all.Goals as goal

pub note-requires : goal.note-requires
note-requires g c tree told =
    kind_at tree c.args.met.now c.loop-entry.entry-index c.entry-item.result c.loop-entry-test.true c.entry-item.is (c.requires tree (sym c.loop-entry.invariant.quiet.unchanged.tree ∙ told))
