-- The names of a place can name entries of directories.
use Rattle.std.proofs.Common.{sym, ◌∙◌}
use Rattle.kb_store.proofs.PlaceLaws.{parts_named}
use Rattle.kb_store.proofs.targets.read_place.Goals as goal

pub new-requires : goal.new-requires
new-requires c =
    parts_named c.deref-2.result.now c.deref.result.now c.in_ok-texts_of.field-0.items c.in_ok-texts_of.ensures (c.deref.ensures.value ∙ sym c.deref-2.ensures.value) (sym c.is_place.ensures ∙ c.if-not-is_place.false)
