-- A place's last name can name an entry of a directory.
use Rattle.kb_world.proofs.PartLaws.{named_as}
use Rattle.kb_store.proofs.PartLaws.{last_named}
use Rattle.kb_store.proofs.notes.note_file.Goals as goal

pub child-requires : goal.child-requires
child-requires g c = named_as _ _ c.last_name.ensures (last_named c.args.place.now c.requires)
