-- A build's package and spot keep their rules.
use Rattle.std.proofs.Common.{sym, ap, ◌∙◌}
use Rattle.std.specs.Cmp.{first_so, second_so}
use Rattle.kb_world.specs.StorePath.{is_key, is_spot, is_ruled, path_of}
use Rattle.kb_store.proofs.notes.note_place.Goals as goal

pub note_box-requires-clause-named : goal.note_box-requires-clause-named
note_box-requires-clause-named g c = let it = c.in-Targets in first_so (is_key it.key) (is_spot it.spot) (ap is_ruled (sym it.is) ∙ c.requires.ruled)

pub note_box-requires-clause-spotted : goal.note_box-requires-clause-spotted
note_box-requires-clause-spotted g c = let it = c.in-Targets in second_so (is_key it.key) (is_spot it.spot) (ap is_ruled (sym it.is) ∙ c.requires.ruled)

pub note_source-requires-clause-there : goal.note_source-requires-clause-there
note_source-requires-clause-there g c = c.requires.there ∙ ap (path_of c.args.roots.now) c.in-SourceLink.is
