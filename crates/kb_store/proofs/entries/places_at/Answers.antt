-- What is in the format has places.
use Rattle.std.proofs.Common.{sym}
use Rattle.kb_store.proofs.PartLaws.{placed}
use Rattle.kb_store.proofs.entries.places_at.Goals as goal

pub returns-in_ok-read_targets-in-File-clause-placed : goal.returns-in_ok-read_targets-in-File-clause-placed
returns-in_ok-read_targets-in-File-clause-placed g c = placed c.as_slice.result.now c.in_ok-read_targets-in-File.field-0 (sym c.in_ok-read_targets-in-File.ensures)
