-- The laws of the map.
use Rattle.kb_world.proofs.StorePathLaws.{told_both, place_there}
use Rattle.kb_world.proofs.store_laws.store_paths_are_read_back.Goals as goal

pub returns : goal.returns
returns c = record { told = told_both; made = place_there }
