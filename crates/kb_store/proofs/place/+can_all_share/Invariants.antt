use Rattle.std.proofs.Common.{length}
use Rattle.kb_store.proofs.place.+can_all_share.Given as goal

abbrev pub decreases-can_all_share : goal.decreases-can_all_share
decreases-can_all_share l = length l.places.now
