use Rattle.kb_world.specs.Names.{is_name}
use Rattle.kb_real.proofs.ListingLaws.{all_in_any_order}
use Rattle.kb_real.proofs.listing.names_in.Goals as goal

pub returns-clause-named : goal.returns-clause-named
returns-clause-named c = rw c.in_ok-names-2.ensures.kept (all_in_any_order is_name _ _ c.in_ok-sort.ensures.permutation c.in_ok-names.ensures.named)
