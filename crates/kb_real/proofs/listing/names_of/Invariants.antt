-- The listed_names so far are kept.
use Rattle.std.proofs.Common.{◌≡◌, IsTrue, map, take}
use Rattle.std.specs.List.{list_all}
use Rattle.kb_world.specs.Names.{is_name}
use Rattle.kb_real.specs.Listing.{listed_names}
use Rattle.kb_real.proofs.listing.names_of.Given as goal

abbrev pub invariant-loop-part : goal.invariant-loop-part
invariant-loop-part l = record {
  names : l.names.items ≡ listed_names (map (λ part. part.now) (take l.part-index l.parts));
  named : IsTrue (list_all is_name l.names.items);
}
