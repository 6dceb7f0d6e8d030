-- The laws stand in ContentsLaws.
use Rattle.kb_store.proofs.ContentsLaws.{added_rise, builds_rise, installed_rise, chests_rise}
use Rattle.kb_store.proofs.laws.the_lists_of_a_store_rise.Goals as goal

pub returns : goal.returns
returns c = record { added = added_rise; builds = builds_rise; installed = installed_rise; chests = chests_rise }
