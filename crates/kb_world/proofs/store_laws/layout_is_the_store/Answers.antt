use Rattle.kb_world.proofs.LayoutLaws.{layout_is_store}
use Rattle.kb_world.proofs.store_laws.layout_is_the_store.Goals as goal

pub returns : goal.returns
returns c = layout_is_store
