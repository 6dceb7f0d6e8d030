-- The law for each step stands in StoreSteps.
use Rattle.kb_world.proofs.StoreSteps.{add, add_tree, build, install, uninstall, unbuild, unadd}
use Rattle.kb_world.proofs.store_laws.no_step_damages.Goals as goal

pub returns : goal.returns
returns c = record { add = add; add_tree = add_tree; build = build; install = install; uninstall = uninstall; unbuild = unbuild; unadd = unadd }
