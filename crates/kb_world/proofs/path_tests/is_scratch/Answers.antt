-- The first three names tell a scratch tree.
use Rattle.std.proofs.Common.{sym, ◌∙◌}
use Rattle.kb_world.proofs.StorePathLaws.{scratch_at, short_no_scratch}
use Rattle.kb_world.proofs.path_tests.is_scratch.Goals as goal

pub returns-in_default : goal.returns-in_default
returns-in_default c = sym (short_no_scratch c.args.names.now c.in_default.len_below)

pub returns-in-len3-up : goal.returns-in-len3-up
returns-in-len3-up c = c.are_scratch.ensures ∙ scratch_at c.args.names.now _ _ _ c.module-item.is c.version-item.is c.name-item.is c.in-len3-up.len_at_least
