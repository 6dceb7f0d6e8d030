-- A path's text tells the path.
use Rattle.std.proofs.Common.{◌∙◌}
use Rattle.kb_world.proofs.PathText.{same_path}
use Rattle.kb_journal.proofs.read_list.path_of.Goals as goal

pub returns-in-Ok : goal.returns-in-Ok
returns-in-Ok c path named spelled = same_path c.in-Ok.path path c.in-Ok.ensures.path.0 named (c.in-Ok.ensures.path.1 ∙ spelled)
