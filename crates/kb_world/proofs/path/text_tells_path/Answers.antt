use Rattle.kb_world.proofs.PathText.{same_path}
use Rattle.kb_world.proofs.path.text_tells_path.Goals as goal

pub returns : goal.returns
returns c = same_path
