-- The last dash.
use Rattle.kb_world.proofs.LinkLaws.{cut_found}
use Rattle.kb_world.proofs.links.cut_at_dash.Goals as goal

pub returns : goal.returns
returns c = cut_found c.args.text.now c.rsplit_once.result c.rsplit_once.ensures.cases
