use Rattle.kb_conf.proofs.TextLaws.{good_text}
use Rattle.kb_conf.proofs.laws.assigns_text.Goals as goal

pub returns : goal.returns
returns c = good_text
