use Rattle.kb_machine.proofs.SparesLaws.{patch_spares}
use Rattle.kb_machine.proofs.laws.a_patch_touches_nothing_foreign.Goals as goal

pub returns : goal.returns
returns c roots apart patch tree fit path touched = patch_spares roots apart patch tree fit path touched
