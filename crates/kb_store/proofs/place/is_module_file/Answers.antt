-- What stands before the ending decides.
use Rattle.kb_store.proofs.PlaceLaws.{module_file_is, module_file_none}
use Rattle.std.proofs.Common.{sym, ◌∙◌}
use Rattle.kb_store.proofs.place.is_module_file.Goals as goal

pub returns-in-None : goal.returns-in-None
returns-in-None c = sym (module_file_none c.args.name.now c.in-None.ensures)

pub returns-in-Some : goal.returns-in-Some
returns-in-Some c = c.is_word.ensures ∙ sym (module_file_is c.args.name.now c.in-Some.front.now c.in-Some.ensures)
