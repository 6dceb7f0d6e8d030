use Rattle.kb_memory.proofs.LostLaws.{names_changed, names_source}
use Rattle.kb_memory.proofs.laws.each_effect_names_its_paths.Goals as goal

pub returns : goal.returns
returns c = record { changed = names_changed; source = names_source }
