use Rattle.std.proofs.Common.{sym, ◌∙◌}
use Rattle.std.proofs.lemmas.List.Folds.{list_all-map}
use Rattle.kb_conf.specs.PathValue.{are_words, is_step}
use Rattle.kb_conf.proofs.path_value.are_words.Goals as goal

pub returns : goal.returns
unfolding are_words
returns c = c.are_steps.ensures ∙ sym (list_all-map is_step (λ part. part.now) c.args.parts.now)
