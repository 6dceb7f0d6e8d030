use Rattle.std.proofs.Common.{[], ◌∷◌, ◌++◌, ap, ap₂, ◌∙◌}
use Rattle.std.specs.Prelude.{codes}
use Rattle.kb_conf.specs.PathValue.{path_parts}
use Rattle.kb_conf.proofs.targets.target_place.Goals as goal

pub returns : goal.returns
returns c =
    c.in_ok-push.ensures.ok ∙
    ap₂ (λ place file. place ++ file ∷ []) (c.in_ok-place.ensures ∙ ap path_parts c.dest_location.ensures)
    (c.in_ok-push_str.ensures.ok ∙ ap (λ name. name ++ codes ".ko") (c.in_ok-file.ensures ∙ c.dest_name.ensures))
