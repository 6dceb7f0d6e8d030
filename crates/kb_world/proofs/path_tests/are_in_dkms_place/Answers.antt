-- The first name tells it.
use Rattle.std.proofs.Common.{bytes_eq, ap, ◌∙◌}
use Rattle.std.specs.List.{list_any}
use Rattle.kb_world.specs.Public.{private_dkms_names}
use Rattle.kb_world.proofs.PathLaws.{any_first, none_first}
use Rattle.kb_world.proofs.path_tests.are_in_dkms_place.Goals as goal

pub returns-in-len1-up : goal.returns-in-len1-up
returns-in-len1-up c =
    c.is_private_dkms_name.ensures ∙ ap (λ t. list_any (λ own. bytes_eq own t) private_dkms_names) c.as_str.ensures
    ∙ any_first c.args.names.now private_dkms_names _ c.name-item.is c.in-len1-up.len_at_least

pub returns-in_default : goal.returns-in_default
returns-in_default c = none_first private_dkms_names c.args.names.now c.in_default.len_below
