use Rattle.std.proofs.Common.{◌∙◌}
use Rattle.kb_world.specs.Public.{private_boot_names}
use Rattle.kb_world.proofs.PathLaws.{any_behind, none_behind}
use Rattle.kb_world.proofs.path_tests.is_private_in_boot.Goals as goal

pub returns-in-Some : goal.returns-in-Some
returns-in-Some c =
    c.are_in_boot_place.ensures ∙ any_behind c.args.path.now c.args.roots.now.boot private_boot_names c.in-Some.names.now c.in-Some.ensures.names.0 c.in-Some.ensures.names.1

pub returns-in-None : goal.returns-in-None
returns-in-None c = none_behind c.args.path.now c.args.roots.now.boot private_boot_names c.in-None.ensures.names
