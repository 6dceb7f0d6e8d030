use Rattle.std.proofs.Common.{bytes_eq, sym, ap, ◌∙◌}
use Rattle.kb_world.proofs.PathLaws.{under_entry, under_other}
use Rattle.kb_world.proofs.path_tests.is_under_entry.Goals as goal

pub returns-in-Some-first : goal.returns-in-Some-first
returns-in-Some-first c =
    c.eq.ensures ∙ ap (bytes_eq c.args.name.now) c.as_str.ensures
    ∙ sym (under_entry c.args.path.now c.args.directory.now c.args.name.now c.in-Some-first.entry.now c.in-Some.names.now c.in-Some.ensures.names.0 c.in-Some.ensures.names.1 (sym c.in-Some-first.ensures.value))

pub returns-in-None : goal.returns-in-None
returns-in-None c = sym (under_other c.args.path.now c.args.directory.now c.args.name.now c.in-None.ensures.names)
