-- What is left decides.
use Rattle.std.proofs.Common.{◌≡◌, drop}
use Rattle.std.specs.List.{list_all}
use Rattle.kb_world.specs.Path.{child}
use Rattle.kb_changes.specs.Valid as rule
use Rattle.kb_changes.proofs.runs.are_dropped.Given as goal

abbrev pub invariant-loop-name : goal.invariant-loop-name
invariant-loop-name l =
    list_all (λ name. rule.is_among_paths l.drops (child l.directory name)) l.names
    ≡ list_all (λ name. rule.is_among_paths l.drops (child l.directory name)) (drop l.name-index l.names)
