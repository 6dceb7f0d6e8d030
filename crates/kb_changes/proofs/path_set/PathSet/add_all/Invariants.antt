-- The set has the paths so far.
use Rattle.std.proofs.Common.{◌≡◌, ◌||◌, drop}
use Rattle.kb_world.specs.Path.{Path}
use Rattle.kb_changes.specs.Valid.{is_among_paths}
use Rattle.kb_changes.proofs.path_set.PathSet.add_all.Given as goal

abbrev pub invariant-loop-path : goal.invariant-loop-path
invariant-loop-path l =
    (other : Path) → (is_among_paths (drop l.path-index l.paths) other || is_among_paths l.self other) ≡ (is_among_paths l.paths other || is_among_paths l.initial.self other)
