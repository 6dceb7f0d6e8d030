-- The paths so far, and those that are to come.
use Rattle.std.proofs.Common.{◌≡◌, ◌++◌, drop, filter, not}
use Rattle.kb_changes.specs.Valid.{is_among_paths}
use Rattle.kb_changes.proofs.patch_changes.drops_of.Given as goal

abbrev pub invariant-loop-path : goal.invariant-loop-path
invariant-loop-path l =
    l.drops.items ++ filter (λ path. not (is_among_paths l.paths.puts path)) (drop l.path-index l.path-items) ≡ filter (λ path. not (is_among_paths l.paths.puts path)) l.paths.drops
