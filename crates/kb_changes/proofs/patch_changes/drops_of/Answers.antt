-- What is put is told by the targets.
use Rattle.std.proofs.Common.{◌++◌, filter, not, sym, ap, ◌∙◌}
use Rattle.std.proofs.lemmas.List.{append-nil, drop_all}
use Rattle.kb_changes.specs.PatchPaths.{some_patch}
use Rattle.kb_changes.specs.Valid.{is_among_paths}
use Rattle.kb_changes.proofs.PathsLaws.{drops-are, targets-are}
use Rattle.kb_changes.proofs.patch_changes.drops_of.Goals as goal

pub returns : goal.returns
returns c =
    let paths = c.args.paths.now in
    sym (append-nil c.loop-path.drops.items)
    ∙ ap (λ left. c.loop-path.drops.items ++ filter (λ path. not (is_among_paths paths.puts path)) left) (sym (drop_all c.loop-path.path-index c.as_slice-path-items.result.now c.loop-path-test.false))
    ∙ c.loop-path.invariant ∙ drops-are (some_patch paths) paths.puts (sym (targets-are paths.puts))
