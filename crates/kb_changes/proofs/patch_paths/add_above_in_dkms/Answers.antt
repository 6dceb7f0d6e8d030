-- One path more, whose directories are added where it is in the dkms root.
use Rattle.std.proofs.Common.{true, false, ◌+◌, ◌++◌, List, drop, filter, flat_map, sym, ap, ◌∙◌, subst}
use Rattle.std.proofs.lemmas.List.{drop_all}
use Rattle.kb_world.specs.Patch.{above, is_listed}
use Rattle.kb_world.specs.Path.{Path, is_under}
use Rattle.kb_changes.specs.Valid.{HoldSame}
use Rattle.kb_changes.proofs.PathsLaws.{holds_more, kept_more}
use Rattle.kb_changes.proofs.patch_paths.add_above_in_dkms.Goals as goal
use Rattle.kb_changes.proofs.patch_paths.add_above_in_dkms.Goals.{then-is_under+in_ok-directories+in_ok-add_all, else-is_under}

pub loop-path-preserved : goal.loop-path-preserved
loop-path-preserved c =
    let roots = c.args.roots.now in
    let paths = c.args.paths.now in
    let path = c.path-item.result in
    let all = flat_map (above roots) (filter (λ p. is_under p roots.dkms) paths) ++ c.args.set.now in
    let left = flat_map (above roots) (filter (λ p. is_under p roots.dkms) (drop c.loop-path.path-index paths)) in
    let later : List Path = flat_map (above roots) (filter (λ p. is_under p roots.dkms) (drop (c.loop-path.path-index + 1) paths)) in
    elim c.if-is_under.branch [
      | then-is_under+in_ok-directories+in_ok-add_all w ↦
          subst (λ set. HoldSame (later ++ set) all) (sym w.set-is)
          (holds_more all left (above roots path) later c.loop-path.set w.add_all.new.self c.loop-path.invariant
          (kept_more roots paths c.loop-path.path-index path c.loop-path-test.true c.path-item.is true (sym c.is_under.ensures ∙ w.if-is_under.true))
          (subst (λ here. HoldSame w.add_all.new.self (here ++ c.loop-path.set)) (w.deref.ensures.value ∙ w.in_ok-directories.ensures) w.in_ok-add_all.ensures))
      | else-is_under w ↦
          subst (λ set. HoldSame (later ++ set) all) (sym w.set-is)
          (subst (λ rest. HoldSame (rest ++ c.loop-path.set) all)
          (kept_more roots paths c.loop-path.path-index path c.loop-path-test.true c.path-item.is false (sym c.is_under.ensures ∙ w.if-is_under.false)) c.loop-path.invariant)
    ]

pub returns : goal.returns
returns c q =
    let roots = c.args.roots.now in
    ap (λ left. is_listed q (flat_map (above roots) (filter (λ p. is_under p roots.dkms) left) ++ c.loop-path.set)) (sym (drop_all c.loop-path.path-index c.args.paths.now c.loop-path-test.false))
    ∙ c.loop-path.invariant q
