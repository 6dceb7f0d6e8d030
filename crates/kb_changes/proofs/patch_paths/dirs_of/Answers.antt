-- The set has them all.
use Rattle.std.proofs.Common.{◌≡◌, ◌++◌, IfOk, List, flat_map, subst}
use Rattle.kb_world.specs.Patch.{above}
use Rattle.kb_world.specs.Path.{Path}
use Rattle.kb_changes.specs.Valid.{HoldSame}
use Rattle.kb_changes.proofs.PathsLaws.{dirs-are}
use Rattle.kb_changes.proofs.patch_paths.dirs_of.Goals as goal

pub returns : goal.returns
returns c =
    let paths = c.args.paths.now in
    let into : List Path → List Path → List Path → Type 0 = λ set old more. HoldSame set (flat_map (above c.args.roots.now) more ++ old) in
    let P : List Path → Type 0 = λ items. IfOk c.in_order.result (λ dirs. dirs.items ≡ items) in
    subst P
    (dirs-are c.args.roots.now paths c.new-set.result c.add_above.new.set c.add_above-2.new.set c.add_all.new.self c.new-set.ensures
    (subst (into c.add_above.new.set c.new-set.result) c.as_slice.ensures c.in_ok-add_above.ensures)
    (subst (into c.add_above-2.new.set c.add_above.new.set) c.as_slice-2.ensures c.in_ok-add_above-2.ensures)
    (subst (λ more. HoldSame c.add_all.new.self (more ++ c.add_above-2.new.set)) c.as_slice-3.ensures c.in_ok-add_all.ensures))
    c.in_order.ensures
