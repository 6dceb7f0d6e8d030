-- Where the request is depmod's, the Drops decide.
use Rattle.std.proofs.Common.{◌≡◌, true, ◌&&◌, [], ◌∷◌, ◌∙◌, sym, subst}
use Rattle.std.specs.Prelude.{bytes_eq}
use Rattle.std.specs.Cmp.Lexicographic.{pointwise}
use Rattle.kb_world.specs.Tree.{name_in}
use Rattle.kb_world.specs.TreeLaws.{same_path}
use Rattle.kb_world.specs.View.{index_names}
use Rattle.kb_world.proofs.PartLaws.{ok_is}
use Rattle.kb_changes.specs.Valid.{is_kernel_name, same_paths}
use Rattle.kb_changes.proofs.RunLaws.{fit_run}
use Rattle.kb_changes.proofs.runs.is_fit.Goals as goal

pub returns-then-is_of_index : goal.returns-then-is_of_index
returns-then-is_of_index c =
    let roots = c.args.roots.now in
    let request = c.args.request.now in
    let directory = c.in-Names.directory in
    let same = c.as_slice.ensures ∙ sym c.as_slice-then-is_of_index.ensures in
    let of_index = subst
    (λ names. (is_kernel_name (name_in roots.modules directory) && pointwise bytes_eq names index_names && same_path request.dir roots.base && same_paths request.seen (directory ∷ [])) ≡ true)
    same (sym c.is_of_index.ensures ∙ c.if-is_of_index.true) in
    ok_is _ _ _ c.are_dropped.ensures
    (fit_run roots c.args.drops.now request directory c.in-Names.names c.as_slice-then-is_of_index.result.now c.in-Names.is c.as_slice-then-is_of_index.ensures of_index)
