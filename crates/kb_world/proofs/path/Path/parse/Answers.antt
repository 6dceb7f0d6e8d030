use Rattle.std.proofs.Common.{Err, map, sym, ap, ◌∙◌}
use Rattle.kb_world.specs.Path.{path_text}
use Rattle.kb_world.proofs.PathText.{not_a_path, path_text-slice_split}
use Rattle.kb_world.proofs.path.Path.parse.Goals as goal

pub returns-in_err-names_of-in-Some-clause-not_a_path : goal.returns-in_err-names_of-in-Some-clause-not_a_path
returns-in_err-names_of-in-Some-clause-not_a_path c = λ e path h t.
    let same = rw e at c.from_residual-in_err-names_of-in-Some.ensures.1 in
    let cut = ap (map (λ part. part.now)) c.deref.ensures.value ∙ c.in_ok-parts-in-Some.ensures in
    let unnamed = c.in_err-names_of-in-Some.ensures.not_a_path (ap Err (sym same)) in
    not_a_path c.args.text.now c.in-Some.rest.now _ c.in-Some.ensures cut (sym c.if-eq.ensures) unnamed path h t

pub returns-in_ok-names_of-in-Some-clause-path : goal.returns-in_ok-names_of-in-Some-clause-path
returns-in_ok-names_of-in-Some-clause-path c =
    let names = c.in_ok-names_of-in-Some.ensures.names ∙ ap (map (λ part. part.now)) c.deref.ensures.value ∙ c.in_ok-parts-in-Some.ensures in
    (c.in_ok-names_of-in-Some.ensures.named, ap path_text names ∙ path_text-slice_split c.in-Some.rest.now ∙ sym c.in-Some.ensures)
