use Rattle.std.proofs.Common.{◌++◌, take, refl, sym, ap, ◌∙◌}
use Rattle.std.proofs.KnownBytes.{Appends-trans, Appends-kept}
use Rattle.kb_real.proofs.PieceLaws.{front_written, more_split, more_written, on_err}
use Rattle.kb_real.proofs.pieces.write_whole.Goals as goal
use Rattle.kb_real.proofs.pieces.write_whole.Goals.{in-Ok, in-Err}

pub returns-then-is_empty-clause-front : goal.returns-then-is_empty-clause-front
returns-then-is_empty-clause-front g c =
    let (done, split, written) = c.loop.invariant in
    on_err _ _ (front_written _ done _ _ _ split (Appends-kept _ _ _ done written c.flush.ensures.bytes))

pub returns-in-Ok-eq0-clause-front : goal.returns-in-Ok-eq0-clause-front
returns-in-Ok-eq0-clause-front g c =
    let (done, split, written) = c.loop.invariant in
    let rest = c.loop.rest.now in
    let n = c.in-Ok-eq0.field-0 in
    front_written _ (done ++ take n rest) _ _ _ (more_split _ done rest _ n split refl) (more_written _ _ _ done rest _ n written c.write.ensures.bytes c.in-Ok-eq0.is)

pub returns-in-Err-2-clause-front : goal.returns-in-Err-2-clause-front
returns-in-Err-2-clause-front g c =
    let (done, split, written) = c.loop.invariant in
    front_written _ done _ _ _ split (Appends-kept _ _ _ done written c.in-Err-2.ensures.bytes)

pub returns-clause-front : goal.returns-clause-front
returns-clause-front g c =
    let (done, split, written) = c.loop.invariant in
    front_written _ done _ _ _ split written

pub loop-preserved : goal.loop-preserved
loop-preserved g c =
    let (done, split, written) = c.loop.invariant in
    let rest = c.loop.rest.now in
    elim c.match-write.branch [
      | in-Ok w ↦ (done ++ take w.in-Ok.count rest, more_split _ done rest _ w.in-Ok.count split (ap (λ r. r.now) w.rest-is), Appends-trans _ _ _ _ _ written w.in-Ok.ensures.bytes)
      | in-Err w ↦ (done, split ∙ ap (λ r. done ++ r.now) (sym w.rest-is), Appends-kept _ _ _ done written w.in-Err.ensures.bytes)
    ]
