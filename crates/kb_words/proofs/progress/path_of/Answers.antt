-- The path is that of the reading.
use Rattle.std.proofs.Common.{◌≡◌, Option, Some, None, Err, refl, sym, ap}
use Rattle.kb_world.specs.Path.{Path}
use Rattle.kb_words.specs.Reading.{path_read}
use Rattle.kb_words.proofs.PathLaws.{path_into, path_from}
use Rattle.kb_words.proofs.progress.path_of.Goals as goal

pub returns-in-Ok : goal.returns-in-Ok
returns-in-Ok c =
    let of = c.in-Ok.ensures.path in
    sym (path_into c.in-Ok.path c.args.word.now of.0 of.1)

pub returns-in-Err-NotAPath : goal.returns-in-Err-NotAPath
returns-in-Err-NotAPath c = by_case (path_read c.args.word.now) refl
  where
    by_case : (found : Option Path) → path_read c.args.word.now ≡ found → None ≡ path_read c.args.word.now
    by_case None e = sym e
    by_case (Some path) e =
        let of = path_from c.args.word.now path e in
        absurd (c.in-Err-NotAPath.ensures.not_a_path (ap Err c.in-Err-NotAPath.field-0-is) path of.named of.is)
