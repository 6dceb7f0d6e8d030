-- The word tells the change.
use Rattle.std.proofs.Common.{sym, ap, ◌∙◌, subst}
use Rattle.kb_changes.specs.declared.change.Change.TheVariants as changes
use Rattle.kb_journal.specs.Reads.{IsPathChange}
use Rattle.kb_journal.proofs.WordLaws.{is_of_path, is_run, of_path_read}
use Rattle.kb_journal.proofs.read_change.read_change.Goals as goal

pub returns-in-Ok : goal.returns-in-Ok
returns-in-Ok c change more good front =
    let run = is_run change c.args.word.now c.args.fields.now more (sym c.is_word-else-is_word.ensures ∙ c.if-is_word-2.true) good front in
    let read = c.in-Ok.ensures run.0 more run.2 run.3 in
    (ap changes.Run read.0 ∙ run.1, read.1)

pub returns-in-Err : goal.returns-in-Err
returns-in-Err c change more good front =
    let run = is_run change c.args.word.now c.args.fields.now more (sym c.is_word-else-is_word.ensures ∙ c.if-is_word-2.true) good front in
    c.in-Err.ensures run.0 more run.2 run.3

pub returns-in-Ok-read_path : goal.returns-in-Ok-read_path
returns-in-Ok-read_path c change more good front =
    let of_path = is_of_path change c.args.word.now c.args.fields.now more (sym c.is_word.ensures ∙ c.if-is_word.false) (sym c.is_word-else-is_word.ensures ∙ c.if-is_word-2.false) good front in
    let read = c.in-Ok-read_path.ensures of_path.0 more of_path.2 of_path.3 in
    let named = subst (λ path. IsPathChange c.args.word.now path change) (sym read.0) of_path.1 in
    of_path_read change more c.read_path.new.fields c.change_of_path.result (c.change_of_path.ensures change named) read.1

pub returns-in-Err-read_path : goal.returns-in-Err-read_path
returns-in-Err-read_path c change more good front =
    let of_path = is_of_path change c.args.word.now c.args.fields.now more (sym c.is_word.ensures ∙ c.if-is_word.false) (sym c.is_word-else-is_word.ensures ∙ c.if-is_word-2.false) good front in
    c.in-Err-read_path.ensures of_path.0 more of_path.2 of_path.3
