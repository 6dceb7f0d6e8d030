-- The directory and the names are read back.
use Rattle.std.proofs.Common.{◌++◌, map}
use Rattle.kb_world.specs.declared.child.Area.TheVariants as areas
use Rattle.kb_changes.specs.Text as rule
use Rattle.kb_journal.proofs.read_change.read_names.Goals as goal

pub returns-in-Ok-read_texts : goal.returns-in-Ok-read_texts
returns-in-Ok-read_texts c directory names more named good small front =
    let directory_is = c.in-Ok.ensures directory (rule.counted_fields (map rule.text_field names) ++ more) named front in
    let names_are = c.in-Ok-read_texts.ensures names more good small directory_is.1 in
    ((λ i. areas.Names (directory_is.0 i) (names_are.0 i)), names_are.1)

pub returns-in-Err-read_texts : goal.returns-in-Err-read_texts
returns-in-Err-read_texts c directory names more named good small front =
    let directory_is = c.in-Ok.ensures directory (rule.counted_fields (map rule.text_field names) ++ more) named front in
    c.in-Err-read_texts.ensures names more good small directory_is.1
