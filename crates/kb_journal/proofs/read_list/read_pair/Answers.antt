-- Both texts of a pair are read back.
use Rattle.std.proofs.Common.{◌∷◌}
use Rattle.kb_changes.specs.Text as rule
use Rattle.kb_journal.proofs.read_list.read_pair.Goals as goal

pub returns-in-Ok-read_text : goal.returns-in-Ok-read_text
returns-in-Ok-read_text c pair more first_utf8 second_utf8 front =
    let first = c.in-Ok.ensures pair.0 (rule.text_field pair.1 ∷ more) first_utf8 front in
    let second = c.in-Ok-read_text.ensures pair.1 more second_utf8 first.1 in
    ((λ i. (first.0 i, second.0 i)), second.1)
