-- The three parts of a put are read back.
use Rattle.std.proofs.Common.{◌∷◌}
use Rattle.std.specs.Fmt.{decimal}
use Rattle.kb_changes.specs.Text as rule
use Rattle.kb_changes.specs.declared.change.Change.TheVariants as changes
use Rattle.kb_journal.proofs.read_change.read_put.Goals as goal

pub returns-in-Ok-read_path : goal.returns-in-Ok-read_path
returns-in-Ok-read_path c root number target more small named front =
    let root_is = c.in-Ok.ensures root (decimal number ∷ rule.path_field target ∷ more) front in
    let number_is = c.in-Ok-read_number.ensures number (rule.path_field target ∷ more) small root_is.1 in
    let target_is = c.in-Ok-read_path.ensures target more named number_is.1 in
    ((λ i. changes.Put (root_is.0 i) (number_is.0 i) (target_is.0 i)), target_is.1)

pub returns-in-Err-read_path : goal.returns-in-Err-read_path
returns-in-Err-read_path c root number target more small named front =
    let root_is = c.in-Ok.ensures root (decimal number ∷ rule.path_field target ∷ more) front in
    let number_is = c.in-Ok-read_number.ensures number (rule.path_field target ∷ more) small root_is.1 in
    c.in-Err-read_path.ensures target more named number_is.1
