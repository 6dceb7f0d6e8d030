-- The program, the directory and the area are read back.
use Rattle.std.proofs.Common.{◌∷◌, ◌++◌}
use Rattle.kb_changes.specs.Text as rule
use Rattle.kb_journal.proofs.read_change.read_head.Goals as goal

pub returns-in-Err-read_path : goal.returns-in-Err-read_path
returns-in-Err-read_path c request more good front =
    let program_is = c.in-Ok.ensures request.program (rule.path_field request.dir ∷ rule.area_fields request.area ++ more) good.0 front in
    c.in-Err-read_path.ensures request.dir (rule.area_fields request.area ++ more) good.1 program_is.1

pub returns-in-Ok-read_area : goal.returns-in-Ok-read_area
returns-in-Ok-read_area c request more good front =
    let program_is = c.in-Ok.ensures request.program (rule.path_field request.dir ∷ rule.area_fields request.area ++ more) good.0 front in
    let dir_is = c.in-Ok-read_path.ensures request.dir (rule.area_fields request.area ++ more) good.1 program_is.1 in
    let area_is = c.in-Ok-read_area.ensures request.area more good.2 dir_is.1 in
    ((λ i. (program_is.0 i, dir_is.0 i, area_is.0 i)), area_is.1)

pub returns-in-Err-read_area : goal.returns-in-Err-read_area
returns-in-Err-read_area c request more good front =
    let program_is = c.in-Ok.ensures request.program (rule.path_field request.dir ∷ rule.area_fields request.area ++ more) good.0 front in
    let dir_is = c.in-Ok-read_path.ensures request.dir (rule.area_fields request.area ++ more) good.1 program_is.1 in
    c.in-Err-read_area.ensures request.area more good.2 dir_is.1
