-- The name is a stem and its ending, or none.
use Rattle.kb_bls.proofs.EntryNameLaws.{name_told, stem_told, none_told, stripped}
use Rattle.kb_bls.proofs.name.read_entry_name.Goals as goal

pub returns-in_err-stem-clause-reading : goal.returns-in_err-stem-clause-reading
returns-in_err-stem-clause-reading c = none_told c.args.name.now c.from_residual.result c.from_residual.ensures c.in_err-stem.ensures.cases

pub returns-in_err-stem-clause-name : goal.returns-in_err-stem-clause-name
returns-in_err-stem-clause-name c = name_told c.args.name.now c.from_residual.result (none_told c.args.name.now c.from_residual.result c.from_residual.ensures c.in_err-stem.ensures.cases)

pub returns-clause-reading : goal.returns-clause-reading
returns-clause-reading c =
    stem_told c.args.name.now c.in_ok-stem.stem.now c.read_stem.result (stripped c.args.name.now c.in_ok-stem.stem.now c.in_ok-stem.ensures.cases) c.read_stem.ensures

pub returns-clause-name : goal.returns-clause-name
returns-clause-name c =
    name_told c.args.name.now c.read_stem.result (stem_told c.args.name.now c.in_ok-stem.stem.now c.read_stem.result (stripped c.args.name.now c.in_ok-stem.stem.now c.in_ok-stem.ensures.cases) c.read_stem.ensures)
