-- The key ends at the first blank.
use Rattle.kb_bls.proofs.SayLaws.{says_none, says_field}
use Rattle.kb_bls.proofs.line.field_of.Goals as goal

pub returns-in_err-key : goal.returns-in_err-key
returns-in_err-key c = says_none c.args.line.now c.trimmed.result.now c.from_residual.result c.from_residual.ensures c.trimmed.ensures c.in_err-key.ensures.cases

pub returns : goal.returns
returns c =
    says_field c.args.line.now c.trimmed.result.now c.in_ok-key.key.now c.in_ok-key.value.now c.trim_start_matches.result.now c.trimmed.ensures c.in_ok-key.ensures.cases c.trim_start_matches.ensures.matches
