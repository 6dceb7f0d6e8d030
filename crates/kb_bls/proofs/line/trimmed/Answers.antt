-- What was cut off is the carriage return and the blanks.
use Rattle.std.proofs.Common.{refl, sym, subst}
use Rattle.kb_bls.specs.Fields.{IsWithoutReturn}
use Rattle.kb_bls.proofs.TrimLaws.{trimmed_front, trimmed_end, without_return, trimmed}
use Rattle.kb_bls.proofs.line.trimmed.Goals as goal

pub returns : goal.returns
returns c =
    trimmed c.args.line.now c.unwrap_or.result.now c.trim_start_matches.result.now c.trim_end_matches.result.now
    (subst (λ r. IsWithoutReturn c.args.line.now r.now) (sym c.unwrap_or.ensures) (without_return c.args.line.now c.strip_suffix.result c.args.line refl c.strip_suffix.ensures.cases))
    (trimmed_front c.unwrap_or.result.now c.trim_start_matches.result.now c.trim_start_matches.ensures.matches)
    (trimmed_end c.trim_start_matches.result.now c.trim_end_matches.result.now c.trim_end_matches.ensures.matches)
