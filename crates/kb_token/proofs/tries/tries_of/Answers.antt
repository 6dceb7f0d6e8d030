use Rattle.std.proofs.Common.{sym, ap, ◌∙◌}
use Rattle.kb_token.specs.Token.{are_digits}
use Rattle.kb_token.proofs.TriesLaws.{read_is}
use Rattle.kb_token.proofs.tries.tries_of.Goals as goal

-- a text of few digits is a number
pub returns-in_default-2 : goal.returns-in_default-2
returns-in_default-2 c =
    let are = ap are_digits (sym c.as_bytes.ensures.value) ∙ sym c.are_digits.ensures ∙ c.if-not-are_digits.false in
    let read = read_is c.trimmed-digits.result.now c.parse.result c.parse.ensures.value.0 are c.if-digits-gt9.false in
    let impossible = sym c.in_default.is ∙ read in cc
