use Rattle.std.proofs.Common.{sym, ap, ◌∙◌, lit<}
use Rattle.std.specs.Option.{option_copied, unwrap_or}
use Rattle.std.proofs.lemmas.Str.Pattern.{strip_suffix_char}
use Rattle.kb_token.proofs.VariableLaws.{strip_is}
use Rattle.kb_token.proofs.release.without_return.Goals as goal

pub returns-in-Some : goal.returns-in-Some
returns-in-Some c =
    ap (λ o. unwrap_or o c.args.line.now)
    (ap option_copied (sym c.in-Some.is) ∙ strip_is 13 c.args.line.now c.strip_suffix.result (strip_suffix_char 13 c.args.line.now c.strip_suffix.result c.strip_suffix.ensures.cases (lit< tt)))

pub returns-in-None : goal.returns-in-None
returns-in-None c =
    ap (λ o. unwrap_or o c.args.line.now)
    (ap option_copied (sym c.in-None.is) ∙ strip_is 13 c.args.line.now c.strip_suffix.result (strip_suffix_char 13 c.args.line.now c.strip_suffix.result c.strip_suffix.ensures.cases (lit< tt)))
