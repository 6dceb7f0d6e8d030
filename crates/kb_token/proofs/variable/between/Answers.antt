use Rattle.std.proofs.Common.{sym, ap, ◌∙◌}
use Rattle.std.specs.Option.{option_copied}
use Rattle.std.proofs.lemmas.Str.Pattern.{strip_prefix_char, strip_suffix_char}
use Rattle.std.proofs.lemmas.Option.{MatchOption-at_some, MatchOption-at_none}
use Rattle.kb_token.proofs.VariableLaws.{between_none, between_is}
use Rattle.kb_token.proofs.variable.between.Goals as goal

pub returns-in_err-strip_prefix : goal.returns-in_err-strip_prefix
returns-in_err-strip_prefix c =
    ap option_copied c.from_residual.ensures
    ∙ sym (between_none c.args.quote c.args.text.now (MatchOption-at_none _ _ (c.in_err-strip_prefix.was) (strip_prefix_char c.args.quote c.args.text.now c.strip_prefix.result c.strip_prefix.ensures.cases c.requires)))

pub returns : goal.returns
returns c =
    between_is c.args.quote c.args.text.now c.in_ok-strip_prefix.field-0.now c.strip_suffix.result
    (MatchOption-at_some _ _ c.in_ok-strip_prefix.field-0 (c.in_ok-strip_prefix.was) (strip_prefix_char c.args.quote c.args.text.now c.strip_prefix.result c.strip_prefix.ensures.cases c.requires))
    (strip_suffix_char c.args.quote c.in_ok-strip_prefix.field-0.now c.strip_suffix.result c.strip_suffix.ensures.cases c.requires)
