use Rattle.std.proofs.Common.{sym, ◌∙◌, ap, arith}
use Rattle.kb_token.specs.declared.sources.Content.TheVariants.{Text}
use Rattle.kb_token.proofs.SourceLaws.{content_text, content_not_text}
use Rattle.kb_token.proofs.sources.content_of.Goals as goal

pub returns-in_ok-of-in-Ok : goal.returns-in_ok-of-in-Ok
returns-in_ok-of-in-Ok c =
    ap Text (c.in_ok-of-in-Ok.ensures ∙ c.in-Ok.ensures.cases.0) ∙ sym (content_text c.args.bytes.now (omega arith) c.in-Ok.ensures.cases.1)

pub returns-in-Err : goal.returns-in-Err
returns-in-Err c = sym (content_not_text c.args.bytes.now (omega arith) c.in-Err.ensures.cases.0)
