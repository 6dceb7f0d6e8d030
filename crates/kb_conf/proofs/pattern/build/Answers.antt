use Rattle.std.proofs.Common.{subst}
use Rattle.regex.specs.Failures.{IsRightKind}
use Rattle.regex.specs.Patterns.{default_config}
use Rattle.kb_conf.proofs.PatternLaws.{built_reads, refused_has_none}
use Rattle.kb_conf.proofs.pattern.build.Goals as goal

pub returns-in-Ok : goal.returns-in-Ok
returns-in-Ok c =
    let made = c.in-Ok.ensures in
    built_reads c.args.text.now c.in-Ok.regex made.source made.config made.read

pub returns-in-Err-Syntax : goal.returns-in-Err-Syntax
returns-in-Err-Syntax c =
    let made = c.in-Err-Syntax.ensures in
    let is = c.in-Err-Syntax.field-0-is in
    refused_has_none c.args.text.now c.in-Err-Syntax.field-0-0.kind (subst (IsRightKind default_config c.args.text.now) is made.kind) (made.by_grammar _ is)
