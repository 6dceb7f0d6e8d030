use Rattle.std.proofs.Common.{◌++◌, get_or, ap, ◌∙◌, arith}
use Rattle.kb_token.specs.Facts.{source_warnings}
use Rattle.kb_token.specs.Sources.{contents_of, all_sources}
use Rattle.kb_token.specs.declared.sources.Source.TheVariants.{MachineId}
use Rattle.kb_token.proofs.WarningLaws.{more_warnings}
use Rattle.kb_token.proofs.warnings.warnings_of.Goals as goal

pub loop-source-preserved : goal.loop-source-preserved
loop-source-preserved c =
    let i = c.loop-source.source-index in
    let warnings = source_warnings c.args.roots.now (contents_of c.args.sources.now) in
    (c.loop-source.invariant.0, c.in_ok-warn_of_source.ensures ∙ ap (λ t. t ++ warnings (get_or all_sources i MachineId)) c.loop-source.invariant.1 ∙ more_warnings warnings all_sources i MachineId (omega arith))
