use Rattle.std.proofs.Common.{◌≡◌, drop}
use Rattle.kb_token.specs.Facts.{first_too_large}
use Rattle.kb_token.specs.Sources.{contents_of, all_sources}
use Rattle.kb_token.proofs.facts.first_too_large.Given as goal

abbrev pub invariant-loop-source : goal.invariant-loop-source
invariant-loop-source l =
    l.source-items ≡ all_sources × first_too_large l.roots (contents_of l.sources) all_sources ≡ first_too_large l.roots (contents_of l.sources) (drop l.source-index l.source-items)
