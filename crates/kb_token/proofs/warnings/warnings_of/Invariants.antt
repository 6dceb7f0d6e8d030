use Rattle.std.proofs.Common.{◌≡◌, take}
use Rattle.std.specs.Prelude.{flat_map}
use Rattle.kb_token.specs.Facts.{source_warnings}
use Rattle.kb_token.specs.Sources.{contents_of, all_sources}
use Rattle.kb_token.proofs.warnings.warnings_of.Given as goal

abbrev pub invariant-loop-source : goal.invariant-loop-source
invariant-loop-source l = l.source-items ≡ all_sources × l.warnings ≡ flat_map (source_warnings l.roots (contents_of l.sources)) (take l.source-index l.source-items)
