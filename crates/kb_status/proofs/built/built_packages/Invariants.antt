-- The packages of the builds so far.
use Rattle.std.proofs.Common.{take}
use Rattle.kb_status.proofs.BuiltLaws.{BuiltBy}
use Rattle.kb_status.proofs.built.built_packages.Given as goal

abbrev pub invariant-loop-build : goal.invariant-loop-build
invariant-loop-build l = BuiltBy (take l.build-index l.build-items) l.built
