-- The lines of the builds so far.
use Rattle.std.proofs.Common.{◌≡◌, ◌++◌, take}
use Rattle.kb_status.specs.Lines.{build_line, is_build_wanted}
use Rattle.kb_status.proofs.KeptLaws.{made_of}
use Rattle.kb_status.proofs.lines.push_builds.Given as goal

abbrev pub invariant-loop-build : goal.invariant-loop-build
invariant-loop-build l = l.lines.items ≡ l.initial.lines.items ++ made_of (build_line l.store) (is_build_wanted l.filter) (take l.build-index l.build-items)
