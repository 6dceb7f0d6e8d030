use Rattle.std.proofs.Common.{◌≡◌, drop}
use Rattle.kb_walk.specs.Copy.{first_too_large_to_copy}
use Rattle.kb_walk.proofs.meeting.require_small.Given as goal

abbrev pub invariant-loop-entry : goal.invariant-loop-entry
invariant-loop-entry l = first_too_large_to_copy l.met ≡ first_too_large_to_copy (drop l.entry-index l.met)
