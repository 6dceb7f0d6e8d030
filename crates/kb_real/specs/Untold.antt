-- What a world and a sink mean that tell their counts of faults alone. This project's own.
use Rattle.std.specs.Prelude.{ℕ, [], false, None}
use Rattle.kb_world.specs.Roots.{roots_under}
use Rattle.kb_world.specs.State.{State}
use Rattle.kb_world.specs.SinkState.{SinkState}

-- No clause speaks of the roots, the script and the requests of a world that doesn't tell its tree, so the roots are
-- the usual ones, and the others are empty.
abbrev pub untold : ℕ → State
untold faults = record { tree = None; roots = roots_under []; script = []; ran = []; faults = faults; steady = false; history = record { soft = []; past = [] } }

abbrev pub untold_sink : ℕ → SinkState
untold_sink faults = record { written = None; faults = faults; steady = false }
