-- How a line of the status is written. After `dkms status` of the tool dkms.
use Rattle.std.specs.Prelude.{ℕ, true, false, List, [], ◌∷◌, ◌++◌, Option, Some, None, codes}
use Rattle.kb_world.specs.Job.{key_text, spot_text}
use Rattle.kb_world.specs.Refusal.{LINE_FEED}
use Rattle.kb_world.specs.declared.job.Spot.{Spot}
use Rattle.kb_status.specs.declared.line.Line.{Line}
use Rattle.kb_status.specs.declared.line.State.{State}
use Rattle.kb_status.specs.declared.line.State.TheVariants.{Added, Built, Installed}

abbrev pub state_text : State → List ℕ
state_text Added = codes "added"
state_text Built = codes "built"
state_text (Installed false) = codes "installed"
state_text (Installed true) = codes "installed (original_module exists)"

-- the spot behind the version, where there is one
abbrev pub spot_part : Option Spot → List ℕ
spot_part None = []
spot_part (Some spot) = codes ", " ++ spot_text spot

-- `M/V: added`, or `M/V, K, A: ` and the state
abbrev pub line_text : Line → List ℕ
line_text line = key_text line.key ++ spot_part line.spot ++ codes ": " ++ state_text line.state

-- with its line feed
abbrev pub full_line : Line → List ℕ
full_line line = line_text line ++ LINE_FEED ∷ []
