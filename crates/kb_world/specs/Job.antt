-- How a package and a spot are written. This project's own.
use Rattle.std.specs.Prelude.{ℕ, List, ◌++◌, codes}
use Rattle.kb_world.specs.declared.job.Key.{Key}
use Rattle.kb_world.specs.declared.job.Spot.{Spot}

-- `M/V`
abbrev pub key_text : Key → List ℕ
key_text key = key.module ++ codes "/" ++ key.version

-- `K, A`
abbrev pub spot_text : Spot → List ℕ
spot_text spot = spot.kernel ++ codes ", " ++ spot.arch
