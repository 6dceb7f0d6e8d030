-- The order of the lines. This project's own.
use Rattle.std.specs.Prelude.{ℕ, List}
use Rattle.std.specs.declared.cmp.Ordering.{Ordering}
use Rattle.std.specs.Ordering.{nat_cmp, on, then_cmp}
use Rattle.std.specs.Option.{option_cmp}
use Rattle.std.specs.Cmp.Lexicographic.{slice_cmp}
use Rattle.kb_version.specs.Order.{version_order}
use Rattle.kb_world.specs.declared.job.Key.{Key}
use Rattle.kb_world.specs.declared.job.Spot.{Spot}
use Rattle.kb_status.specs.declared.line.Line.{Line}

abbrev pub bytes_order : List ℕ → List ℕ → Ordering
bytes_order = slice_cmp nat_cmp

-- by module, then by version
abbrev pub key_order : Key → Key → Ordering
key_order = then_cmp (on (λ key. key.module) bytes_order) (on (λ key. key.version) version_order)

-- by kernel, which goes by the order of versions too, then by architecture
abbrev pub spot_order : Spot → Spot → Ordering
spot_order = then_cmp (on (λ spot. spot.kernel) version_order) (on (λ spot. spot.arch) bytes_order)

-- by package, then by spot; no spot stands first
abbrev pub line_order : Line → Line → Ordering
line_order = then_cmp (on (λ line. line.key) key_order) (on (λ line. line.spot) (option_cmp spot_order))
