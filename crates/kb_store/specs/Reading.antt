-- What the reader of `targets` makes of one line. This project's own.
use Rattle.std.specs.Prelude.{Option, Some, None, cond}
use Rattle.kb_world.specs.Path.{Path}
use Rattle.kb_world.specs.Targets.{is_place}

-- the names, where they are those of a place
abbrev pub place_if : Path → Option Path
place_if names = cond (is_place names) (Some names) None
