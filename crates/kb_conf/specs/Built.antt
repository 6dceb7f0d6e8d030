-- How a built pattern stands to its text.
use Rattle.std.specs.Prelude.{◌≡◌, ℕ, List, Option, Some, None}
use Rattle.regex.specs.Patterns.{Re, SameCaptures}
use Rattle.regex.specs.Strings.{regex_pattern}
use Rattle.regex.specs.declared.string.regex.Regex.{Regex}
use Rattle.kb_conf.specs.Pattern.{pattern_in}

-- it finds what the pattern of its text finds; where there is none, the text has none
abbrev pub IsBuilt : List ℕ → Option Regex → Type 0
IsBuilt text None = pattern_in text ≡ None
IsBuilt text (Some regex) = (re : Re) × (pattern_in text ≡ Some re) × SameCaptures (regex_pattern regex) re
