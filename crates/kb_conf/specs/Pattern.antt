-- The patterns of a dkms.conf. That they are those of the crate `regex`, and their limits, are this project's own.
use Rattle.std.specs.Prelude.{ℕ, Bool, false, not, ◌&&◌, List, length, nat_le, ◌==◌, Option, Some, None, option_and_then, is_some, if◌then◌else◌, chars}
use Rattle.std.specs.List.{list_any}
use Rattle.std.specs.Option.{option_map_or}
use Rattle.regex_syntax.specs.Grammar.{read}
use Rattle.regex.specs.Patterns.{Re, find_str, default_config}
use Rattle.kb_conf.specs.Signs.{open_brace}

-- the pattern that the grammar of `regex` reads in the text, unless it is nested deeper than its limit
unfoldable pub pattern_in : List ℕ → Option Re
pattern_in text = option_and_then
    (λ found. if nat_le found.0.depth default_config.nest_limit then Some found.0.value else None)
    (read default_config (chars text))

-- at most 256 bytes, no `{`, and a pattern
unfoldable pub is_pattern : List ℕ → Bool
is_pattern text = nat_le (length text) 256 && not (list_any (λ c. c == open_brace) text) && is_some (pattern_in text)

-- the pattern is found anywhere in the text
unfoldable pub matches : List ℕ → List ℕ → Bool
matches pattern text = option_map_or (λ re. is_some (find_str re text 0)) (pattern_in pattern) false
