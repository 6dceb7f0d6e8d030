-- The values of an os-release file, after os-release(5).
use Rattle.std.specs.Prelude.{ℕ, ◌||◌, cond, List, length, map, nat_eq, Option, Some, None, option_and_then}
use Rattle.std.specs.Option.{unwrap_or}
use Rattle.kb_token.specs.Lines.{lines_of, CARRIAGE_RETURN}
use Rattle.kb_token.specs.Variable.{variable_value, before_quote, has}

-- the line without a carriage return at its end
abbrev pub without_return : List ℕ → List ℕ
without_return line = unwrap_or (before_quote CARRIAGE_RETURN line) line

-- an empty value, or one with a carriage return in it, is none
abbrev pub usable : List ℕ → Option (List ℕ)
usable value = cond (nat_eq (length value) 0 || has CARRIAGE_RETURN value) None (Some value)

abbrev pub release_value : List ℕ → List ℕ → Option (List ℕ)
release_value key text = option_and_then usable (variable_value key (map without_return (lines_of text)))
