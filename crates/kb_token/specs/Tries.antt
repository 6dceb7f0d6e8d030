-- The tries of a new entry, after kernel-install(8).
use Rattle.std.specs.Prelude.{ℕ, ◌&&◌, cond, List, length, nat_le, Option, Some, None}
use Rattle.std.specs.Str.Parse.{digits_value}
use Rattle.kb_token.specs.Lines.{trimmed}
use Rattle.kb_token.specs.Token.{are_digits}

-- the text without the blanks and line feeds at its ends, where that is 1 to 9 digits of a number above 0
abbrev pub tries_of : List ℕ → Option ℕ
tries_of text =
    cond (are_digits (trimmed text) && nat_le (length (trimmed text)) 9 && nat_le 1 (digits_value 10 (trimmed text))) (Some (digits_value 10 (trimmed text))) None
