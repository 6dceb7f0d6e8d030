-- Lines, and what is dropped at their ends. This project's own.
use Rattle.std.specs.Prelude.{ℕ, ◌-◌, Bool, ◌||◌, List, length, take, drop, nat_eq}
use Rattle.std.specs.List.{slice_split, before_first, prefix_len, suffix_len}
use Rattle.std.specs.Str.{byte}
use Rattle.kb_world.specs.Refusal.{LINE_FEED}

abbrev pub TAB : ℕ
TAB = 9

abbrev pub CARRIAGE_RETURN : ℕ
CARRIAGE_RETURN = 13

-- the lines of a text, whose end ends the last one
abbrev pub lines_of : List ℕ → List (List ℕ)
lines_of text = slice_split (λ c. nat_eq c LINE_FEED) text

abbrev pub first_line : List ℕ → List ℕ
first_line text = before_first (λ c. nat_eq c LINE_FEED) text

-- a blank, which is a space or a tab, or a line feed, which no line holds
abbrev pub is_space : ℕ → Bool
is_space c = nat_eq c (byte " ") || nat_eq c TAB || nat_eq c LINE_FEED

abbrev pub trimmed_start : List ℕ → List ℕ
trimmed_start text = drop (prefix_len is_space text) text

abbrev pub trimmed_end : List ℕ → List ℕ
trimmed_end text = take (length text - suffix_len is_space text) text

-- the text without the spaces at both ends
abbrev pub trimmed : List ℕ → List ℕ
trimmed text = trimmed_end (trimmed_start text)
