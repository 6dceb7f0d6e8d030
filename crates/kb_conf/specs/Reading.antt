-- What a text of a dkms.conf says, or its first bad line.
use Rattle.std.specs.Prelude.{◌≡◌, ◌≢◌, ℕ, ◌+◌, ◌-◌, ◌≤◌, Bool, false, not, take, ◌&&◌, List, [], ◌∷◌, ◌++◌, ◌==◌, if◌then◌else◌, min, length, count_by, IsTrue}
use Rattle.std.specs.List.{prefix_len}
use Rattle.std.specs.Str.Lossy.{utf8_valid_len}
use Rattle.kb_conf.specs.Signs.{nul, line_feed, carriage_return}
use Rattle.kb_conf.specs.Assignment.{Assignment, Given}
use Rattle.kb_conf.specs.Line.{Token, spell_tokens, are_lines, assign_all}
use Rattle.kb_conf.specs.LinePosition.{line_start}

abbrev pub starts_line_end : List ℕ → Bool
starts_line_end [] = false
starts_line_end (b ∷ bs) = b == line_feed

-- a carriage return directly before a line feed is dropped
abbrev pub drop_returns : List ℕ → List ℕ
drop_returns [] = []
drop_returns (b ∷ bs) = if b == carriage_return && starts_line_end bs then drop_returns bs else b ∷ drop_returns bs

-- how far the text is UTF-8 without a NUL
abbrev pub sound_len : List ℕ → ℕ
sound_len text = min (utf8_valid_len text) (prefix_len (λ b. not (b == nul)) text)

-- The grammar cuts the text, up to the rest, into whole lines and items that make these assignments.
-- What is cut is UTF-8 without a NUL.
pub record IsTextReading (g : Given) (text : List ℕ) (assignments : List Assignment) (rest : List ℕ) : Type 0 where
  pub tokens : List Token
  pub spelled : text ≡ spell_tokens tokens ++ rest
  pub lines : IsTrue (are_lines g [] line_start tokens rest)
  pub made : assignments ≡ assign_all g [] tokens
  pub sound : length (spell_tokens tokens) ≤ sound_len text

-- a text is good where a reading reaches its end
abbrev pub IsGood : Given → List ℕ → List Assignment → Type 0
IsGood g text assignments = IsTextReading g text assignments []

-- no reading leaves less of the text
pub record IsFurthest (g : Given) (text rest : List ℕ) : Type 0 where
  pub assignments : List Assignment
  pub reading : IsTextReading g text assignments rest
  pub least : (others : List Assignment) (left : List ℕ) → IsTextReading g text others left → length rest ≤ length left

-- the line on which the rest of the text begins, counted from 1
abbrev pub line_number : List ℕ → List ℕ → ℕ
line_number text rest = 1 + count_by (λ b. b == line_feed) (take (length text - length rest) text)

-- the bad line is the one on which the next item begins behind the reading that reaches furthest
pub record IsBadLine (g : Given) (text : List ℕ) (line : ℕ) : Type 0 where
  pub rest : List ℕ
  pub furthest : IsFurthest g text rest
  pub unread : rest ≢ []
  pub line_is : line ≡ line_number text rest
