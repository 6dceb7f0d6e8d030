-- The items of a version, after the UAPI version format specification.
use Rattle.std.specs.Prelude.{ℕ, List, [], ◌∷◌, ◌++◌, ◌==◌, if◌then◌else◌}
use Rattle.std.specs.List.{take_while}
use Rattle.std.specs.Char.{is_ascii_alphabetic, is_ascii_digit}
use Rattle.std.specs.Str.Parse.{digits_value}
use Rattle.kb_version.specs.Signs.{tilde, dash, caret, dot}

-- a sign, the end of the text, a run of letters with its bytes, or a run of digits with the number that it writes
pub data Item : Type 0 where
  Tilde : Item
  End : Item
  Dash : Item
  Caret : Item
  Dot : Item
  Letters : List ℕ → Item
  Number : ℕ → Item

-- what a byte is to a version. Each byte of a character beyond ASCII is skipped, as the character is
pub data Kind : Type 0 where
  Letter : Kind
  Digit : Kind
  Sign : Item → Kind
  Skipped : Kind

abbrev pub byte_kind : ℕ → Kind
byte_kind c =
    if is_ascii_alphabetic c then Letter else
    if is_ascii_digit c then Digit else
    if c == tilde then Sign Tilde else
    if c == dash then Sign Dash else
    if c == caret then Sign Caret else
    if c == dot then Sign Dot else Skipped

-- the items that begin at a byte c, one or none: `before` is the kind of the byte before it, then its own kind, and `rest` what follows it.
-- A run begins at a byte that doesn't go on with the run before it, and it goes as far as it can
abbrev pub items_at : Kind → Kind → ℕ → List ℕ → List Item
items_at Letter Letter c rest = []
items_at before Letter c rest = Letters (c ∷ take_while is_ascii_alphabetic rest) ∷ []
items_at Digit Digit c rest = []
items_at before Digit c rest = Number (digits_value 10 (c ∷ take_while is_ascii_digit rest)) ∷ []
items_at before (Sign item) c rest = item ∷ []
items_at before Skipped c rest = []

-- the items of a text that follows a byte of this kind, the end among them
abbrev pub items_after : Kind → List ℕ → List Item
items_after before [] = End ∷ []
items_after before (c ∷ rest) = items_at before (byte_kind c) c rest ++ items_after (byte_kind c) rest

-- the items of a whole text, whose first byte begins an item as it would after a skipped one
abbrev pub items : List ℕ → List Item
items text = items_after Skipped text
