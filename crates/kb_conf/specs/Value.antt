-- What the pieces of a value give.
use Rattle.std.specs.Prelude.{◌≡◌, IsTrue, ℕ, Bool, true, false, not, ◌&&◌, ◌||◌, List, [], ◌∷◌, ◌++◌, Option, None, unwrap_or, ◌==◌, if◌then◌else◌, nat_le, length}
use Rattle.std.specs.Option.{option_or}
use Rattle.kb_conf.specs.Signs.{line_feed, dollar_sign, backslash, semicolon}
use Rattle.kb_conf.specs.Bytes.{is_active, is_blank}
use Rattle.kb_conf.specs.Name.{Reference}
use Rattle.kb_conf.specs.Piece.{Piece, Bare, Escaped, Single, Quote, Plain, Braced, Command, Backquoted, Dollar, Mode, spell, fits_here, mode_after}
use Rattle.kb_conf.specs.Assignment.{Given, Assignment, given_value, last_value}

-- what stands before an assignment, by which its variables have values
pub record Scope : Type 0 where
  pub given : Given
  pub earlier : List Assignment

abbrev pub scope : Given → List Assignment → Scope
scope g earlier = record { given = g; earlier = earlier }

-- a value begins outside double quotes
abbrev pub at_start : Bool → Mode
at_start command = record { quoted = false; command = command }

-- a given field, else the last earlier assignment
abbrev pub look_up : Scope → Reference → Option (List ℕ)
look_up s r = option_or (given_value s.given r.name (unwrap_or r.number 0))
    (last_value s.earlier r.name (unwrap_or r.number 0))

-- where neither gives a value: the piece as written in MAKE and CLEAN, and else nothing
abbrev pub expand : Scope → Mode → Reference → List ℕ → List ℕ
expand s m r written = unwrap_or (look_up s r) (if m.command then written else [])

-- a backslash takes a line break away. Inside double quotes it stays before a byte that means nothing there
abbrev pub escape : Bool → ℕ → List ℕ
escape quoted b =
    if b == line_feed then []
    else if quoted && not (is_active b) then backslash ∷ b ∷ []
    else b ∷ []

abbrev pub gives : Scope → Mode → Piece → List ℕ
gives s m (Bare b) = b ∷ []
gives s m (Escaped b) = escape m.quoted b
gives s m (Single text) = text
gives s m Quote = []
gives s m (Plain name) = expand s m (record { name = name; number = None }) (spell (Plain name))
gives s m (Braced r) = expand s m r (spell (Braced r))
gives s m (Command text) = spell (Command text)
gives s m (Backquoted text) = spell (Backquoted text)
gives s m Dollar = dollar_sign ∷ []

abbrev pub spell_pieces : List Piece → List ℕ
spell_pieces [] = []
spell_pieces (p ∷ ps) = spell p ++ spell_pieces ps

abbrev pub give_all : Scope → Mode → List Piece → List ℕ
give_all s m [] = []
give_all s m (p ∷ ps) = gives s m p ++ give_all s (mode_after m p) ps

-- an assignment is whole where a blank, a ;, a line's end or the text's end follows
abbrev pub ends_item : List ℕ → Bool
ends_item [] = true
ends_item (b ∷ bs) = is_blank b || b == semicolon || b == line_feed

-- each piece may stand where it stands, and the value ends outside double quotes
abbrev pub are_value : Mode → List Piece → List ℕ → Bool
are_value m [] after = not m.quoted && ends_item after
are_value m (p ∷ ps) after =
    fits_here m p (spell_pieces ps ++ after) && are_value (mode_after m p) ps after

-- the most bytes that a value may have; this project's own
abbrev pub longest_value : ℕ
longest_value = 65536

abbrev pub is_short : List ℕ → Bool
is_short value = nat_le (length value) longest_value

-- the grammar cuts the text up to what is after into the pieces of a value, which give it
pub record ReadsValue (s : Scope) (m : Mode) (text value after : List ℕ) : Type 0 where
  pub pieces : List Piece
  pub spelled : text ≡ spell_pieces pieces ++ after
  pub fitting : IsTrue (are_value m pieces after)
  pub given : value ≡ give_all s m pieces

-- a value of at most 65,536 bytes, and what follows it
abbrev pub IsShortValue : Scope → Mode → List ℕ → List ℕ × List ℕ → Type 0
IsShortValue s m text v = ReadsValue s m text v.0 v.1 × IsTrue (is_short v.0)
