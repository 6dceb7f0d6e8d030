-- The pieces of a value, after dkms(8) and the shell that reads the file there: how each is spelled,
-- and where it may stand.
use Rattle.std.specs.Prelude.{ℕ, ◌+◌, ◌-◌, Bool, true, not, ◌&&◌, List, [], ◌∷◌, ◌++◌, ◌==◌, if◌then◌else◌}
use Rattle.std.specs.List.{list_all}
use Rattle.kb_conf.specs.Signs.{double_quote, dollar_sign, apostrophe, open_parenthesis, close_parenthesis, backslash, backquote, open_brace, close_brace}
use Rattle.kb_conf.specs.Bytes.{stands_for_itself, continues_name, begins_expansion}
use Rattle.kb_conf.specs.Name.{Reference, is_variable_name, is_reference, spell_reference}

pub data Piece : Type 0 where
  -- a byte that stands for itself
  Bare : ℕ → Piece
  -- a backslash and the byte behind it
  Escaped : ℕ → Piece
  -- '..'
  Single : List ℕ → Piece
  -- a double quote, which opens or closes
  Quote : Piece
  -- $NAME
  Plain : List ℕ → Piece
  -- ${NAME} and ${NAME[N]}
  Braced : Reference → Piece
  -- $(..)
  Command : List ℕ → Piece
  -- what stands between backquotes
  Backquoted : List ℕ → Piece
  -- a $ that begins none of these
  Dollar : Piece

abbrev pub spell : Piece → List ℕ
spell (Bare b) = b ∷ []
spell (Escaped b) = backslash ∷ b ∷ []
spell (Single text) = apostrophe ∷ (text ++ apostrophe ∷ [])
spell Quote = double_quote ∷ []
spell (Plain name) = dollar_sign ∷ name
spell (Braced r) = dollar_sign ∷ open_brace ∷ (spell_reference r ++ close_brace ∷ [])
spell (Command text) = dollar_sign ∷ open_parenthesis ∷ (text ++ close_parenthesis ∷ [])
spell (Backquoted text) = backquote ∷ (text ++ backquote ∷ [])
spell Dollar = dollar_sign ∷ []

-- no byte of the text is this one
abbrev pub lacks : ℕ → List ℕ → Bool
lacks b text = list_all (λ c. not (c == b)) text

-- how many parentheses are open behind a byte
abbrev pub depth_after : ℕ → ℕ → ℕ
depth_after depth b =
    if b == open_parenthesis then depth + 1
    else if b == close_parenthesis then depth - 1
    else depth

-- with so many parentheses open, the text closes them all and each that it opens, and no other
abbrev pub closes : ℕ → List ℕ → Bool
closes depth [] = depth == 0
closes depth (b ∷ bs) =
    not (b == close_parenthesis && depth == 0) && closes (depth_after depth b) bs

-- a name behind $ is as long as the text allows
abbrev pub ends_name : List ℕ → Bool
ends_name [] = true
ends_name (b ∷ bs) = not (continues_name b)

abbrev pub ends_dollar : List ℕ → Bool
ends_dollar [] = true
ends_dollar (b ∷ bs) = not (begins_expansion b)

-- where a piece stands: inside double quotes or not, and in the value of MAKE or CLEAN or not
pub record Mode : Type 0 where
  pub quoted : Bool
  pub command : Bool

-- the piece may stand here, before what follows it
abbrev pub fits_here : Mode → Piece → List ℕ → Bool
fits_here m (Bare b) after = stands_for_itself m.quoted b
fits_here m (Escaped b) after = true
fits_here m (Single text) after = not m.quoted && lacks apostrophe text
fits_here m Quote after = true
fits_here m (Plain name) after = is_variable_name name && ends_name after
fits_here m (Braced r) after = is_reference r
fits_here m (Command text) after = m.command && closes 0 text
fits_here m (Backquoted text) after = m.command && lacks backquote text
fits_here m Dollar after = ends_dollar after

-- a double quote flips whether what follows is quoted
abbrev pub mode_after : Mode → Piece → Mode
mode_after m Quote = record { quoted = not m.quoted; command = m.command }
mode_after m _ = m
