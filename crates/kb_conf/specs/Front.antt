-- What stands at the front of a text, as plain functions. The grammar doesn't cite them: they are what
-- the reader's parts compute, and the laws in proofs/ tie them to the grammar.
use Rattle.std.specs.Prelude.{◌≡◌, ℕ, ◌+◌, ◌-◌, ◌*◌, Bool, not, ◌&&◌, List, [], ◌∷◌, Option, Some, None, option_map, option_and_then, nat_lt, ◌==◌, if◌then◌else◌, take, drop, length, ◌<◌}
use Rattle.std.specs.List.{prefix_len}
use Rattle.std.specs.Char.{is_ascii_digit}
use Rattle.kb_conf.specs.Signs.{digit_zero, double_quote, dollar_sign, apostrophe, open_parenthesis, close_parenthesis, backslash, backquote, open_brace, close_brace, open_bracket, close_bracket, line_feed, semicolon, hash_sign}
use Rattle.kb_conf.specs.Bytes.{is_blank, starts_name, continues_name, begins_expansion, stands_for_itself}
use Rattle.kb_conf.specs.declared.line_position.LinePosition.{LinePosition}
use Rattle.kb_conf.specs.LinePosition.{line_start, may_part, after_blank, after_semicolon}
use Rattle.kb_conf.specs.Name.{Reference}
use Rattle.kb_conf.specs.Piece.{Piece, Bare, Escaped, Single, Quote, Plain, Braced, Command, Backquoted, Dollar, Mode, depth_after, spell}

-- what follows one byte of this kind
abbrev pub byte_at : ℕ → List ℕ → Option (List ℕ)
byte_at wanted [] = None
byte_at wanted (b ∷ bs) = if b == wanted then Some bs else None

-- what stands before the first byte of this kind, and what follows that byte
unfoldable pub until_byte : ℕ → List ℕ → Option (List ℕ × List ℕ)
until_byte stop text =
    let n = prefix_len (λ b. not (b == stop)) text in
    option_map (λ rest. (take n text, rest)) (byte_at stop (drop n text))

unfoldable pub name_at : List ℕ → Option (List ℕ × List ℕ)
name_at [] = None
name_at (b ∷ bs) =
    let n = prefix_len continues_name bs in
    if starts_name b then Some (b ∷ take n bs, drop n bs) else None

abbrev pub below_256 : ℕ → Option ℕ
below_256 n = if nat_lt n 256 then Some n else None

-- what these digits write, where that has no leading zero and is below 256
abbrev pub number_written : List ℕ → Option ℕ
number_written [] = None
number_written (a ∷ []) = below_256 (a - digit_zero)
number_written (a ∷ b ∷ []) =
    if a == digit_zero then None else below_256 (10 * (a - digit_zero) + (b - digit_zero))
number_written (a ∷ b ∷ c ∷ []) =
    if a == digit_zero then None else below_256 (100 * (a - digit_zero) + 10 * (b - digit_zero) + (c - digit_zero))
number_written (a ∷ b ∷ c ∷ d ∷ more) = None

unfoldable pub number_at : List ℕ → Option (ℕ × List ℕ)
number_at text =
    let n = prefix_len is_ascii_digit text in
    option_map (λ number. (number, drop n text)) (number_written (take n text))

infixl 10 ◌>>=◌
abbrev pub ◌>>=◌ : {A B : Type 0} → Option A → (A → Option B) → Option B
o >>= f = option_and_then f o

unfoldable pub bracketed_at : List ℕ → Option (ℕ × List ℕ)
bracketed_at text = do
  number ← number_at text
  rest ← byte_at close_bracket number.1
  Some (number.0, rest)

unfoldable pub subscript_at : List ℕ → Option (Option ℕ × List ℕ)
subscript_at [] = Some (None, [])
subscript_at (b ∷ bs) =
    if b == open_bracket then option_map (λ found. (Some found.0, found.1)) (bracketed_at bs)
    else Some (None, b ∷ bs)

unfoldable pub reference_at : List ℕ → Option (Reference × List ℕ)
reference_at text = do
  name ← name_at text
  number ← subscript_at name.1
  Some (record { name = name.0; number = number.0 }, number.1)

-- what stands before the parenthesis that closes the last of those that are depth, and what follows it
abbrev pub closing_at : ℕ → List ℕ → Option (List ℕ × List ℕ)
closing_at depth [] = None
closing_at depth (b ∷ bs) =
    if b == close_parenthesis && depth == 0 then Some ([], bs)
    else option_map (λ found. (b ∷ found.0, found.1)) (closing_at (depth_after depth b) bs)

-- the pieces that begin with a $, behind it
unfoldable pub braced_at : List ℕ → Option (Piece × List ℕ)
braced_at text = do
  found ← reference_at text
  rest ← byte_at close_brace found.1
  Some (Braced found.0, rest)

unfoldable pub expansion_at : Bool → List ℕ → Option (Piece × List ℕ)
expansion_at command [] = Some (Dollar, [])
expansion_at command (b ∷ bs) =
    if b == open_brace then braced_at bs
    else if b == open_parenthesis then (if command then option_map (λ found. (Command found.0, found.1)) (closing_at 0 bs) else None)
    else if starts_name b then option_map (λ found. (Plain found.0, found.1)) (name_at (b ∷ bs))
    else if begins_expansion b then None
    else Some (Dollar, b ∷ bs)

unfoldable pub escaped_at : List ℕ → Option (Piece × List ℕ)
escaped_at [] = None
escaped_at (b ∷ bs) = Some (Escaped b, bs)

unfoldable pub piece_at : Mode → List ℕ → Option (Piece × List ℕ)
piece_at m [] = None
piece_at m (b ∷ bs) =
    if b == double_quote then Some (Quote, bs)
    else if b == backslash then escaped_at bs
    else if b == dollar_sign then expansion_at m.command bs
    else if b == backquote then (if m.command then option_map (λ found. (Backquoted found.0, found.1)) (until_byte backquote bs) else None)
    else if stands_for_itself m.quoted b then Some (Bare b, bs)
    else if b == apostrophe then option_map (λ found. (Single found.0, found.1)) (until_byte apostrophe bs)
    else None

-- a piece at the front, how it is written, and what follows it
pub record IsNextPiece (m : Mode) (text : List ℕ) (p : Piece) (written rest : List ℕ) : Type 0 where
  pub found : piece_at m text ≡ Some (p, rest)
  pub spelled : written ≡ spell p
  pub shorter : length rest < length text

-- a blank, a line's end, a ; or a comment that may stand here
unfoldable pub plain_at : LinePosition → List ℕ → Option (LinePosition × List ℕ)
plain_at position [] = None
plain_at position (b ∷ bs) =
    if is_blank b then Some (after_blank position, bs)
    else if b == line_feed then Some (line_start, bs)
    else if b == semicolon && may_part position.last then Some (after_semicolon position, bs)
    else if b == hash_sign && position.spaced then Some (position, drop (prefix_len (λ c. not (c == line_feed)) bs) bs)
    else None
