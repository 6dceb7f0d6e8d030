-- A line KEY=VALUE, as os-release(5) has it. Which spellings of a value are read is this project's own.
use Rattle.std.specs.Prelude.{◌≡◌, ◌⊎◌, ℕ, Bool, true, false, ◌&&◌, ◌||◌, not, cond, List, [], ◌∷◌, ◌++◌, map, flat_map, nat_eq, Option, Some, None, option_map, option_and_then, bytes_eq}
use Rattle.std.specs.List.{list_any, before_first, after_first}
use Rattle.std.specs.Option.{option_or}
use Rattle.std.specs.Str.{byte}
use Rattle.kb_token.specs.Lines.{trimmed}
use Rattle.kb_token.specs.declared.variable.Variable.{Variable}

abbrev pub EQUALS : ℕ
EQUALS = byte "="

abbrev pub SINGLE_QUOTE : ℕ
SINGLE_QUOTE = byte "'"

abbrev pub DOUBLE_QUOTE : ℕ
DOUBLE_QUOTE = 34

abbrev pub BACKSLASH : ℕ
BACKSLASH = 92

-- what a backslash between double quotes gives: a double quote, a dollar sign, a backslash or a backquote
abbrev pub is_escapable : ℕ → Bool
is_escapable c = list_any (nat_eq c) (DOUBLE_QUOTE ∷ byte "$" ∷ BACKSLASH ∷ byte "`" ∷ [])

abbrev pub has : ℕ → List ℕ → Bool
has c text = list_any (λ d. nat_eq d c) text

abbrev pub opens_with : ℕ → List ℕ → Bool
opens_with c [] = false
opens_with c (d ∷ rest) = nat_eq d c

-- ---- the spellings of a value

-- between double quotes: a byte, or one behind a backslash
pub data QuotedByte : Type 0 where
  Plain : ℕ → QuotedByte
  Escaped : ℕ → QuotedByte

abbrev pub quoted_spelling : QuotedByte → List ℕ
quoted_spelling (Plain c) = c ∷ []
quoted_spelling (Escaped c) = BACKSLASH ∷ c ∷ []

abbrev pub quoted_meaning : QuotedByte → ℕ
quoted_meaning (Plain c) = c
quoted_meaning (Escaped c) = c

abbrev pub begins_escapable : List ℕ → Bool
begins_escapable [] = false
begins_escapable (c ∷ rest) = is_escapable c

-- before what follows: a double quote doesn't stand for itself, nor a backslash before what it escapes
abbrev pub can_be_quoted : QuotedByte → List ℕ → Bool
can_be_quoted (Plain c) behind = not (nat_eq c DOUBLE_QUOTE) && not (nat_eq c BACKSLASH && begins_escapable behind)
can_be_quoted (Escaped c) behind = is_escapable c

-- the bytes may stand one before the other, and the last before a double quote
abbrev pub are_quoted : List QuotedByte → Bool
are_quoted [] = true
are_quoted (first ∷ bytes) = can_be_quoted first (flat_map quoted_spelling bytes ++ DOUBLE_QUOTE ∷ []) && are_quoted bytes

pub record IsBare (text value : List ℕ) : Type 0 where
  pub unquoted : opens_with SINGLE_QUOTE text || opens_with DOUBLE_QUOTE text ≡ false
  pub given : value ≡ text

pub record IsSingle (text value : List ℕ) : Type 0 where
  pub inner : List ℕ
  pub quoted : text ≡ SINGLE_QUOTE ∷ inner ++ SINGLE_QUOTE ∷ []
  pub plain : has SINGLE_QUOTE inner ≡ false
  pub given : value ≡ trimmed inner

pub record IsDouble (text value : List ℕ) : Type 0 where
  pub bytes : List QuotedByte
  pub quoted : text ≡ DOUBLE_QUOTE ∷ flat_map quoted_spelling bytes ++ DOUBLE_QUOTE ∷ []
  pub whole : are_quoted bytes ≡ true
  pub given : value ≡ trimmed (map quoted_meaning bytes)

-- the text spells the value: bare, or between single or double quotes
abbrev pub Spells : List ℕ → List ℕ → Type 0
Spells text value = IsBare text value ⊎ IsSingle text value ⊎ IsDouble text value

-- the line gives the variable: a key, the first `=`, and behind it, between blanks, a value as it is spelled
pub record IsVariable (line : List ℕ) (variable : Variable) : Type 0 where
  pub spelling : List ℕ
  pub spelled : line ≡ variable.key ++ EQUALS ∷ spelling
  pub key : has EQUALS variable.key ≡ false
  pub value : Spells (trimmed spelling) variable.value

-- ---- the value that a text spells

-- behind a backslash or not: each double quote of what follows stands behind a backslash, and no backslash is last
abbrev pub is_closed : Bool → List ℕ → Bool
is_closed behind [] = not behind
is_closed behind (c ∷ rest) = (behind || not (nat_eq c DOUBLE_QUOTE)) && is_closed (not behind && nat_eq c BACKSLASH) rest

-- what follows, each backslash before what it escapes dropped
abbrev pub unescaped : Bool → List ℕ → List ℕ
unescaped true [] = BACKSLASH ∷ []
unescaped false [] = []
unescaped true (c ∷ rest) = cond (is_escapable c) (c ∷ unescaped false rest) (BACKSLASH ∷ c ∷ unescaped false rest)
unescaped false (c ∷ rest) = cond (nat_eq c BACKSLASH) (unescaped true rest) (c ∷ unescaped false rest)

-- what stands before the quote that ends the text
abbrev pub before_quote : ℕ → List ℕ → Option (List ℕ)
before_quote quote [] = None
before_quote quote (c ∷ []) = cond (nat_eq c quote) (Some []) None
before_quote quote (c ∷ d ∷ rest) = option_map (λ inner. c ∷ inner) (before_quote quote (d ∷ rest))

abbrev pub single_value : List ℕ → Option (List ℕ)
single_value inner = cond (has SINGLE_QUOTE inner) None (Some (trimmed inner))

abbrev pub double_value : List ℕ → Option (List ℕ)
double_value inner = cond (is_closed false inner) (Some (trimmed (unescaped false inner))) None

-- what stands between a quote at the text's start and one at its end
abbrev pub between : ℕ → List ℕ → Option (List ℕ)
between quote [] = None
between quote (c ∷ rest) = cond (nat_eq c quote) (before_quote quote rest) None

abbrev pub spelled_value : List ℕ → Option (List ℕ)
spelled_value text =
    cond (opens_with SINGLE_QUOTE text) (option_and_then single_value (between SINGLE_QUOTE text))
    (cond (opens_with DOUBLE_QUOTE text) (option_and_then double_value (between DOUBLE_QUOTE text)) (Some text))

-- the variable that a line gives
unfoldable pub variable_of : List ℕ → Option Variable
variable_of line =
    cond (has EQUALS line)
    (option_map (λ value. record { key = before_first (λ c. nat_eq c EQUALS) line; value = value }) (spelled_value (trimmed (after_first (λ c. nat_eq c EQUALS) line)))) None

-- ---- the variables of a text

abbrev pub value_for : List ℕ → Option Variable → Option (List ℕ)
value_for key None = None
value_for key (Some variable) = cond (bytes_eq variable.key key) (Some variable.value) None

-- the value of the last line that gives the key
abbrev pub variable_value : List ℕ → List (List ℕ) → Option (List ℕ)
variable_value key [] = None
variable_value key (line ∷ lines) = option_or (variable_value key lines) (value_for key (variable_of line))
