-- The lines of a dkms.conf, after dkms(8), and the assignments that they make.
use Rattle.std.specs.Prelude.{◌≡◌, ℕ, Bool, true, ◌&&◌, ◌||◌, List, [], ◌∷◌, ◌++◌, unwrap_or, ◌==◌, IsTrue, codes}
use Rattle.std.specs.Str.{bytes_eq}
use Rattle.kb_conf.specs.Signs.{line_feed, hash_sign, semicolon, equals_sign}
use Rattle.kb_conf.specs.declared.line_position.LinePosition.{LinePosition}
use Rattle.kb_conf.specs.Bytes.{is_blank}
use Rattle.kb_conf.specs.Name.{Reference, is_reference, spell_reference}
use Rattle.kb_conf.specs.Piece.{Piece, Mode, lacks}
use Rattle.kb_conf.specs.Assignment.{Assignment, Given}
use Rattle.kb_conf.specs.Value.{Scope, scope, at_start, spell_pieces, give_all, are_value, is_short}
use Rattle.kb_conf.specs.LinePosition.{may_set, may_part, after_blank, after_semicolon, after_assignment, line_start}

-- NAME=VALUE or NAME[N]=VALUE
pub record AssignmentItem : Type 0 where
  pub target : Reference
  pub pieces : List Piece

abbrev pub spell_item : AssignmentItem → List ℕ
spell_item i = spell_reference i.target ++ (equals_sign ∷ spell_pieces i.pieces)

-- the names whose values are commands
abbrev pub is_command : List ℕ → Bool
is_command name = bytes_eq name (codes "MAKE") || bytes_eq name (codes "CLEAN")

abbrev pub item_mode : AssignmentItem → Mode
item_mode i = at_start (is_command i.target.name)

abbrev pub item_value : Scope → AssignmentItem → List ℕ
item_value s i = give_all s (item_mode i) i.pieces

abbrev pub is_item : Scope → AssignmentItem → List ℕ → Bool
is_item s i after =
    is_reference i.target && (are_value (item_mode i) i.pieces after && is_short (item_value s i))

-- NAME means NAME[0]
abbrev pub assigned : Scope → AssignmentItem → Assignment
assigned s i =
    record { name = i.target.name; number = unwrap_or i.target.number 0; value = item_value s i }

pub data Token : Type 0 where
  Blank : ℕ → Token
  Semicolon : Token
  LineEnd : Token
  Comment : List ℕ → Token
  Set : AssignmentItem → Token

abbrev pub spell_token : Token → List ℕ
spell_token (Blank b) = b ∷ []
spell_token Semicolon = semicolon ∷ []
spell_token LineEnd = line_feed ∷ []
spell_token (Comment text) = hash_sign ∷ text
spell_token (Set i) = spell_item i

-- the end of the text ends a line too
abbrev pub ends_line : List ℕ → Bool
ends_line [] = true
ends_line (b ∷ bs) = b == line_feed

abbrev pub is_token : Scope → Token → List ℕ → Bool
is_token s (Blank b) after = is_blank b
is_token s Semicolon after = true
is_token s LineEnd after = true
is_token s (Comment text) after = lacks line_feed text && ends_line after
is_token s (Set i) after = is_item s i after

abbrev pub may_stand : LinePosition → Token → Bool
may_stand position (Blank b) = true
may_stand position Semicolon = may_part position.last
may_stand position LineEnd = true
may_stand position (Comment text) = position.spaced
may_stand position (Set i) = may_set position.last position.spaced

abbrev pub position_after : LinePosition → Token → LinePosition
position_after position (Blank b) = after_blank position
position_after position Semicolon = after_semicolon position
position_after position LineEnd = line_start
position_after position (Comment text) = position
position_after position (Set i) = after_assignment

abbrev pub assigns : Scope → Token → List Assignment
assigns s (Set i) = assigned s i ∷ []
assigns s _ = []

abbrev pub spell_tokens : List Token → List ℕ
spell_tokens [] = []
spell_tokens (t ∷ ts) = spell_token t ++ spell_tokens ts

-- each token is whole and may stand where it stands. Its variables look at the assignments before it
abbrev pub are_lines : Given → List Assignment → LinePosition → List Token → List ℕ → Bool
are_lines g earlier position [] rest = true
are_lines g earlier position (t ∷ ts) rest =
    (may_stand position t && is_token (scope g earlier) t (spell_tokens ts ++ rest))
    && are_lines g (earlier ++ assigns (scope g earlier) t) (position_after position t) ts rest

abbrev pub assign_all : Given → List Assignment → List Token → List Assignment
assign_all g earlier [] = earlier
assign_all g earlier (t ∷ ts) = assign_all g (earlier ++ assigns (scope g earlier) t) ts

-- one token: what it assigns, where the next one stands, and what follows it
pub record Step : Type 0 where
  pub position : LinePosition
  pub assigned : List Assignment
  pub rest : List ℕ

pub record IsStep (s : Scope) (position : LinePosition) (text : List ℕ) (step : Step) : Type 0 where
  pub token : Token
  pub spelled : text ≡ spell_token token ++ step.rest
  pub stands : IsTrue (may_stand position token)
  pub whole : IsTrue (is_token s token step.rest)
  pub next_position : step.position ≡ position_after position token
  pub assignments : step.assigned ≡ assigns s token

pub record IsAssignment (s : Scope) (text : List ℕ) (a : Assignment) (after : List ℕ) : Type 0 where
  pub item : AssignmentItem
  pub spelled : text ≡ spell_item item ++ after
  pub whole : IsTrue (is_item s item after)
  pub made : a ≡ assigned s item

abbrev pub AssignmentAt : Scope → List ℕ → Assignment × List ℕ → Type 0
AssignmentAt s text found = IsAssignment s text found.0 found.1
