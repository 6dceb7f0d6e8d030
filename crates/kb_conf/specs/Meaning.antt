-- What a text says, computed. The grammar doesn't cite this: a law says that it is what the grammar says.
use Rattle.std.specs.Prelude.{ℕ, zero, suc, ◌+◌, not, ◌&&◌, List, [], ◌∷◌, ◌++◌, Option, Some, None, option_map, Result, Ok, Err, length, nat_le, unwrap_or, if◌then◌else◌}
use Rattle.kb_conf.specs.Signs.{equals_sign}
use Rattle.kb_conf.specs.declared.line_position.LinePosition.{LinePosition}
use Rattle.kb_conf.specs.Assignment.{Assignment, Given}
use Rattle.kb_conf.specs.Front.{piece_at, byte_at, reference_at, plain_at}
use Rattle.kb_conf.specs.Line.{Step, is_command}
use Rattle.kb_conf.specs.Name.{Reference}
use Rattle.kb_conf.specs.Piece.{Piece, Mode, mode_after}
use Rattle.kb_conf.specs.LinePosition.{line_start, may_set, after_assignment}
use Rattle.kb_conf.specs.Reading.{sound_len, line_number, IsGood, IsBadLine}
use Rattle.kb_conf.specs.Value.{Scope, scope, at_start, gives, ends_item, is_short}

-- a value, and what follows it
abbrev pub Found : Type 0
Found = Option (List ℕ × List ℕ)

-- what the piece at the front makes of a value, and where to go on
unfoldable pub value_past : Scope → Mode → List ℕ → List ℕ → (Mode → List ℕ → List ℕ → Found) → Option (Piece × List ℕ) → Found
value_past s m value text go None = if not m.quoted && ends_item text then Some (value, text) else None
value_past s m value text go (Some found) =
    if is_short (value ++ gives s m found.0) then go (mode_after m found.0) (value ++ gives s m found.0) found.1 else None

-- the value whose first pieces gave this already. The number bounds the pieces
unfoldable pub value_from : Scope → ℕ → Mode → List ℕ → List ℕ → Found
value_from s zero m value text = None
value_from s (suc n) m value text = value_past s m value text (value_from s n) (piece_at m text)

abbrev pub made_of : Reference → List ℕ → Assignment
made_of r value = record { name = r.name; number = unwrap_or r.number 0; value = value }

abbrev pub made_from : Reference → Found → Option (Assignment × List ℕ)
made_from r found = option_map (λ v. (made_of r v.0, v.1)) found

abbrev pub assignment_from : Scope → Reference → Option (List ℕ) → Option (Assignment × List ℕ)
assignment_from s r None = None
assignment_from s r (Some behind) = made_from r (value_from s (length behind + 1) (at_start (is_command r.name)) [] behind)

abbrev pub assignment_past : Scope → Option (Reference × List ℕ) → Option (Assignment × List ℕ)
assignment_past s None = None
assignment_past s (Some found) = assignment_from s found.0 (byte_at equals_sign found.1)

-- the assignment at the front, and what follows it
unfoldable pub assignment_at : Scope → List ℕ → Option (Assignment × List ℕ)
assignment_at s text = assignment_past s (reference_at text)

abbrev pub set_step : Option (Assignment × List ℕ) → Option Step
set_step found = option_map (λ a. record { position = after_assignment; assigned = a.0 ∷ []; rest = a.1 }) found

abbrev pub step_past : Scope → LinePosition → List ℕ → Option (LinePosition × List ℕ) → Option Step
step_past s position text (Some found) = Some (record { position = found.0; assigned = []; rest = found.1 })
step_past s position text None = if may_set position.last position.spaced then set_step (assignment_at s text) else None

-- the item at the front that may stand there
unfoldable pub step_at : Scope → LinePosition → List ℕ → Option Step
step_at s position text = step_past s position text (plain_at position text)

-- the assignments of a good text, or a bad line
abbrev pub Said : Type 0
Said = Result (List Assignment) ℕ

-- what the item at the front adds, and where to go on
unfoldable pub said_past : List ℕ → List Assignment → List ℕ → (List Assignment → LinePosition → List ℕ → Said) → Option Step → Said
said_past text earlier rest go None = Err (line_number text rest)
said_past text earlier rest go (Some step) =
    if nat_le (length text) (sound_len text + length step.rest) then go (earlier ++ step.assigned) step.position step.rest
    else Err (line_number text rest)

-- what the rest of the text says behind these assignments. The number bounds the items
unfoldable pub said_from : Given → List ℕ → ℕ → List Assignment → LinePosition → List ℕ → Said
said_from g text n earlier position [] = Ok earlier
said_from g text zero earlier position (b ∷ rest) = Ok earlier
said_from g text (suc n) earlier position (b ∷ rest) =
    said_past text earlier (b ∷ rest) (said_from g text n) (step_at (scope g earlier) position (b ∷ rest))

unfoldable pub meaning_of : Given → List ℕ → Said
meaning_of g text = said_from g text (length text) [] line_start text

-- the grammar says this of the text
abbrev pub Means : Given → List ℕ → Said → Type 0
Means g text (Ok assignments) = IsGood g text assignments
Means g text (Err line) = IsBadLine g text line
