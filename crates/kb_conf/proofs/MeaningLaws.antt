-- What is computed of a text is what the grammar says of it.
use Rattle.std.proofs.Common.{◌≡◌, ℕ, zero, suc, ◌+◌, ◌<◌, ◌≤◌, Bool, true, false, not, ◌&&◌, cond, List, [], ◌∷◌, ◌++◌, length, Option, Some, None, refl, ap, ◌∙◌, arith, nat_le}
use Rattle.std.specs.Prelude.{Ok, Err}
use Rattle.std.proofs.lemmas.Bool.{leb-true, leb-false}
use Rattle.std.proofs.lemmas.List.{length-append}
use Rattle.kb_conf.specs.Signs.{equals_sign}
use Rattle.kb_conf.specs.declared.line_position.LinePosition.{LinePosition}
use Rattle.kb_conf.specs.Assignment.{Assignment, Given}
use Rattle.kb_conf.specs.Front.{piece_at, byte_at, reference_at, plain_at}
use Rattle.kb_conf.specs.Line.{Step, IsStep, AssignmentAt, is_command, Token, Blank, Semicolon, LineEnd, Comment, Set, spell_token}
use Rattle.kb_conf.specs.Name.{Reference, spell_reference}
use Rattle.kb_conf.specs.Only.{IsOnly}
use Rattle.kb_conf.specs.Piece.{Piece, Mode, mode_after}
use Rattle.kb_conf.specs.LinePosition.{line_start, may_set}
use Rattle.kb_conf.specs.Reading.{IsBadLine, IsFurthest, sound_len, line_number}
use Rattle.kb_conf.specs.Value.{longest_value, Scope, scope, spell_pieces, at_start, gives, ends_item, is_short, IsShortValue}
use Rattle.kb_conf.specs.Meaning.{Found, Said, Means, value_past, value_from, made_from, assignment_from, assignment_past, assignment_at, set_step, step_past, step_at, said_past, said_from, meaning_of}
use Rattle.kb_conf.proofs.PieceLaws.{piece_shortens}
use Rattle.kb_conf.proofs.ValueLaws.{Continues, continues_start, continues_step, too_long, value_done, value_broken}
use Rattle.kb_conf.proofs.AssignmentLaws.{no_name, no_equals, no_value, the_assignment}
use Rattle.kb_conf.proofs.StepLaws.{the_plain, step_sets, the_set}
use Rattle.kb_conf.proofs.ReadingLaws.{SoFar, so_far_start, so_far_step, good, stuck, broken}
use Rattle.kb_conf.proofs.OneMeaning.{one_list, good_or_bad, one_line}

value_ends : (s : Scope) (start : Mode) (whole value : List ℕ) (m : Mode) (text : List ℕ) (b : Bool) → (not m.quoted && ends_item text) ≡ b →
    Continues s start whole value m text → length value ≤ longest_value → piece_at m text ≡ None →
    IsOnly (IsShortValue s start whole) (cond b (Some (value, text)) None)
value_ends s start whole value m text true e so_far short none = value_done s start whole value m text so_far short none e
value_ends s start whole value m text false e so_far short none = value_broken s start whole value m text so_far none e

value_goes_on : (s : Scope) (start : Mode) (whole value : List ℕ) (m : Mode) (text : List ℕ) (p : Piece) (behind : List ℕ) (go : Mode → List ℕ → List ℕ → Found) (b : Bool) →
    is_short (value ++ gives s m p) ≡ b → Continues s start whole (value ++ gives s m p) (mode_after m p) behind → length behind < length text →
    ((next : Mode) (more rest : List ℕ) → Continues s start whole more next rest → length more ≤ longest_value → length rest < length text → IsOnly (IsShortValue s start whole) (go next more rest)) →
    IsOnly (IsShortValue s start whole) (cond b (go (mode_after m p) (value ++ gives s m p) behind) None)
value_goes_on s start whole value m text p behind go true e so_far less on =
    on (mode_after m p) (value ++ gives s m p) behind so_far (leb-true (length (value ++ gives s m p)) longest_value e) less
value_goes_on s start whole value m text p behind go false e so_far less on =
    too_long s start whole (value ++ gives s m p) (mode_after m p) behind so_far (leb-false (length (value ++ gives s m p)) longest_value e)

value_past_only : (s : Scope) (start : Mode) (whole value : List ℕ) (m : Mode) (text : List ℕ) (go : Mode → List ℕ → List ℕ → Found) (o : Option (Piece × List ℕ)) →
    piece_at m text ≡ o → Continues s start whole value m text → length value ≤ longest_value →
    ((next : Mode) (more rest : List ℕ) → Continues s start whole more next rest → length more ≤ longest_value → length rest < length text → IsOnly (IsShortValue s start whole) (go next more rest)) →
    IsOnly (IsShortValue s start whole) (value_past s m value text go o)
unfolding value_past
value_past_only s start whole value m text go None e so_far short on = value_ends s start whole value m text (not m.quoted && ends_item text) refl so_far short e
value_past_only s start whole value m text go (Some found) e so_far short on =
    value_goes_on s start whole value m text found.0 found.1 go (is_short (value ++ gives s m found.0)) refl
    (continues_step s start whole value m text found.0 found.1 so_far e) (piece_shortens m text found.0 found.1 e) on

value_only : (s : Scope) (start : Mode) (whole : List ℕ) (n : ℕ) (m : Mode) (value text : List ℕ) →
    Continues s start whole value m text → length value ≤ longest_value → length text < n → IsOnly (IsShortValue s start whole) (value_from s n m value text)
unfolding value_from
value_only s start whole zero m value text so_far short less = absurd (omega arith)
value_only s start whole (suc n) m value text so_far short less =
    value_past_only s start whole value m text (value_from s n) (piece_at m text) refl so_far short
    (λ next more rest on few fewer. value_only s start whole n next more rest on few (omega arith))

-- the value at the front, and no other
value_at_front : (s : Scope) (start : Mode) (text : List ℕ) → IsOnly (IsShortValue s start text) (value_from s (length text + 1) start [] text)
value_at_front s start text = value_only s start text (length text + 1) start [] text (continues_start s start text) (omega arith) (omega arith)

made_only : (s : Scope) (text : List ℕ) (r : Reference) (rest behind : List ℕ) (found : Found) → reference_at text ≡ Some (r, rest) → byte_at equals_sign rest ≡ Some behind →
    IsOnly (IsShortValue s (at_start (is_command r.name)) behind) found → IsOnly (AssignmentAt s text) (made_from r found)
made_only s text r rest behind None named equals none = no_value s text r rest behind named equals none
made_only s text r rest behind (Some v) named equals only = the_assignment s text r rest behind v.0 v.1 named equals only

assignment_from_only : (s : Scope) (text : List ℕ) (r : Reference) (rest : List ℕ) (o : Option (List ℕ)) → reference_at text ≡ Some (r, rest) → byte_at equals_sign rest ≡ o →
    IsOnly (AssignmentAt s text) (assignment_from s r o)
assignment_from_only s text r rest None named equals = no_equals s text r rest named equals
assignment_from_only s text r rest (Some behind) named equals =
    made_only s text r rest behind (value_from s (length behind + 1) (at_start (is_command r.name)) [] behind) named equals (value_at_front s (at_start (is_command r.name)) behind)

assignment_past_only : (s : Scope) (text : List ℕ) (o : Option (Reference × List ℕ)) → reference_at text ≡ o → IsOnly (AssignmentAt s text) (assignment_past s o)
assignment_past_only s text None e = no_name s text e
assignment_past_only s text (Some found) e = assignment_from_only s text found.0 found.1 (byte_at equals_sign found.1) e refl

assignment_only : (s : Scope) (text : List ℕ) → IsOnly (AssignmentAt s text) (assignment_at s text)
unfolding assignment_at
assignment_only s text = assignment_past_only s text (reference_at text) refl

set_only : (s : Scope) (position : LinePosition) (text : List ℕ) (found : Option (Assignment × List ℕ)) → plain_at position text ≡ None → may_set position.last position.spaced ≡ true →
    IsOnly (AssignmentAt s text) found → IsOnly (IsStep s position text) (set_step found)
set_only s position text None plain may none = λ y h. let sets = step_sets s position text plain y h in none (sets.made, y.rest) sets.read
set_only s position text (Some a) plain may only = the_set s position text a.0 a.1 plain may only

may_only : (s : Scope) (position : LinePosition) (text : List ℕ) (b : Bool) → plain_at position text ≡ None → may_set position.last position.spaced ≡ b →
    IsOnly (IsStep s position text) (cond b (set_step (assignment_at s text)) None)
may_only s position text true plain e = set_only s position text (assignment_at s text) plain e (assignment_only s text)
may_only s position text false plain e = λ y h. let stands = (step_sets s position text plain y h).stands in absurd (cc)

step_past_only : (s : Scope) (position : LinePosition) (text : List ℕ) (o : Option (LinePosition × List ℕ)) → plain_at position text ≡ o → IsOnly (IsStep s position text) (step_past s position text o)
step_past_only s position text None e = may_only s position text (may_set position.last position.spaced) e refl
step_past_only s position text (Some found) e = the_plain s position text found.0 found.1 e

step_only : (s : Scope) (position : LinePosition) (text : List ℕ) → IsOnly (IsStep s position text) (step_at s position text)
unfolding step_at
step_only s position text = step_past_only s position text (plain_at position text) refl

token_has_bytes : (t : Token) → 0 < length (spell_token t)
token_has_bytes (Blank b) = omega arith
token_has_bytes Semicolon = omega arith
token_has_bytes LineEnd = omega arith
token_has_bytes (Comment text) = omega arith
token_has_bytes (Set i) = omega (arith, length-append (spell_reference i.target) (equals_sign ∷ spell_pieces i.pieces))

step_shortens : (s : Scope) (position : LinePosition) (text : List ℕ) (step : Step) → IsStep s position text step → length step.rest < length text
step_shortens s position text step h =
    let n : length text ≡ length (spell_token h.token) + length step.rest = ap length h.spelled ∙ length-append (spell_token h.token) step.rest in
    omega (arith, token_has_bytes h.token)

bad_behind : (g : Given) (text rest : List ℕ) (b : ℕ) → IsFurthest g text (b ∷ rest) → IsBadLine g text (line_number text (b ∷ rest))
bad_behind g text rest b furthest = record { rest = b ∷ rest; furthest = furthest; unread = λ e. cc; line_is = refl }

said_goes_on : (g : Given) (text : List ℕ) (earlier : List Assignment) (position : LinePosition) (b : ℕ) (rest : List ℕ) (go : List Assignment → LinePosition → List ℕ → Said) (step : Step) (sound : Bool) →
    nat_le (length text) (sound_len text + length step.rest) ≡ sound → SoFar g text earlier position (b ∷ rest) → IsOnly (IsStep (scope g earlier) position (b ∷ rest)) (Some step) →
    ((all : List Assignment) (next : LinePosition) (left : List ℕ) → SoFar g text all next left → length left < length (b ∷ rest) → Means g text (go all next left)) →
    Means g text (cond sound (go (earlier ++ step.assigned) step.position step.rest) (Err (line_number text (b ∷ rest))))
said_goes_on g text earlier position b rest go step true e so_far only on =
    on (earlier ++ step.assigned) step.position step.rest (so_far_step g text earlier position (b ∷ rest) step so_far only (leb-true (length text) (sound_len text + length step.rest) e))
    (step_shortens (scope g earlier) position (b ∷ rest) step only.0)
said_goes_on g text earlier position b rest go step false e so_far only on =
    bad_behind g text rest b (broken g text earlier position (b ∷ rest) step so_far only (leb-false (length text) (sound_len text + length step.rest) e))

said_past_means : (g : Given) (text : List ℕ) (earlier : List Assignment) (position : LinePosition) (b : ℕ) (rest : List ℕ) (go : List Assignment → LinePosition → List ℕ → Said) (o : Option Step) →
    SoFar g text earlier position (b ∷ rest) → IsOnly (IsStep (scope g earlier) position (b ∷ rest)) o →
    ((all : List Assignment) (next : LinePosition) (left : List ℕ) → SoFar g text all next left → length left < length (b ∷ rest) → Means g text (go all next left)) →
    Means g text (said_past text earlier (b ∷ rest) go o)
unfolding said_past
said_past_means g text earlier position b rest go None so_far none on = bad_behind g text rest b (stuck g text earlier position (b ∷ rest) so_far none)
said_past_means g text earlier position b rest go (Some step) so_far only on =
    said_goes_on g text earlier position b rest go step (nat_le (length text) (sound_len text + length step.rest)) refl so_far only on

said_means : (g : Given) (text : List ℕ) (n : ℕ) (earlier : List Assignment) (position : LinePosition) (rest : List ℕ) → SoFar g text earlier position rest → length rest ≤ n →
    Means g text (said_from g text n earlier position rest)
unfolding said_from
said_means g text n earlier position [] so_far le = good g text earlier position [] so_far refl
said_means g text zero earlier position (b ∷ rest) so_far le = absurd (omega arith)
said_means g text (suc n) earlier position (b ∷ rest) so_far le =
    said_past_means g text earlier position b rest (said_from g text n) (step_at (scope g earlier) position (b ∷ rest)) so_far (step_only (scope g earlier) position (b ∷ rest))
    (λ all next left on fewer. said_means g text n all next left on (omega arith))

-- what is computed is what the grammar says
pub meaning : (g : Given) (text : List ℕ) → Means g text (meaning_of g text)
unfolding meaning_of
meaning g text = said_means g text (length text) [] line_start text (so_far_start g text) (omega arith)

same_said : (g : Given) (text : List ℕ) (said other : Said) → Means g text said → Means g text other → said ≡ other
same_said g text (Ok a) (Ok b) h k = ap Ok (one_list g text a b h k)
same_said g text (Ok a) (Err line) h k = absurd (good_or_bad g text a line h k)
same_said g text (Err line) (Ok a) h k = absurd (good_or_bad g text a line k h)
same_said g text (Err line) (Err other) h k = ap Err (one_line g text line other h k)

-- and there is nothing else that the grammar says
pub is_meaning : (g : Given) (text : List ℕ) (said : Said) → Means g text said → meaning_of g text ≡ said
is_meaning g text said h = same_said g text (meaning_of g text) said (meaning g text) h
