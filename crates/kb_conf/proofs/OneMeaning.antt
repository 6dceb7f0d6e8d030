-- A text is cut in one way.
use Rattle.std.proofs.Common.{◌≡◌, ℕ, ◌+◌, ◌-◌, ◌<◌, ◌≤◌, true, not, ◌&&◌, List, [], ◌∷◌, ◌++◌, length, refl, sym, ap, ◌∙◌, subst, arith, Option, Some, None, append_assoc, take, eqb}
use Rattle.std.specs.Prelude.{count_by}
use Rattle.std.proofs.lemmas.Bool.{and_parts, not-true}
use Rattle.std.proofs.lemmas.List.{length-append}
use Rattle.std.proofs.lemmas.Option.{some_pair_parts}
use Rattle.kb_conf.specs.declared.line_position.LinePosition.{LinePosition}
use Rattle.kb_conf.specs.Signs.{equals_sign, line_feed}
use Rattle.kb_conf.specs.Assignment.{Assignment, Given}
use Rattle.kb_conf.specs.Name.{Reference, spell_reference}
use Rattle.kb_conf.specs.Piece.{Piece, Mode, spell, fits_here, mode_after}
use Rattle.kb_conf.specs.LinePosition.{line_start, after_assignment}
use Rattle.kb_conf.specs.Front.{piece_at, plain_at}
use Rattle.kb_conf.specs.Value.{Scope, ReadsValue, gives, spell_pieces, are_value, give_all, ends_item}
use Rattle.kb_conf.specs.Line.{Token, Blank, Semicolon, LineEnd, Comment, Set, Step, IsStep, IsAssignment, spell_token, spell_tokens, is_token, may_stand, position_after, assigns, are_lines, assign_all}
use Rattle.kb_conf.specs.Value.{scope}
use Rattle.kb_conf.specs.Reading.{IsGood, IsBadLine}
use Rattle.kb_conf.proofs.PieceLaws.{piece_again}
use Rattle.kb_conf.proofs.ValueLaws.{behind_piece, at_end, no_piece_at_end}
use Rattle.kb_conf.proofs.AssignmentLaws.{value_mode, made_of, parts_of}
use Rattle.kb_conf.proofs.StepLaws.{step_of, the_plain, step_sets}

-- two values of one text are one
pub record SameValue (v w a b : List ℕ) : Type 0 where
  pub value : v ≡ w
  pub after : a ≡ b

pub one_value : (s : Scope) (m : Mode) (text v w a b : List ℕ) → ReadsValue s m text v a → ReadsValue s m text w b → SameValue v w a b
one_value s m text v w a b r q = by_pieces r.pieces m text v w r.spelled r.fitting r.given q
  where
    by_pieces : (ps : List Piece) (m : Mode) (text v w : List ℕ) → text ≡ spell_pieces ps ++ a → are_value m ps a ≡ true → v ≡ give_all s m ps → ReadsValue s m text w b → SameValue v w a b
    by_pieces [] m text v w spelled fitting given q =
        let parts = and_parts (not m.quoted) (ends_item a) fitting in
        let none = ap (piece_at m) spelled ∙ no_piece_at_end m a (not-true m.quoted parts.0) parts.1 in
        let ended = at_end s m text w b none q in
        record { value = given ∙ sym ended.empty; after = sym spelled ∙ sym ended.here }
    by_pieces (p ∷ ps) m text v w spelled fitting given q =
        let parts = and_parts (fits_here m p (spell_pieces ps ++ a)) (are_value (mode_after m p) ps a) fitting in
        let found = ap (piece_at m) (spelled ∙ append_assoc (spell p) (spell_pieces ps) a) ∙ piece_again m p (spell_pieces ps ++ a) parts.0 in
        let left = behind_piece s m text p (spell_pieces ps ++ a) w b found q in
        let rest = by_pieces ps (mode_after m p) (spell_pieces ps ++ a) (give_all s (mode_after m p) ps) left.tail refl parts.1 refl left.read in
        record { value = given ∙ ap (λ x. gives s m p ++ x) rest.value ∙ sym left.whole; after = rest.after }

same_pair : {A B : Type 0} (a b : A) (x y : B) → a ≡ b → x ≡ y → ◌≡◌ {A = A × B} (a, x) (b, y)
same_pair a b x y e h = rw (e, h) refl

pub one_assignment : (s : Scope) (text : List ℕ) (a b : Assignment) (after behind : List ℕ) → IsAssignment s text a after → IsAssignment s text b behind → ◌≡◌ {A = Assignment × List ℕ} (a, after) (b, behind)
one_assignment s text a b after behind h k =
    let p = parts_of s text a after h in
    let q = parts_of s text b behind k in
    let pair = some_pair_parts p.target q.target (equals_sign ∷ p.behind) (equals_sign ∷ q.behind) (sym p.named ∙ q.named) in
    let same_behind : p.behind ≡ q.behind = let tail = pair.1 in cc in
    let moved = subst (λ (x : List ℕ). ReadsValue s (value_mode q.target) x p.value after) same_behind (subst (λ (x : Reference). ReadsValue s (value_mode x) p.behind p.value after) pair.0 p.short.0) in
    let same = one_value s (value_mode q.target) q.behind p.value q.value after behind moved q.short.0 in
    same_pair a b after behind (p.made ∙ ap (λ (x : Reference). made_of x p.value) pair.0 ∙ ap (made_of q.target) same.value ∙ sym q.made) same.after

pub one_step : (s : Scope) (position : LinePosition) (text : List ℕ) (y z : Step) → IsStep s position text y → IsStep s position text z → y ≡ z
one_step s position text y z h k = by_plain (plain_at position text) refl
  where
    by_plain : (o : Option (LinePosition × List ℕ)) → plain_at position text ≡ o → y ≡ z
    by_plain (Some (next, rest)) e = let only = the_plain s position text next rest e in only.1 y h ∙ sym (only.1 z k)
    by_plain None e =
        let a = step_sets s position text e y h in
        let b = step_sets s position text e z k in
        let same = one_assignment s text a.made b.made y.rest z.rest a.read b.read in
        a.step ∙ ap (λ (x : Assignment × List ℕ). step_of after_assignment (x.0 ∷ []) x.1) same ∙ sym b.step

spelled_out : (t : Token) → 0 < length (spell_token t)
spelled_out (Blank b) = omega arith
spelled_out Semicolon = omega arith
spelled_out LineEnd = omega arith
spelled_out (Comment text) = omega arith
spelled_out (Set i) = omega (arith, length-append (spell_reference i.target) (equals_sign ∷ spell_pieces i.pieces))

something : (t : Token) (ts : List Token) → [] ≡ spell_tokens (t ∷ ts) ++ [] → ⊥
something t ts e =
    let n : 0 ≡ length (spell_tokens (t ∷ ts)) + 0 = ap length e ∙ length-append (spell_tokens (t ∷ ts)) [] in
    let m : length (spell_tokens (t ∷ ts)) ≡ length (spell_token t) + length (spell_tokens ts) = length-append (spell_token t) (spell_tokens ts) in
    let out = spelled_out t in
    omega arith

first_step : (g : Given) (earlier : List Assignment) (position : LinePosition) (text : List ℕ) (t : Token) (ts : List Token) → text ≡ spell_tokens (t ∷ ts) ++ [] → (may_stand position t && is_token (scope g earlier) t (spell_tokens ts ++ [])) ≡ true → IsStep (scope g earlier) position text (step_of (position_after position t) (assigns (scope g earlier) t) (spell_tokens ts ++ []))
first_step g earlier position text t ts spelled first =
    let parts = and_parts (may_stand position t) (is_token (scope g earlier) t (spell_tokens ts ++ [])) first in
    record { token = t; spelled = spelled ∙ append_assoc (spell_token t) (spell_tokens ts) []; stands = parts.0; whole = parts.1; next_position = refl; assignments = refl }

same_list : (g : Given) (ts us : List Token) (earlier : List Assignment) (position : LinePosition) → spell_tokens ts ++ [] ≡ spell_tokens us ++ [] → are_lines g earlier position ts [] ≡ true → are_lines g earlier position us [] ≡ true → assign_all g earlier ts ≡ assign_all g earlier us
same_list g [] [] earlier position same a b = refl
same_list g [] (u ∷ us) earlier position same a b = absurd (something u us same)
same_list g (t ∷ ts) [] earlier position same a b = absurd (something t ts (sym same))
same_list g (t ∷ ts) (u ∷ us) earlier position same a b =
    let s = scope g earlier in
    let left = and_parts (may_stand position t && is_token s t (spell_tokens ts ++ [])) (are_lines g (earlier ++ assigns s t) (position_after position t) ts []) a in
    let right = and_parts (may_stand position u && is_token s u (spell_tokens us ++ [])) (are_lines g (earlier ++ assigns s u) (position_after position u) us []) b in
    let text = spell_tokens (t ∷ ts) ++ [] in
    let one = one_step s position text _ _ (first_step g earlier position text t ts refl left.0) (first_step g earlier position text u us same right.0) in
    let rest : spell_tokens ts ++ [] ≡ spell_tokens us ++ [] = ap (λ (x : Step). x.rest) one in
    let made : assigns s u ≡ assigns s t = sym (ap (λ (x : Step). x.assigned) one) in
    let there : position_after position u ≡ position_after position t = sym (ap (λ (x : Step). x.position) one) in
    let lines : are_lines g (earlier ++ assigns s t) (position_after position t) us [] ≡ true =
    ap (λ (x : List Assignment). are_lines g (earlier ++ x) (position_after position t) us []) (sym made) ∙ ap (λ (x : LinePosition). are_lines g (earlier ++ assigns s u) x us []) (sym there) ∙ right.1 in
    same_list g ts us (earlier ++ assigns s t) (position_after position t) rest left.1 lines ∙ ap (λ (x : List Assignment). assign_all g (earlier ++ x) us) (sym made)

pub one_list : (g : Given) (text : List ℕ) (first second : List Assignment) → IsGood g text first → IsGood g text second → first ≡ second
one_list g text first second r q = r.made ∙ same_list g r.tokens q.tokens [] line_start (sym r.spelled ∙ q.spelled) r.lines q.lines ∙ sym q.made

pub good_or_bad : (g : Given) (text : List ℕ) (assignments : List Assignment) (line : ℕ) → IsGood g text assignments → IsBadLine g text line → ⊥
good_or_bad g text assignments line r b = b.unread (empty b.rest (b.furthest.least assignments [] r))
  where
    empty : (xs : List ℕ) → length xs ≤ 0 → xs ≡ []
    empty [] h = refl
    empty (x ∷ xs) h = absurd (omega arith)

pub one_line : (g : Given) (text : List ℕ) (first second : ℕ) → IsBadLine g text first → IsBadLine g text second → first ≡ second
one_line g text first second a b =
    let x = a.furthest.least b.furthest.assignments b.rest b.furthest.reading in
    let y = b.furthest.least a.furthest.assignments a.rest a.furthest.reading in
    let same : length a.rest ≡ length b.rest = omega arith in
    a.line_is ∙ ap (λ n. 1 + count_by (λ c. eqb c line_feed) (take (length text - n) text)) same ∙ sym b.line_is
