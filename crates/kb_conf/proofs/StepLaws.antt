-- One item of a line is read at the front of a text, and no other.
use Rattle.std.proofs.Common.{◌≡◌, ℕ, Bool, true, false, not, ◌&&◌, eqb, List, [], ◌∷◌, ◌++◌, length, take, drop, refl, sym, ap, ◌∙◌, subst, arith, Option, Some, None, append_assoc, inl, inr, ◌⊎◌}
use Rattle.std.specs.List.{prefix_len}
use Rattle.std.proofs.lemmas.Bool.Decides.{nat_tests}
use Rattle.std.proofs.lemmas.Bool.{eqb-true, and_parts, and_from, not-true, not-false}
use Rattle.std.proofs.lemmas.List.{drop_at, take-append-drop}
use Rattle.std.proofs.lemmas.Option.{none-some, some_pair_parts, same_Some}
use Rattle.kb_conf.specs.Signs.{line_feed, hash_sign, semicolon, equals_sign}
use Rattle.kb_conf.specs.declared.line_position.LinePosition.{LinePosition}
use Rattle.kb_conf.specs.Bytes.{is_blank, starts_name}
use Rattle.kb_conf.specs.Name.{is_variable_name, is_number, is_reference, subscript, spell_reference}
use Rattle.kb_conf.specs.Piece.{lacks}
use Rattle.kb_conf.specs.LinePosition.{may_set, may_part, after_assignment}
use Rattle.kb_conf.specs.Front.{plain_at}
use Rattle.kb_conf.specs.Assignment.{Assignment}
use Rattle.kb_conf.specs.Value.{Scope, spell_pieces}
use Rattle.kb_conf.specs.Only.{IsOnly}
use Rattle.kb_conf.specs.Line.{AssignmentItem, Token, Blank, Semicolon, LineEnd, Comment, Set, Step, IsStep, IsAssignment, AssignmentAt, spell_token, spell_item, is_token, is_item, assigned, assigns, may_stand, position_after, ends_line}
use Rattle.kb_conf.proofs.Tools.{chosen}
use Rattle.kb_conf.proofs.SpanLaws.{stops, passes_front, stops_behind_front, length_of_front}

-- an item that assigns nothing
abbrev pub plain_step : LinePosition → List ℕ → Step
plain_step position rest = record { position = position; assigned = []; rest = rest }

name_start : (b : ℕ) → starts_name b ≡ true → (is_blank b ≡ false) × (eqb b line_feed ≡ false) × (eqb b semicolon ≡ false) × (eqb b hash_sign ≡ false)
name_start b h = (grind (arith, nat_tests), grind (arith, nat_tests), grind (arith, nat_tests), grind (arith, nat_tests))

-- where an assignment begins, no other item does
no_plain_name : (position : LinePosition) (name rest : List ℕ) → is_variable_name name ≡ true → plain_at position (name ++ rest) ≡ None
unfolding plain_at
no_plain_name position [] rest h = absurd (cc)
no_plain_name position (b ∷ bs) rest h =
    let s = name_start b (and_parts (starts_name b) _ h).0 in
    rw (s.0, s.1, s.2, s.3) refl

pub no_plain_item : (s : Scope) (position : LinePosition) (i : AssignmentItem) (after : List ℕ) → is_item s i after ≡ true → plain_at position (spell_item i ++ after) ≡ None
no_plain_item s position i after h =
    let named = (and_parts (is_reference i.target) _ h).0 in
    let tail = equals_sign ∷ spell_pieces i.pieces in
    ap (plain_at position) (append_assoc (spell_reference i.target) tail after ∙ append_assoc i.target.name (subscript i.target.number) (tail ++ after))
    ∙ no_plain_name position i.target.name (subscript i.target.number ++ (tail ++ after)) (and_parts (is_variable_name i.target.name) (is_number i.target.number) named).0

stops_line : (after : List ℕ) → ends_line after ≡ true → stops (λ c. not (eqb c line_feed)) after ≡ true
stops_line [] h = refl
stops_line (b ∷ bs) h = rw h refl

ends_stopped : (after : List ℕ) → stops (λ c. not (eqb c line_feed)) after ≡ true → ends_line after ≡ true
ends_stopped [] h = refl
ends_stopped (b ∷ bs) h = not-false (eqb b line_feed) (not-true (not (eqb b line_feed)) h)

-- each item that isn't an assignment is found as it is spelled
pub plain_again : (s : Scope) (position : LinePosition) (t : Token) (after : List ℕ) → may_stand position t ≡ true → is_token s t after ≡ true → (plain_at position (spell_token t ++ after) ≡ Some (position_after position t, after)) × (assigns s t ≡ []) ⊎ ((i : AssignmentItem) × (t ≡ Set i))
unfolding plain_at
plain_again s position (Blank b) after stands whole = inl (rw whole refl, refl)
plain_again s position Semicolon after stands whole = inl (rw stands refl, refl)
plain_again s position LineEnd after stands whole = inl (refl, refl)
plain_again s position (Comment text) after stands whole =
    let parts = and_parts (lacks line_feed text) (ends_line after) whole in
    let n : prefix_len (λ c. not (eqb c line_feed)) (text ++ after) ≡ length text = length_of_front (λ c. not (eqb c line_feed)) text after parts.0 (stops_line after parts.1) in
    inl (rw (stands, n, drop_at text after (length text) refl) refl, refl)
plain_again s position (Set i) after stands whole = inr (i, refl)

moved_step : (s : Scope) (position : LinePosition) (text : List ℕ) (here next : LinePosition) (behind rest : List ℕ) → ◌≡◌ {A = Option (LinePosition × List ℕ)} (Some (here, behind)) (Some (next, rest)) → IsStep s position text (plain_step here behind) → IsStep s position text (plain_step next rest)
moved_step s position text here next behind rest e h =
    subst (λ (x : LinePosition × List ℕ). IsStep s position text (plain_step x.0 x.1)) (same_Some {A = LinePosition × List ℕ} (here, behind) (next, rest) e) h

head_is : (a b : ℕ) (bs : List ℕ) → eqb a b ≡ true → a ∷ bs ≡ b ∷ bs
head_is a b bs h = ap (λ x. x ∷ bs) (eqb-true a b h)

pub plain_found : (s : Scope) (position : LinePosition) (text : List ℕ) (next : LinePosition) (rest : List ℕ) → plain_at position text ≡ Some (next, rest) → IsStep s position text (plain_step next rest)
unfolding plain_at
plain_found s position [] next rest e = absurd (none-some (next, rest) e)
plain_found s position (b ∷ bs) next rest e =
    elim (chosen (is_blank b) _ _ (Some (next, rest)) e) [
      | inl blank ↦
          moved_step s position _ _ next _ rest blank.1 (record { token = Blank b; spelled = refl; stands = refl; whole = blank.0; next_position = refl; assignments = refl })
      | inr no_blank ↦ elim (chosen (eqb b line_feed) _ _ (Some (next, rest)) no_blank.1) [
        | inl line_end ↦
            moved_step s position _ _ next _ rest line_end.1 (record { token = LineEnd; spelled = head_is b line_feed bs line_end.0; stands = refl; whole = refl; next_position = refl; assignments = refl })
        | inr no_line_end ↦ elim (chosen (eqb b semicolon && may_part position.last) _ _ (Some (next, rest)) no_line_end.1) [
          | inl cut ↦
              let parts = and_parts (eqb b semicolon) (may_part position.last) cut.0 in
              moved_step s position _ _ next _ rest cut.1 (record { token = Semicolon; spelled = head_is b semicolon bs parts.0; stands = parts.1; whole = refl; next_position = refl; assignments = refl })
          | inr no_semicolon ↦ elim (chosen (eqb b hash_sign && position.spaced) _ _ (Some (next, rest)) no_semicolon.1) [
            | inl comment ↦
                let parts = and_parts (eqb b hash_sign) position.spaced comment.0 in
                let p : ℕ → Bool = λ c. not (eqb c line_feed) in
                let n = prefix_len p bs in
                moved_step s position _ _ next _ rest comment.1 (record {
                  token = Comment (take n bs);
                  spelled = head_is b hash_sign bs parts.0 ∙ ap (λ x. hash_sign ∷ x) (sym (take-append-drop n bs));
                  stands = parts.1;
                  whole = and_from (lacks line_feed (take n bs)) (ends_line (drop n bs)) (passes_front p bs) (ends_stopped (drop n bs) (stops_behind_front p bs));
                  next_position = refl;
                  assignments = refl;
                })
            | inr other ↦ absurd (none-some (next, rest) other.1)
          ]
        ]
      ]
    ]

abbrev pub step_of : LinePosition → List Assignment → List ℕ → Step
step_of position assigned rest = record { position = position; assigned = assigned; rest = rest }

same_step : (a : Step) (position : LinePosition) (assigned : List Assignment) (rest : List ℕ) → a.position ≡ position → a.assigned ≡ assigned → a.rest ≡ rest → a ≡ record { position = position; assigned = assigned; rest = rest }
same_step a position assigned rest e f g =
    ap (λ (p : LinePosition). step_of p a.assigned a.rest) e ∙ ap (λ (x : List Assignment). step_of position x a.rest) f ∙ ap (λ (x : List ℕ). step_of position assigned x) g

-- where another item was found, it is the only one
pub the_plain : (s : Scope) (position : LinePosition) (text : List ℕ) (next : LinePosition) (rest : List ℕ) → plain_at position text ≡ Some (next, rest) → IsOnly (IsStep s position text) (Some (plain_step next rest))
the_plain s position text next rest e = (
  plain_found s position text next rest e,
  λ y h.
      elim (plain_again s position h.token y.rest h.stands h.whole) [
        | inl again ↦
            let pair = some_pair_parts (position_after position h.token) next y.rest rest (sym again.0 ∙ ap (plain_at position) (sym h.spelled) ∙ e) in
            same_step y next [] rest (h.next_position ∙ pair.0) (h.assignments ∙ again.1) pair.1
        | inr set ↦ absurd (none-some (next, rest) (sym (ap (plain_at position) (h.spelled ∙ ap (λ t. spell_token t ++ y.rest) set.1) ∙ no_plain_item s position set.0 y.rest (ap (λ t. is_token s t y.rest) (sym set.1) ∙ h.whole)) ∙ e))
      ],
)

-- where no other item was found, an assignment is the only one that may stand
pub record Sets (s : Scope) (position : LinePosition) (text : List ℕ) (y : Step) : Type 0 where
  pub stands : may_set position.last position.spaced ≡ true
  pub made : Assignment
  pub read : IsAssignment s text made y.rest
  pub step : y ≡ step_of after_assignment (made ∷ []) y.rest

pub step_sets : (s : Scope) (position : LinePosition) (text : List ℕ) → plain_at position text ≡ None → (y : Step) → IsStep s position text y → Sets s position text y
step_sets s position text none y h =
    elim (plain_again s position h.token y.rest h.stands h.whole) [
      | inl again ↦
          absurd (none-some (position_after position h.token, y.rest) (sym none ∙ ap (plain_at position) h.spelled ∙ again.0))
      | inr set ↦ record {
        stands = ap (may_stand position) (sym set.1) ∙ h.stands;
        made = assigned s set.0;
        read = record {
          item = set.0;
          spelled = h.spelled ∙ ap (λ t. spell_token t ++ y.rest) set.1;
          whole = ap (λ t. is_token s t y.rest) (sym set.1) ∙ h.whole;
          made = refl;
        };
        step = same_step y after_assignment (assigned s set.0 ∷ []) y.rest (h.next_position ∙ ap (position_after position) set.1) (h.assignments ∙ ap (assigns s) set.1) refl;
      }
    ]

pub the_set : (s : Scope) (position : LinePosition) (text : List ℕ) (a : Assignment) (rest : List ℕ) → plain_at position text ≡ None → may_set position.last position.spaced ≡ true → IsOnly (AssignmentAt s text) (Some (a, rest)) → IsOnly (IsStep s position text) (Some (step_of after_assignment (a ∷ []) rest))
the_set s position text a rest none stands only = (
  record {
    token = Set only.0.item;
    spelled = only.0.spelled;
    stands = stands;
    whole = only.0.whole;
    next_position = refl;
    assignments = ap (λ (x : Assignment). x ∷ []) only.0.made;
  },
  λ y h.
      let found = step_sets s position text none y h in
      let same = only.1 (found.made, y.rest) found.read in
      found.step ∙ ap (λ (x : Assignment × List ℕ). step_of after_assignment (x.0 ∷ []) x.1) same,
)
