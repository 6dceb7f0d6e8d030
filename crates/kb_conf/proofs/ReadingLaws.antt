-- A text is read item by item, as far as the grammar goes.
use Rattle.std.proofs.Common.{◌≡◌, ℕ, ◌+◌, ◌<◌, ◌≤◌, true, false, List, [], ◌∷◌, ◌++◌, length, refl, sym, ap, ◌∙◌, subst, arith, Some, append_assoc, inl, inr, ◌⊎◌, eqb, suc}
use Rattle.std.proofs.lemmas.Bool.{and_parts, and_from, eqb-true, eqb-false}
use Rattle.std.proofs.lemmas.List.{length-append}
use Rattle.kb_conf.specs.declared.line_position.LinePosition.{LinePosition}
use Rattle.kb_conf.specs.Assignment.{Assignment, Given}
use Rattle.kb_conf.specs.LinePosition.{line_start}
use Rattle.kb_conf.specs.Only.{IsOnly}
use Rattle.kb_conf.specs.Line.{Token, Step, IsStep, spell_token, spell_tokens, is_token, may_stand, position_after, assigns, are_lines, assign_all}
use Rattle.kb_conf.specs.Value.{scope}
use Rattle.kb_conf.specs.Reading.{IsTextReading, IsGood, IsFurthest, IsBadLine, sound_len, line_number}
use Rattle.kb_conf.specs.Refusal.{AtBadLine}
use Rattle.kb_conf.specs.declared.reading.ReadError.{ReadError}
use Rattle.kb_conf.specs.declared.reading.ReadError.TheVariants.{BadLine}

-- a reading of what is left of a text, behind the assignments so far
pub record Reads (g : Given) (earlier : List Assignment) (position : LinePosition) (text : List ℕ) (all : List Assignment) (rest : List ℕ) : Type 0 where
  pub tokens : List Token
  pub spelled : text ≡ spell_tokens tokens ++ rest
  pub lines : are_lines g earlier position tokens rest ≡ true
  pub made : all ≡ assign_all g earlier tokens

pub stop : (g : Given) (earlier : List Assignment) (position : LinePosition) (text : List ℕ) → Reads g earlier position text earlier text
stop g earlier position text = record { tokens = []; spelled = refl; lines = refl; made = refl }

pub with_step : (g : Given) (earlier : List Assignment) (position : LinePosition) (text : List ℕ) (step : Step) (all : List Assignment) (rest : List ℕ) → IsStep (scope g earlier) position text step → Reads g (earlier ++ step.assigned) step.position step.rest all rest → Reads g earlier position text all rest
with_step g earlier position text step all rest s r =
    let t = s.token in
    let here = spell_tokens r.tokens ++ rest in
    record {
      tokens = t ∷ r.tokens;
      spelled = s.spelled ∙ ap (λ x. spell_token t ++ x) r.spelled ∙ sym (append_assoc (spell_token t) (spell_tokens r.tokens) rest);
      lines = and_from _ _
          (and_from (may_stand position t) (is_token (scope g earlier) t here) s.stands (ap (is_token (scope g earlier) t) (sym r.spelled) ∙ s.whole))
          (ap (λ (x : List Assignment). are_lines g (earlier ++ x) (position_after position t) r.tokens rest) (sym s.assignments) ∙ ap (λ (x : LinePosition). are_lines g (earlier ++ step.assigned) x r.tokens rest) (sym s.next_position) ∙ r.lines);
      made = r.made ∙ ap (λ (x : List Assignment). assign_all g (earlier ++ x) r.tokens) s.assignments;
    }

-- a reading stops here or takes the one step that there is
pub behind_step : (g : Given) (earlier : List Assignment) (position : LinePosition) (text : List ℕ) (step : Step) (all : List Assignment) (rest : List ℕ) → IsOnly (IsStep (scope g earlier) position text) (Some step) → Reads g earlier position text all rest → (rest ≡ text) ⊎ Reads g (earlier ++ step.assigned) step.position step.rest all rest
behind_step g earlier position text step all rest only r = by_tokens r.tokens r.spelled r.lines r.made
  where
    by_tokens : (ts : List Token) → text ≡ spell_tokens ts ++ rest → are_lines g earlier position ts rest ≡ true → all ≡ assign_all g earlier ts → (rest ≡ text) ⊎ Reads g (earlier ++ step.assigned) step.position step.rest all rest
    by_tokens [] spelled lines made = inl (sym spelled)
    by_tokens (t ∷ ts) spelled lines made =
        let both = and_parts _ (are_lines g (earlier ++ assigns (scope g earlier) t) (position_after position t) ts rest) lines in
        let first = and_parts (may_stand position t) (is_token (scope g earlier) t (spell_tokens ts ++ rest)) both.0 in
        let taken : Step = record { position = position_after position t; assigned = assigns (scope g earlier) t; rest = spell_tokens ts ++ rest } in
        let same : taken ≡ step = only.1 taken (record { token = t; spelled = spelled ∙ append_assoc (spell_token t) (spell_tokens ts) rest; stands = first.0; whole = first.1; next_position = refl; assignments = refl }) in
        inr (subst (λ (x : Step). Reads g (earlier ++ x.assigned) x.position x.rest all rest) same (record { tokens = ts; spelled = refl; lines = both.1; made = made }))

-- where there is no step, a reading stops
pub no_step : (g : Given) (earlier : List Assignment) (position : LinePosition) (text : List ℕ) (all : List Assignment) (rest : List ℕ) → ((y : Step) → IsStep (scope g earlier) position text y → ⊥) → Reads g earlier position text all rest → rest ≡ text
no_step g earlier position text all rest none r = by_tokens r.tokens r.spelled r.lines
  where
    by_tokens : (ts : List Token) → text ≡ spell_tokens ts ++ rest → are_lines g earlier position ts rest ≡ true → rest ≡ text
    by_tokens [] spelled lines = sym spelled
    by_tokens (t ∷ ts) spelled lines =
        let both = and_parts _ (are_lines g (earlier ++ assigns (scope g earlier) t) (position_after position t) ts rest) lines in
        let first = and_parts (may_stand position t) (is_token (scope g earlier) t (spell_tokens ts ++ rest)) both.0 in
        absurd (none (record { position = position_after position t; assigned = assigns (scope g earlier) t; rest = spell_tokens ts ++ rest })
        (record { token = t; spelled = spelled ∙ append_assoc (spell_token t) (spell_tokens ts) rest; stands = first.0; whole = first.1; next_position = refl; assignments = refl }))

pub shorter : (g : Given) (earlier : List Assignment) (position : LinePosition) (text : List ℕ) (all : List Assignment) (rest : List ℕ) → Reads g earlier position text all rest → length rest ≤ length text
shorter g earlier position text all rest r = let n : length text ≡ length (spell_tokens r.tokens) + length rest = ap length r.spelled ∙ length-append (spell_tokens r.tokens) rest in omega arith

-- What was read so far: each reading of the rest goes on from it, and each reading of the whole text
-- stops before it or goes on from it.
pub record SoFar (g : Given) (text : List ℕ) (earlier : List Assignment) (position : LinePosition) (rest : List ℕ) : Type 0 where
  pub forth : (all : List Assignment) (left : List ℕ) → Reads g earlier position rest all left → Reads g [] line_start text all left
  pub back : (all : List Assignment) (left : List ℕ) → Reads g [] line_start text all left → (length rest ≤ length left) ⊎ Reads g earlier position rest all left
  pub within : length rest ≤ length text
  pub sound : length text ≤ sound_len text + length rest

pub so_far_start : (g : Given) (text : List ℕ) → SoFar g text [] line_start text
so_far_start g text = record { forth = λ all left r. r; back = λ all left r. inr r; within = omega arith; sound = omega arith }

pub so_far_step : (g : Given) (text : List ℕ) (earlier : List Assignment) (position : LinePosition) (rest : List ℕ) (step : Step) → SoFar g text earlier position rest → IsOnly (IsStep (scope g earlier) position rest) (Some step) → length text ≤ sound_len text + length step.rest → SoFar g text (earlier ++ step.assigned) step.position step.rest
so_far_step g text earlier position rest step inv only sound =
    let one = with_step g earlier position rest step (earlier ++ step.assigned) step.rest only.0 (stop g (earlier ++ step.assigned) step.position step.rest) in
    let less = shorter g earlier position rest (earlier ++ step.assigned) step.rest one in
    record {
      forth = λ all left r. inv.forth all left (with_step g earlier position rest step all left only.0 r);
      back = λ all left r. elim (inv.back all left r) [
        | inl stopped ↦ inl (omega arith)
        | inr on ↦ elim (behind_step g earlier position rest step all left only on) [ inl here ↦ inl (let n : length left ≡ length rest = ap length here in omega arith) | inr further ↦ inr further ]
      ];
      within = omega (arith, inv.within);
      sound = sound;
    }

as_reads : (g : Given) (text : List ℕ) (all : List Assignment) (left : List ℕ) → IsTextReading g text all left → Reads g [] line_start text all left
as_reads g text all left r = record { tokens = r.tokens; spelled = r.spelled; lines = r.lines; made = r.made }

reading_sound : (g : Given) (text : List ℕ) (all : List Assignment) (left : List ℕ) → IsTextReading g text all left → length text ≤ sound_len text + length left
reading_sound g text all left r =
    let n : length text ≡ length (spell_tokens r.tokens) + length left = ap length r.spelled ∙ length-append (spell_tokens r.tokens) left in
    omega (arith, r.sound)

as_reading : (g : Given) (text : List ℕ) (all : List Assignment) (left : List ℕ) → Reads g [] line_start text all left → length text ≤ sound_len text + length left → IsTextReading g text all left
as_reading g text all left r sound =
    let n : length text ≡ length (spell_tokens r.tokens) + length left = ap length r.spelled ∙ length-append (spell_tokens r.tokens) left in
    record { tokens = r.tokens; spelled = r.spelled; lines = r.lines; made = r.made; sound = omega arith }

pub good : (g : Given) (text : List ℕ) (all : List Assignment) (position : LinePosition) (rest : List ℕ) → SoFar g text all position rest → rest ≡ [] → IsGood g text all
good g text all position rest inv ended = subst (λ (x : List ℕ). IsTextReading g text all x) ended (as_reading g text all rest (inv.forth all rest (stop g all position rest)) inv.sound)

pub stuck : (g : Given) (text : List ℕ) (earlier : List Assignment) (position : LinePosition) (rest : List ℕ) → SoFar g text earlier position rest → ((y : Step) → IsStep (scope g earlier) position rest y → ⊥) → IsFurthest g text rest
stuck g text earlier position rest inv none = record {
  assignments = earlier;
  reading = as_reading g text earlier rest (inv.forth earlier rest (stop g earlier position rest)) inv.sound;
  least = λ others left r. elim (inv.back others left (as_reads g text others left r)) [
    | inl stopped ↦ stopped
    | inr on ↦ let n : length left ≡ length rest = ap length (no_step g earlier position rest others left none on) in omega arith
  ];
}

pub broken : (g : Given) (text : List ℕ) (earlier : List Assignment) (position : LinePosition) (rest : List ℕ) (step : Step) → SoFar g text earlier position rest → IsOnly (IsStep (scope g earlier) position rest) (Some step) → sound_len text + length step.rest < length text → IsFurthest g text rest
broken g text earlier position rest step inv only unsound = record {
  assignments = earlier;
  reading = as_reading g text earlier rest (inv.forth earlier rest (stop g earlier position rest)) inv.sound;
  least = λ others left r. elim (inv.back others left (as_reads g text others left r)) [
    | inl stopped ↦ stopped
    | inr on ↦ elim (behind_step g earlier position rest step others left only on) [
      | inl here ↦ (let n : length left ≡ length rest = ap length here in omega arith)
      | inr further ↦ absurd (omega (arith, shorter g (earlier ++ step.assigned) step.position step.rest others left further, reading_sound g text others left r))
    ]
  ];
}

pub bad_at : (g : Given) (text rest : List ℕ) (refusal : ReadError) → IsFurthest g text rest → eqb (length rest) 0 ≡ false → refusal ≡ BadLine (line_number text rest) → AtBadLine (IsBadLine g text) refusal
bad_at g text rest refusal furthest more e =
    subst (λ (x : ReadError). AtBadLine (IsBadLine g text) x) (sym e) (record {
      rest = rest;
      furthest = furthest;
      unread = λ none. eqb-false (length rest) 0 more (ap length none);
      line_is = refl;
    })

pub ended : (rest : List ℕ) → eqb (length rest) 0 ≡ true → rest ≡ []
ended [] h = refl
ended (b ∷ bs) h = absurd (omega (arith, eqb-true (suc (length bs)) 0 h))
