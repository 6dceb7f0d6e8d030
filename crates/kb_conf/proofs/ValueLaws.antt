-- A value is read piece by piece.
use Rattle.std.proofs.Common.{◌≡◌, ℕ, ◌+◌, ◌<◌, ◌≤◌, true, false, not, ◌&&◌, ◌||◌, eqb, List, [], ◌∷◌, ◌++◌, length, refl, sym, ap, ◌∙◌, subst, arith, Some, None, append_assoc}
use Rattle.std.proofs.lemmas.Bool.Decides.{nat_tests}
use Rattle.std.proofs.lemmas.Bool.{and_parts, and_from, not-true, leb-true, le-leb, false≢true}
use Rattle.std.proofs.lemmas.Option.{none-some, some_pair_parts}
use Rattle.std.proofs.lemmas.List.{length-append, append-nil}
use Rattle.kb_conf.specs.Bytes.{stands_for_itself, is_blank}
use Rattle.kb_conf.specs.Signs.{double_quote, backslash, dollar_sign, backquote, apostrophe, semicolon, line_feed}
use Rattle.kb_conf.specs.Piece.{Piece, Mode, spell, fits_here, mode_after}
use Rattle.kb_conf.specs.Front.{piece_at}
use Rattle.kb_conf.specs.Value.{longest_value, Scope, ReadsValue, gives, give_all, spell_pieces, are_value, ends_item, IsShortValue}
use Rattle.kb_conf.specs.Only.{IsOnly}
use Rattle.kb_conf.proofs.PieceLaws.{piece_found, piece_again}

-- a byte that ends an item begins no piece outside double quotes
record EndsItem (b : ℕ) : Type 0 where
  quote : eqb b double_quote ≡ false
  backslash : eqb b backslash ≡ false
  dollar : eqb b dollar_sign ≡ false
  backquote : eqb b backquote ≡ false
  apostrophe : eqb b apostrophe ≡ false
  bare : stands_for_itself false b ≡ false

end_byte : (b : ℕ) → (is_blank b || eqb b semicolon || eqb b line_feed) ≡ true → EndsItem b
end_byte b h = record {
  quote = grind (arith, nat_tests);
  backslash = grind (arith, nat_tests);
  dollar = grind (arith, nat_tests);
  backquote = grind (arith, nat_tests);
  apostrophe = grind (arith, nat_tests);
  bare = grind (arith, nat_tests);
}

pub no_piece_at_end : (m : Mode) (text : List ℕ) → m.quoted ≡ false → ends_item text ≡ true → piece_at m text ≡ None
unfolding piece_at
no_piece_at_end m [] outside ends = refl
no_piece_at_end m (b ∷ bs) outside ends =
    let e = end_byte b ends in
    let bare : stands_for_itself m.quoted b ≡ false = ap (λ q. stands_for_itself q b) outside ∙ e.bare in
    rw (bare, e.quote, e.backslash, e.dollar, e.backquote, e.apostrophe) refl

pub with_piece : (s : Scope) (m : Mode) (text : List ℕ) (p : Piece) (behind value after : List ℕ) → piece_at m text ≡ Some (p, behind) → ReadsValue s (mode_after m p) behind value after → ReadsValue s m text (gives s m p ++ value) after
with_piece s m text p behind value after e r =
    let here = piece_found m text p behind e in
    record {
      pieces = p ∷ r.pieces;
      spelled = here.spelling ∙ ap (λ x. spell p ++ x) r.spelled ∙ sym (append_assoc (spell p) (spell_pieces r.pieces) after);
      fitting = and_from (fits_here m p (spell_pieces r.pieces ++ after)) (are_value (mode_after m p) r.pieces after) (ap (fits_here m p) (sym r.spelled) ∙ here.fitting) r.fitting;
      given = ap (λ x. gives s m p ++ x) r.given;
    }

-- what is left of a value behind its first piece
pub record Left (s : Scope) (m : Mode) (p : Piece) (behind value after : List ℕ) : Type 0 where
  pub tail : List ℕ
  pub whole : value ≡ gives s m p ++ tail
  pub read : ReadsValue s (mode_after m p) behind tail after

pub behind_piece : (s : Scope) (m : Mode) (text : List ℕ) (p : Piece) (behind value after : List ℕ) → piece_at m text ≡ Some (p, behind) → ReadsValue s m text value after → Left s m p behind value after
behind_piece s m text p behind value after e r = by_pieces r.pieces r.spelled r.fitting r.given
  where
    by_pieces : (ps : List Piece) → text ≡ spell_pieces ps ++ after → are_value m ps after ≡ true → value ≡ give_all s m ps → Left s m p behind value after
    by_pieces [] spelled fitting given =
        let parts = and_parts (not m.quoted) (ends_item after) fitting in
        absurd (none-some (p, behind) (sym (no_piece_at_end m after (not-true m.quoted parts.0) parts.1) ∙ ap (piece_at m) (sym spelled) ∙ e))
    by_pieces (q ∷ qs) spelled fitting given =
        let parts = and_parts (fits_here m q (spell_pieces qs ++ after)) (are_value (mode_after m q) qs after) fitting in
        let again = piece_again m q (spell_pieces qs ++ after) parts.0 in
        let pair = some_pair_parts q p (spell_pieces qs ++ after) behind (sym again ∙ ap (piece_at m) (sym (append_assoc (spell q) (spell_pieces qs) after) ∙ sym spelled) ∙ e) in
        subst (λ (x : Piece). Left s m x behind value after) pair.0 (record {
          tail = give_all s (mode_after m q) qs;
          whole = given;
          read = record { pieces = qs; spelled = sym pair.1; fitting = parts.1; given = refl };
        })

-- where no piece begins, only the empty value is read, at an end
pub record Ended (m : Mode) (text value after : List ℕ) : Type 0 where
  pub empty : value ≡ []
  pub here : after ≡ text
  pub outside : m.quoted ≡ false
  pub ends : ends_item text ≡ true

pub at_end : (s : Scope) (m : Mode) (text value after : List ℕ) → piece_at m text ≡ None → ReadsValue s m text value after → Ended m text value after
at_end s m text value after none r = by_pieces r.pieces r.spelled r.fitting r.given
  where
    by_pieces : (ps : List Piece) → text ≡ spell_pieces ps ++ after → are_value m ps after ≡ true → value ≡ give_all s m ps → Ended m text value after
    by_pieces [] spelled fitting given =
        let parts = and_parts (not m.quoted) (ends_item after) fitting in
        record { empty = given; here = sym spelled; outside = not-true m.quoted parts.0; ends = ap ends_item spelled ∙ parts.1 }
    by_pieces (q ∷ qs) spelled fitting given =
        let parts = and_parts (fits_here m q (spell_pieces qs ++ after)) (are_value (mode_after m q) qs after) fitting in
        let again = piece_again m q (spell_pieces qs ++ after) parts.0 in
        absurd (none-some (q, spell_pieces qs ++ after) (sym none ∙ ap (piece_at m) (spelled ∙ append_assoc (spell q) (spell_pieces qs) after) ∙ again))

-- the value of the whole text is what was read so far and then a value of the rest, and nothing else is
pub record Continues (s : Scope) (start : Mode) (text value : List ℕ) (m : Mode) (rest : List ℕ) : Type 0 where
  pub forth : (tail after : List ℕ) → ReadsValue s m rest tail after → ReadsValue s start text (value ++ tail) after
  pub back : (whole after : List ℕ) → ReadsValue s start text whole after → (tail : List ℕ) × (whole ≡ value ++ tail) × ReadsValue s m rest tail after

pub continues_start : (s : Scope) (m : Mode) (text : List ℕ) → Continues s m text [] m text
continues_start s m text = record { forth = λ tail after r. r; back = λ whole after r. (whole, refl, r) }

pub continues_step : (s : Scope) (start : Mode) (text value : List ℕ) (m : Mode) (rest : List ℕ) (p : Piece) (behind : List ℕ) → Continues s start text value m rest → piece_at m rest ≡ Some (p, behind) → Continues s start text (value ++ gives s m p) (mode_after m p) behind
continues_step s start text value m rest p behind inv e = record {
  forth = λ tail after r. subst (λ (x : List ℕ). ReadsValue s start text x after) (sym (append_assoc value (gives s m p) tail)) (inv.forth (gives s m p ++ tail) after (with_piece s m rest p behind tail after e r));
  back = λ whole after r.
      let so_far = inv.back whole after r in
      let left = behind_piece s m rest p behind so_far.0 after e so_far.2 in
      (left.tail, so_far.1 ∙ ap (λ x. value ++ x) left.whole ∙ sym (append_assoc value (gives s m p) left.tail), left.read);
}

-- a front that is too long is that of no short value
pub too_long : (s : Scope) (start : Mode) (text value : List ℕ) (m : Mode) (rest : List ℕ) → Continues s start text value m rest → longest_value < length value → (v : List ℕ × List ℕ) → IsShortValue s start text v → ⊥
too_long s start text value m rest inv long v h =
    let so_far = inv.back v.0 v.1 h.0 in
    let short = leb-true (length v.0) longest_value h.1 in
    let whole : length v.0 ≡ length value + length so_far.0 = ap length so_far.1 ∙ length-append value so_far.0 in
    omega arith

pub value_done : (s : Scope) (start : Mode) (text value : List ℕ) (m : Mode) (rest : List ℕ) → Continues s start text value m rest → length value ≤ longest_value → piece_at m rest ≡ None → (not m.quoted && ends_item rest) ≡ true → IsOnly (IsShortValue s start text) (Some (value, rest))
value_done s start text value m rest inv short none ends = (
  (subst (λ (x : List ℕ). ReadsValue s start text x rest) (append-nil value) (inv.forth [] rest (record { pieces = []; spelled = refl; fitting = ends; given = refl })), le-leb (length value) longest_value short),
  λ y h.
      let so_far = inv.back y.0 y.1 h.0 in
      let ended = at_end s m rest so_far.0 y.1 none so_far.2 in
      let same_value : y.0 ≡ value = so_far.1 ∙ ap (λ x. value ++ x) ended.empty ∙ append-nil value in
      same_pair y.0 value y.1 rest same_value ended.here,
)
  where
    same_pair : (a b x y : List ℕ) → a ≡ b → x ≡ y → ◌≡◌ {A = List ℕ × List ℕ} (a, x) (b, y)
    same_pair a b x y e h = rw (e, h) refl

pub value_broken : (s : Scope) (start : Mode) (text value : List ℕ) (m : Mode) (rest : List ℕ) → Continues s start text value m rest → piece_at m rest ≡ None → (not m.quoted && ends_item rest) ≡ false → (v : List ℕ × List ℕ) → IsShortValue s start text v → ⊥
value_broken s start text value m rest inv none broken v h =
    let so_far = inv.back v.0 v.1 h.0 in
    let ended = at_end s m rest so_far.0 v.1 none so_far.2 in
    false≢true (sym broken ∙ and_from (not m.quoted) (ends_item rest) (ap not ended.outside) ended.ends)
