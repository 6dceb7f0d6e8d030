-- A piece is found where it is spelled and may stand, and no other piece is.
use Rattle.std.proofs.Common.{◌≡◌, ℕ, ◌+◌, ◌<◌, Bool, true, false, not, cond, eqb, List, [], ◌∷◌, ◌++◌, length, take, ◌-◌, refl, sym, ap, ◌∙◌, arith, Option, Some, None, append_assoc, inl, inr}
use Rattle.std.proofs.lemmas.List.{length-append, take_at}
use Rattle.std.specs.Prelude.{option_map}
use Rattle.std.proofs.lemmas.Bool.Decides.{nat_tests}
use Rattle.std.proofs.lemmas.Bool.{eqb-true, and_parts, and_from, not-true, false≢true}
use Rattle.std.proofs.lemmas.Option.{same_Some, none-some}
use Rattle.kb_conf.specs.Signs.{double_quote, dollar_sign, apostrophe, open_parenthesis, close_parenthesis, backslash, backquote, open_brace, close_brace}
use Rattle.kb_conf.specs.Bytes.{starts_name, begins_expansion, stands_for_itself}
use Rattle.kb_conf.specs.Name.{Reference, is_variable_name, spell_reference}
use Rattle.kb_conf.specs.Piece.{Piece, Bare, Escaped, Single, Quote, Plain, Braced, Command, Backquoted, Dollar, Mode, spell, fits_here, lacks, closes, ends_name, ends_dollar}
use Rattle.kb_conf.specs.Front.{byte_at, until_byte, name_at, reference_at, closing_at, braced_at, expansion_at, escaped_at, piece_at, ◌>>=◌, IsNextPiece}
use Rattle.kb_conf.proofs.Tools.{mapped, bound, chosen}
use Rattle.kb_conf.proofs.SpanLaws.{byte_found, until_found, until_again, name_found, name_again, closing_found, closing_again}
use Rattle.kb_conf.proofs.ReferenceLaws.{reference_found, reference_again}

-- the piece was spelled at the front of the text, and may stand there
pub record Spelled (m : Mode) (text : List ℕ) (p : Piece) (rest : List ℕ) : Type 0 where
  pub fitting : fits_here m p rest ≡ true
  pub spelling : text ≡ spell p ++ rest

shifted : (m : Mode) (text : List ℕ) (p q : Piece) (rest behind : List ℕ) → Spelled m text p rest → ◌≡◌ {A = Option (Piece × List ℕ)} (Some (p, rest)) (Some (q, behind)) → Spelled m text q behind
shifted m text p q rest behind s e =
    let pair = same_Some {A = Piece × List ℕ} (p, rest) (q, behind) e in
    record { fitting = ap (λ (x : Piece × List ℕ). fits_here m x.0 x.1) (sym pair) ∙ s.fitting; spelling = s.spelling ∙ ap (λ (x : Piece × List ℕ). spell x.0 ++ x.1) pair }

enclosed : (b : ℕ) (inside rest : List ℕ) → (inside ++ (b ∷ [])) ++ rest ≡ inside ++ (b ∷ rest)
enclosed b inside rest = append_assoc inside (b ∷ []) rest

plain_byte : (quoted : Bool) (b : ℕ) → stands_for_itself quoted b ≡ true → (eqb b double_quote ≡ false) × (eqb b backslash ≡ false) × (eqb b dollar_sign ≡ false) × (eqb b backquote ≡ false)
plain_byte true b h = (grind (arith, nat_tests), grind (arith, nat_tests), grind (arith, nat_tests), grind (arith, nat_tests))
plain_byte false b h = (grind (arith, nat_tests), grind (arith, nat_tests), grind (arith, nat_tests), grind (arith, nat_tests))

name_byte : (b : ℕ) → starts_name b ≡ true → (eqb b open_brace ≡ false) × (eqb b open_parenthesis ≡ false)
name_byte b h = (grind (arith, nat_tests), grind (arith, nat_tests))

lone_dollar : (b : ℕ) → begins_expansion b ≡ false → (eqb b open_brace ≡ false) × (eqb b open_parenthesis ≡ false) × (starts_name b ≡ false)
lone_dollar b h = (grind (arith, nat_tests), grind (arith, nat_tests), grind (arith, nat_tests))

pub expansion_again_plain : (command : Bool) (name rest : List ℕ) → is_variable_name name ≡ true → ends_name rest ≡ true → expansion_at command (name ++ rest) ≡ Some (Plain name, rest)
unfolding expansion_at
expansion_again_plain command [] rest h end = absurd (cc)
expansion_again_plain command (b ∷ bs) rest h end =
    let starts = (and_parts (starts_name b) _ h).0 in
    let nb = name_byte b starts in
    rw (nb.0, nb.1, starts, name_again (b ∷ bs) rest h end) refl

pub expansion_again_dollar : (command : Bool) (rest : List ℕ) → ends_dollar rest ≡ true → expansion_at command rest ≡ Some (Dollar, rest)
unfolding expansion_at
expansion_again_dollar command [] end = refl
expansion_again_dollar command (b ∷ bs) end =
    let none = not-true (begins_expansion b) end in
    let ld = lone_dollar b none in
    rw (none, ld.0, ld.1, ld.2) refl

pub piece_again : (m : Mode) (p : Piece) (rest : List ℕ) → fits_here m p rest ≡ true → piece_at m (spell p ++ rest) ≡ Some (p, rest)
unfolding piece_at escaped_at expansion_at braced_at
piece_again m (Bare b) rest h = let pb = plain_byte m.quoted b h in rw (h, pb.0, pb.1, pb.2, pb.3) refl
piece_again m (Escaped b) rest h = refl
piece_again m (Single text) rest h =
    let parts = and_parts (not m.quoted) (lacks apostrophe text) h in
    rw (not-true m.quoted parts.0, enclosed apostrophe text rest, until_again apostrophe text rest parts.1) refl
piece_again m Quote rest h = refl
piece_again m (Plain name) rest h =
    let parts = and_parts (is_variable_name name) (ends_name rest) h in
    expansion_again_plain m.command name rest parts.0 parts.1
piece_again m (Braced r) rest h = rw (enclosed close_brace (spell_reference r) rest, reference_again r (close_brace ∷ rest) h refl refl) refl
piece_again m (Command text) rest h =
    let parts = and_parts m.command (closes 0 text) h in
    rw (parts.0, enclosed close_parenthesis text rest, closing_again 0 text rest parts.1) refl
piece_again m (Backquoted text) rest h =
    let parts = and_parts m.command (lacks backquote text) h in
    rw (parts.0, enclosed backquote text rest, until_again backquote text rest parts.1) refl
piece_again m Dollar rest h = expansion_again_dollar m.command rest h

respelled : (m : Mode) (text here : List ℕ) (p : Piece) (rest : List ℕ) → here ≡ text → Spelled m text p rest → Spelled m here p rest
respelled m text here p rest e s = record { fitting = s.fitting; spelling = e ∙ s.spelling }

head_is : (a b : ℕ) (bs : List ℕ) → eqb a b ≡ true → a ∷ bs ≡ b ∷ bs
head_is a b bs h = ap (λ x. x ∷ bs) (eqb-true a b h)

pub braced_found : (m : Mode) (text : List ℕ) (p : Piece) (rest : List ℕ) → braced_at text ≡ Some (p, rest) → Spelled m (dollar_sign ∷ open_brace ∷ text) p rest
unfolding braced_at
braced_found m text p rest e =
    let reference = bound (reference_at text) (λ (found : Reference × List ℕ). ◌>>=◌ {B = Piece × List ℕ} (byte_at close_brace found.1) (λ behind. Some (Braced found.0, behind))) (p, rest) e in
    let close = bound (byte_at close_brace reference.0.1) (λ behind. Some (Braced reference.0.0, behind)) (p, rest) reference.2 in
    let by_reference = reference_found text reference.0.0 reference.0.1 reference.1 in
    let behind = byte_found close_brace reference.0.1 close.0 close.1 in
    shifted m _ (Braced reference.0.0) p close.0 rest (record {
      fitting = by_reference.0;
      spelling = ap (λ x. dollar_sign ∷ open_brace ∷ x) (by_reference.1 ∙ ap (λ x. spell_reference reference.0.0 ++ x) behind ∙ sym (enclosed close_brace (spell_reference reference.0.0) close.0));
    }) close.2

command_found : (m : Mode) (text : List ℕ) (p : Piece) (rest : List ℕ) → cond m.command (option_map {U = Piece × List ℕ} (λ (found : List ℕ × List ℕ). (Command found.0, found.1)) (closing_at 0 text)) None ≡ Some (p, rest) → Spelled m (dollar_sign ∷ open_parenthesis ∷ text) p rest
command_found m text p rest e =
    elim (chosen m.command _ _ (Some (p, rest)) e) [
      | inl w ↦
          let found = mapped (λ (found : List ℕ × List ℕ). (Command found.0, found.1)) (closing_at 0 text) (p, rest) w.1 in
          let inside = closing_found 0 text found.0.0 found.0.1 found.1 in
          shifted m _ (Command found.0.0) p found.0.1 rest (record {
            fitting = and_from m.command (closes 0 found.0.0) w.0 inside.0;
            spelling = ap (λ x. dollar_sign ∷ open_parenthesis ∷ x) (inside.1 ∙ sym (enclosed close_parenthesis found.0.0 found.0.1));
          }) (ap (λ (q : Piece × List ℕ). Some q) found.2)
      | inr w ↦ absurd (none-some (p, rest) w.1)
    ]

plain_found : (m : Mode) (text : List ℕ) (p : Piece) (rest : List ℕ) → option_map {U = Piece × List ℕ} (λ (found : List ℕ × List ℕ). (Plain found.0, found.1)) (name_at text) ≡ Some (p, rest) → Spelled m (dollar_sign ∷ text) p rest
plain_found m text p rest e =
    let found = mapped (λ (found : List ℕ × List ℕ). (Plain found.0, found.1)) (name_at text) (p, rest) e in
    let name = name_found text found.0.0 found.0.1 found.1 in
    shifted m _ (Plain found.0.0) p found.0.1 rest (record {
      fitting = and_from (is_variable_name found.0.0) (ends_name found.0.1) name.0 name.1;
      spelling = ap (λ x. dollar_sign ∷ x) name.2;
    }) (ap (λ (q : Piece × List ℕ). Some q) found.2)

pub expansion_found : (m : Mode) (text : List ℕ) (p : Piece) (rest : List ℕ) → expansion_at m.command text ≡ Some (p, rest) → Spelled m (dollar_sign ∷ text) p rest
unfolding expansion_at
expansion_found m [] p rest e = shifted m (dollar_sign ∷ []) Dollar p [] rest (record { fitting = refl; spelling = refl }) e
expansion_found m (b ∷ bs) p rest e =
    elim (chosen (eqb b open_brace) _ _ (Some (p, rest)) e) [
      | inl brace ↦
          respelled m _ _ p rest (ap (λ x. dollar_sign ∷ x) (head_is b open_brace bs brace.0)) (braced_found m bs p rest brace.1)
      | inr no_brace ↦ elim (chosen (eqb b open_parenthesis) _ _ (Some (p, rest)) no_brace.1) [
        | inl parenthesis ↦
            respelled m _ _ p rest (ap (λ x. dollar_sign ∷ x) (head_is b open_parenthesis bs parenthesis.0)) (command_found m bs p rest parenthesis.1)
        | inr no_parenthesis ↦ elim (chosen (starts_name b) _ _ (Some (p, rest)) no_parenthesis.1) [
          | inl name ↦ plain_found m (b ∷ bs) p rest name.1
          | inr no_name ↦ elim (chosen (begins_expansion b) _ _ (Some (p, rest)) no_name.1) [
            | inl other ↦ absurd (none-some (p, rest) other.1)
            | inr lone ↦ shifted m _ Dollar p (b ∷ bs) rest (record { fitting = ap not lone.0; spelling = refl }) lone.1
          ]
        ]
      ]
    ]

escaped_found : (m : Mode) (text : List ℕ) (p : Piece) (rest : List ℕ) → escaped_at text ≡ Some (p, rest) → Spelled m (backslash ∷ text) p rest
unfolding escaped_at
escaped_found m [] p rest e = absurd (none-some (p, rest) e)
escaped_found m (b ∷ bs) p rest e = shifted m _ (Escaped b) p bs rest (record { fitting = refl; spelling = refl }) e

backquoted_found : (m : Mode) (text : List ℕ) (p : Piece) (rest : List ℕ) → cond m.command (option_map {U = Piece × List ℕ} (λ (found : List ℕ × List ℕ). (Backquoted found.0, found.1)) (until_byte backquote text)) None ≡ Some (p, rest) → Spelled m (backquote ∷ text) p rest
backquoted_found m text p rest e =
    elim (chosen m.command _ _ (Some (p, rest)) e) [
      | inl w ↦
          let found = mapped (λ (found : List ℕ × List ℕ). (Backquoted found.0, found.1)) (until_byte backquote text) (p, rest) w.1 in
          let inside = until_found backquote text found.0.0 found.0.1 found.1 in
          shifted m _ (Backquoted found.0.0) p found.0.1 rest (record {
            fitting = and_from m.command (lacks backquote found.0.0) w.0 inside.0;
            spelling = ap (λ x. backquote ∷ x) (inside.1 ∙ sym (enclosed backquote found.0.0 found.0.1));
          }) (ap (λ (q : Piece × List ℕ). Some q) found.2)
      | inr w ↦ absurd (none-some (p, rest) w.1)
    ]

single_found : (m : Mode) (text : List ℕ) (p : Piece) (rest : List ℕ) → m.quoted ≡ false → option_map {U = Piece × List ℕ} (λ (found : List ℕ × List ℕ). (Single found.0, found.1)) (until_byte apostrophe text) ≡ Some (p, rest) → Spelled m (apostrophe ∷ text) p rest
single_found m text p rest outside e =
    let found = mapped (λ (found : List ℕ × List ℕ). (Single found.0, found.1)) (until_byte apostrophe text) (p, rest) e in
    let inside = until_found apostrophe text found.0.0 found.0.1 found.1 in
    shifted m _ (Single found.0.0) p found.0.1 rest (record {
      fitting = and_from (not m.quoted) (lacks apostrophe found.0.0) (ap not outside) inside.0;
      spelling = ap (λ x. apostrophe ∷ x) (inside.1 ∙ sym (enclosed apostrophe found.0.0 found.0.1));
    }) (ap (λ (q : Piece × List ℕ). Some q) found.2)

-- inside double quotes an apostrophe stands for itself
outside_quotes : (quoted : Bool) (b : ℕ) → eqb b apostrophe ≡ true → stands_for_itself quoted b ≡ false → quoted ≡ false
outside_quotes true b e h = absurd (false≢true (sym h ∙ grind (arith, nat_tests)))
outside_quotes false b e h = refl

pub piece_found : (m : Mode) (text : List ℕ) (p : Piece) (rest : List ℕ) → piece_at m text ≡ Some (p, rest) → Spelled m text p rest
unfolding piece_at
piece_found m [] p rest e = absurd (none-some (p, rest) e)
piece_found m (b ∷ bs) p rest e =
    elim (chosen (eqb b double_quote) _ _ (Some (p, rest)) e) [
      | inl quote ↦
          respelled m _ _ p rest (head_is b double_quote bs quote.0) (shifted m _ Quote p bs rest (record { fitting = refl; spelling = refl }) quote.1)
      | inr no_quote ↦ elim (chosen (eqb b backslash) _ _ (Some (p, rest)) no_quote.1) [
        | inl escaped ↦
            respelled m _ _ p rest (head_is b backslash bs escaped.0) (escaped_found m bs p rest escaped.1)
        | inr no_backslash ↦ elim (chosen (eqb b dollar_sign) _ _ (Some (p, rest)) no_backslash.1) [
          | inl dollar ↦
              respelled m _ _ p rest (head_is b dollar_sign bs dollar.0) (expansion_found m bs p rest dollar.1)
          | inr no_dollar ↦ elim (chosen (eqb b backquote) _ _ (Some (p, rest)) no_dollar.1) [
            | inl quoted_back ↦
                respelled m _ _ p rest (head_is b backquote bs quoted_back.0) (backquoted_found m bs p rest quoted_back.1)
            | inr no_backquote ↦ elim (chosen (stands_for_itself m.quoted b) _ _ (Some (p, rest)) no_backquote.1) [
              | inl bare ↦
                  shifted m _ (Bare b) p bs rest (record { fitting = bare.0; spelling = refl }) bare.1
              | inr not_bare ↦ elim (chosen (eqb b apostrophe) _ _ (Some (p, rest)) not_bare.1) [
                | inl single ↦
                    respelled m _ _ p rest (head_is b apostrophe bs single.0) (single_found m bs p rest (outside_quotes m.quoted b single.0 not_bare.0) single.1)
                | inr other ↦ absurd (none-some (p, rest) other.1)
              ]
            ]
          ]
        ]
      ]
    ]

spelled_out : (p : Piece) → 0 < length (spell p)
spelled_out (Bare b) = omega arith
spelled_out (Escaped b) = omega arith
spelled_out (Single text) = omega arith
spelled_out Quote = omega arith
spelled_out (Plain name) = omega arith
spelled_out (Braced r) = omega arith
spelled_out (Command text) = omega arith
spelled_out (Backquoted text) = omega arith
spelled_out Dollar = omega arith

pub piece_shortens : (m : Mode) (text : List ℕ) (p : Piece) (rest : List ℕ) → piece_at m text ≡ Some (p, rest) → length rest < length text
piece_shortens m text p rest e =
    let s = piece_found m text p rest e in
    let whole : length text ≡ length (spell p) + length rest = ap length s.spelling ∙ length-append (spell p) rest in
    let out = spelled_out p in
    omega arith

pub piece_next : (m : Mode) (text : List ℕ) (p : Piece) (written rest : List ℕ) → piece_at m text ≡ Some (p, rest) → written ≡ take (length text - length rest) text → IsNextPiece m text p written rest
piece_next m text p written rest e w =
    let s = piece_found m text p rest e in
    let whole : length text ≡ length (spell p) + length rest = ap length s.spelling ∙ length-append (spell p) rest in
    let n : length text - length rest ≡ length (spell p) = omega arith in
    record {
      found = e;
      spelled = w ∙ ap (λ k. take k text) n ∙ ap (take (length (spell p))) s.spelling ∙ take_at (spell p) rest (length (spell p)) refl;
      shorter = piece_shortens m text p rest e;
    }
