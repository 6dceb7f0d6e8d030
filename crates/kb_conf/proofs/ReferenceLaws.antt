-- NAME and NAME[N] are found as they are spelled, and no other way.
use Rattle.std.proofs.Common.{◌≡◌, ℕ, ◌<◌, true, eqb, List, [], ◌∷◌, ◌++◌, refl, sym, ap, ◌∙◌, arith, Option, Some, None, append_assoc, inl, inr}
use Rattle.std.proofs.lemmas.Bool.{eqb-true, and_parts, and_from, not-true, ltb-true, lt-ltb}
use Rattle.std.proofs.lemmas.Option.{same_Some}
use Rattle.kb_conf.specs.Signs.{open_bracket, close_bracket}
use Rattle.kb_conf.specs.Name.{Reference, is_variable_name, is_number, is_reference, subscript, spell_reference, decimal}
use Rattle.kb_conf.specs.Piece.{ends_name}
use Rattle.kb_conf.specs.Front.{byte_at, number_at, bracketed_at, subscript_at, name_at, reference_at, ◌>>=◌}
use Rattle.kb_conf.proofs.Tools.{mapped, bound, chosen}
use Rattle.kb_conf.proofs.SpanLaws.{stops, joined, byte_found, name_found, name_again}
use Rattle.kb_conf.proofs.NumberLaws.{number_found, number_again}

pub bracketed_found : (text : List ℕ) (n : ℕ) (rest : List ℕ) → bracketed_at text ≡ Some (n, rest) → (n < 256) × (text ≡ decimal n ++ (close_bracket ∷ rest))
unfolding bracketed_at
bracketed_found text n rest e =
    let number = bound (number_at text) (λ (found : ℕ × List ℕ). byte_at close_bracket found.1 >>= λ behind. Some (found.0, behind)) (n, rest) e in
    let close = bound (byte_at close_bracket number.0.1) (λ behind. Some (number.0.0, behind)) (n, rest) number.2 in
    let pair : ◌≡◌ {A = ℕ × List ℕ} (number.0.0, close.0) (n, rest) = same_Some {A = ℕ × List ℕ} (number.0.0, close.0) (n, rest) close.2 in
    let same_n : number.0.0 ≡ n = ap (λ (q : ℕ × List ℕ). q.0) pair in
    let same_rest : close.0 ≡ rest = ap (λ (q : ℕ × List ℕ). q.1) pair in
    let digits = number_found text number.0.0 number.0.1 number.1 in
    let behind = byte_found close_bracket number.0.1 close.0 close.1 in
    (omega (arith, digits.0, same_n), digits.1 ∙ joined (decimal number.0.0) (decimal n) number.0.1 (close_bracket ∷ rest) (ap decimal same_n) (behind ∙ ap (λ r. close_bracket ∷ r) same_rest))

pub bracketed_again : (n : ℕ) (rest : List ℕ) → n < 256 → bracketed_at (decimal n ++ (close_bracket ∷ rest)) ≡ Some (n, rest)
unfolding bracketed_at
bracketed_again n rest h = rw (number_again n (close_bracket ∷ rest) h refl) refl

seam : (n : ℕ) (rest : List ℕ) → (decimal n ++ (close_bracket ∷ [])) ++ rest ≡ decimal n ++ (close_bracket ∷ rest)
seam n rest = append_assoc (decimal n) (close_bracket ∷ []) rest

no_subscript : (text rest : List ℕ) (number : Option ℕ) → ◌≡◌ {A = Option ℕ × List ℕ} (None, text) (number, rest) → (is_number number ≡ true) × (text ≡ subscript number ++ rest)
no_subscript text rest number e =
    let none : None ≡ number = ap (λ (q : Option ℕ × List ℕ). q.0) e in
    (ap is_number (sym none), ap (λ (q : Option ℕ × List ℕ). subscript q.0 ++ q.1) e)

pub subscript_found : (text : List ℕ) (number : Option ℕ) (rest : List ℕ) → subscript_at text ≡ Some (number, rest) → (is_number number ≡ true) × (text ≡ subscript number ++ rest)
unfolding subscript_at
subscript_found [] number rest e = no_subscript [] rest number (same_Some {A = Option ℕ × List ℕ} (None, []) (number, rest) e)
subscript_found (b ∷ bs) number rest e =
    elim (chosen (eqb b open_bracket) _ _ (Some (number, rest)) e) [
      | inl w ↦
          let m = mapped (λ (found : ℕ × List ℕ). (Some found.0, found.1)) (bracketed_at bs) (number, rest) w.1 in
          let inside = bracketed_found bs m.0.0 m.0.1 m.1 in (
            ap (λ (q : Option ℕ × List ℕ). is_number q.0) (sym m.2) ∙ lt-ltb m.0.0 256 inside.0,
            joined (b ∷ []) (open_bracket ∷ []) bs (decimal m.0.0 ++ (close_bracket ∷ m.0.1)) (ap (λ x. x ∷ []) (eqb-true b open_bracket w.0)) inside.1
                ∙ ap (λ x. open_bracket ∷ x) (sym (seam m.0.0 m.0.1))
                ∙ ap (λ (q : Option ℕ × List ℕ). subscript q.0 ++ q.1) m.2,
          )
      | inr w ↦ no_subscript (b ∷ bs) rest number (same_Some {A = Option ℕ × List ℕ} (None, b ∷ bs) (number, rest) w.1)
    ]

pub subscript_again : (number : Option ℕ) (rest : List ℕ) → is_number number ≡ true → stops (λ b. eqb b open_bracket) rest ≡ true → subscript_at (subscript number ++ rest) ≡ Some (number, rest)
unfolding subscript_at
subscript_again None [] h end = refl
subscript_again None (b ∷ bs) h end = rw (not-true (eqb b open_bracket) end) refl
subscript_again (Some n) rest h end = rw (seam n rest, bracketed_again n rest (ltb-true n 256 h)) refl

pub reference_found : (text : List ℕ) (r : Reference) (rest : List ℕ) → reference_at text ≡ Some (r, rest) → (is_reference r ≡ true) × (text ≡ spell_reference r ++ rest)
unfolding reference_at
reference_found text r rest e =
    let name = bound (name_at text) (λ (found : List ℕ × List ℕ). ◌>>=◌ {B = Reference × List ℕ} (subscript_at found.1) (λ number. Some (record { name = found.0; number = number.0 }, number.1))) (r, rest) e in
    let number = bound (subscript_at name.0.1) (λ (found : Option ℕ × List ℕ). Some (record { name = name.0.0; number = found.0 }, found.1)) (r, rest) name.2 in
    let made : Reference = record { name = name.0.0; number = number.0.0 } in
    let pair : ◌≡◌ {A = Reference × List ℕ} (made, number.0.1) (r, rest) = same_Some {A = Reference × List ℕ} (made, number.0.1) (r, rest) number.2 in
    let by_name = name_found text name.0.0 name.0.1 name.1 in
    let by_number = subscript_found name.0.1 number.0.0 number.0.1 number.1 in (
      ap (λ (q : Reference × List ℕ). is_reference q.0) (sym pair) ∙ and_from (is_variable_name name.0.0) (is_number number.0.0) by_name.0 by_number.0,
      by_name.2 ∙ ap (λ x. name.0.0 ++ x) by_number.1 ∙ sym (append_assoc name.0.0 (subscript number.0.0) number.0.1)
          ∙ ap (λ (q : Reference × List ℕ). spell_reference q.0 ++ q.1) pair,
    )

name_ends : (number : Option ℕ) (rest : List ℕ) → ends_name rest ≡ true → ends_name (subscript number ++ rest) ≡ true
name_ends None rest h = h
name_ends (Some n) rest h = refl

pub reference_again : (r : Reference) (rest : List ℕ) → is_reference r ≡ true → ends_name rest ≡ true → stops (λ b. eqb b open_bracket) rest ≡ true → reference_at (spell_reference r ++ rest) ≡ Some (r, rest)
unfolding reference_at
reference_again r rest h end no_bracket =
    let parts = and_parts (is_variable_name r.name) (is_number r.number) h in
    rw (append_assoc r.name (subscript r.number) rest, name_again r.name (subscript r.number ++ rest) parts.0 (name_ends r.number rest end), subscript_again r.number rest parts.1 no_bracket) refl
