-- Texts are read up to a field of none.
use Rattle.std.proofs.Common.{◌≡◌, ℕ, ◌+◌, List, [], ◌∷◌, ◌++◌, length, inl, inr, sym, ◌∙◌, subst}
use Rattle.std.specs.Str.{IsUtf8}
use Rattle.std.proofs.lemmas.Bool.{cases_lt}
use Rattle.kb_changes.specs.Text as rule
use Rattle.kb_journal.specs.Reads.{IsNoText}
use Rattle.kb_journal.proofs.LeftLaws.{AreLeft, first_left, next_left, none_left}

abbrev pub spelled : List ℕ → List (List ℕ)
spelled text = rule.text_field text ∷ []

-- the field is that of no text: all are read
pub texts_end : (all got : List (List ℕ)) (more left next : List (List ℕ)) (field : List ℕ) (i : ℕ) → AreLeft spelled IsUtf8 all got more left i → left ≡ field ∷ next
    → ((text : List ℕ) → IsUtf8 text → field ≡ rule.text_field text → ⊥) → (got ≡ all) × (field ∷ next ≡ more)
texts_end all got more left next field i part is never = elim (cases_lt i (length all)) [
  | inl below ↦
      let first = first_left spelled IsUtf8 all got more left i part below in
      let both : field ∷ next ≡ rule.text_field first.0 ∷ first.1 = sym is ∙ first.3 in
      let same : field ≡ rule.text_field first.0 = cc in
      absurd (never first.0 first.2 same)
  | inr over ↦ let none = none_left spelled IsUtf8 all got more left i part over in (none.0, sym is ∙ none.1)
]

-- the field is that of a text: one more is read
pub texts_go_on : (all got after : List (List ℕ)) (end : List ℕ) (more left next : List (List ℕ)) (field item : List ℕ) (i : ℕ) → AreLeft spelled IsUtf8 all got (end ∷ more) left i → left ≡ field ∷ next
    → IsNoText end → (IsNoText field → ⊥) → ((text : List ℕ) → IsUtf8 text → field ≡ rule.text_field text → item ≡ text) → after ≡ got ++ item ∷ []
    → AreLeft spelled IsUtf8 all after (end ∷ more) next (i + 1)
texts_go_on all got after end more left next field item i part is none some read pushed = elim (cases_lt i (length all)) [
  | inl below ↦ next_left spelled IsUtf8 all got after (end ∷ more) left next i item part below
      (λ text behind utf8 front. let both : field ∷ next ≡ rule.text_field text ∷ behind = sym is ∙ front in (read text utf8 cc, cc)) pushed
  | inr over ↦
      let done = none_left spelled IsUtf8 all got (end ∷ more) left i part over in
      let both : field ∷ next ≡ end ∷ more = sym is ∙ done.1 in
      let same : end ≡ field = cc in
      absurd (some (subst IsNoText same none))
]
