-- A text has one intent.
use Rattle.std.proofs.Common.{◌≡◌, ℕ, List, [], ◌∷◌, ◌++◌, map, flat_map, codes, All, refl, sym, ap, ◌∙◌, subst, append_assoc}
use Rattle.std.specs.List.{slice_split}
use Rattle.std.specs.Prelude.{IsErr}
use Rattle.std.specs.Str.{IsUtf8}
use Rattle.std.proofs.lemmas.List.Elements.{All-head, All-tail}
use Rattle.kb_world.specs.declared.roots.Roots.{Roots}
use Rattle.kb_changes.specs.Text as rule
use Rattle.kb_changes.specs.declared.change.Change.{Change}
use Rattle.kb_changes.specs.declared.change.Intent.{Intent}
use Rattle.kb_journal.specs.Reads.{IsNoText, is_field_end}
use Rattle.kb_journal.proofs.FieldLaws.{decoded}
use Rattle.kb_journal.proofs.TellLaws.{same_text, same_words, tells_change}
use Rattle.kb_journal.proofs.TextLaws.{after_words, fields_of_changes, intent_cut, last_fields}
use Rattle.kb_journal.proofs.WordLaws.{change_split, change_word, no_end}

text_is_text : (text : List ℕ) → IsUtf8 text → IsNoText (rule.text_field text) → ⊥
text_is_text text utf8 none = let err = subst IsErr (decoded text (rule.text_field text) utf8 refl none.0) none.1 in cc err

-- texts up to a field of none
words_tell : (xs ys : List (List ℕ)) (e d : List ℕ) (p q : List (List ℕ)) → All IsUtf8 xs → All IsUtf8 ys → IsNoText e → IsNoText d
    → map rule.text_field xs ++ e ∷ p ≡ map rule.text_field ys ++ d ∷ q → (xs ≡ ys) × (e ∷ p ≡ d ∷ q)
words_tell [] [] e d p q good fine none nor is = (refl, is)
words_tell [] (y ∷ ys) e d p q good fine none nor is =
    let first : e ≡ rule.text_field y = cc in absurd (text_is_text y (All-head IsUtf8 y ys fine) (subst IsNoText first none))
words_tell (x ∷ xs) [] e d p q good fine none nor is =
    let first : d ≡ rule.text_field x = cc in absurd (text_is_text x (All-head IsUtf8 x xs good) (subst IsNoText first nor))
words_tell (x ∷ xs) (y ∷ ys) e d p q good fine none nor is =
    let first : rule.text_field x ≡ rule.text_field y = cc in
    let others = words_tell xs ys e d p q (All-tail IsUtf8 x xs good) (All-tail IsUtf8 y ys fine) none nor cc in
    let same = same_text x y (All-head IsUtf8 x xs good) (All-head IsUtf8 y ys fine) first in
    ((λ i. same i ∷ others.0 i), others.1)

not_end : (change : Change) (changes : List Change) (p q : List (List ℕ)) → codes "end" ∷ p ≡ (rule.change_fields change ++ flat_map rule.change_fields changes) ++ q → ⊥
not_end change changes p q is =
    let word = (change_split change (codes "end") p (flat_map rule.change_fields changes ++ q) (is ∙ append_assoc (rule.change_fields change) (flat_map rule.change_fields changes) q)).0 in
    same_words (change_word change) (codes "end") (sym word) (no_end change)

-- changes up to their end
changes_tell : (xs ys : List Change) (p q : List (List ℕ)) → All rule.IsTextChange xs → All rule.IsTextChange ys
    → flat_map rule.change_fields xs ++ codes "end" ∷ p ≡ flat_map rule.change_fields ys ++ codes "end" ∷ q → xs ≡ ys
changes_tell [] [] p q good fine is = refl
changes_tell [] (y ∷ ys) p q good fine is = absurd (not_end y ys p (codes "end" ∷ q) is)
changes_tell (x ∷ xs) [] p q good fine is = absurd (not_end x xs q (codes "end" ∷ p) (sym is))
changes_tell (x ∷ xs) (y ∷ ys) p q good fine is =
    let a = flat_map rule.change_fields xs in
    let b = flat_map rule.change_fields ys in
    let first = tells_change x y (a ++ codes "end" ∷ p) (b ++ codes "end" ∷ q) (All-head rule.IsTextChange x xs good) (All-head rule.IsTextChange y ys fine)
    (sym (append_assoc (rule.change_fields x) a (codes "end" ∷ p)) ∙ is ∙ append_assoc (rule.change_fields y) b (codes "end" ∷ q)) in
    let others = changes_tell xs ys p q (All-tail rule.IsTextChange x xs good) (All-tail rule.IsTextChange y ys fine) first.1 in
    λ i. first.0 i ∷ others i

-- the fields behind the heading
behind_heading : (a b : Intent) → rule.AreTexts a → rule.AreTexts b → rule.intent_text a ≡ rule.intent_text b
    → map rule.text_field a.words ++ fields_of_changes a ≡ map rule.text_field b.words ++ fields_of_changes b
behind_heading a b good fine is =
    let whole = sym (intent_cut a good) ∙ ap (slice_split is_field_end) is ∙ intent_cut b fine in
    cc whole

pub one_intent : (a b : Intent) → rule.AreTexts a → rule.AreTexts b → rule.intent_text a ≡ rule.intent_text b → a ≡ b
one_intent a b good fine is =
    let x = after_words a.changes (last_fields a) in
    let y = after_words b.changes (last_fields b) in
    let words = words_tell a.words b.words x.0 y.0 x.1 y.1 good.words fine.words x.2 y.2
    (ap (λ l. map rule.text_field a.words ++ l) (sym x.3) ∙ behind_heading a b good fine is ∙ ap (λ l. map rule.text_field b.words ++ l) y.3) in
    let changes = changes_tell a.changes b.changes (last_fields a) (last_fields b) good.changes fine.changes (x.3 ∙ words.1 ∙ sym y.3) in
    λ i. record { words = words.0 i; changes = changes i }

pub one_journal : (roots other : Roots) (text : List ℕ) (a b : Intent) → rule.IsJournal roots text a → rule.IsJournal other text b → a ≡ b
one_journal roots other text a b p q = one_intent a b p.texts q.texts (p.spelled ∙ sym q.spelled)
