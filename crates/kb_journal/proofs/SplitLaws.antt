-- A journal's text is cut into the fields of its lines.
use Rattle.std.proofs.Common.{◌≡◌, ℕ, zero, suc, ◌<◌, ◌^◌, ◌/◌, ◌%◌, Bool, true, false, not, List, [], ◌∷◌, ◌++◌, get_or, map, flat_map, All, arith, refl, sym, ap, ◌∙◌, subst, append_assoc, append-nil}
use Rattle.std.specs.List.{list_all, slice_split}
use Rattle.std.specs.Fmt.{decimal}
use Rattle.std.specs.Char.{is_ascii_digit}
use Rattle.std.specs.Str.{all_ascii_digits}
use Rattle.std.specs.Str.Parse.{digits_value}
use Rattle.std.specs.Cmp.Derive.{both_true}
use Rattle.std.proofs.lemmas.Bool.{and_parts}
use Rattle.std.proofs.lemmas.Bool.Decides.{nat_tests}
use Rattle.std.proofs.lemmas.Fmt.{digits_decimal}
use Rattle.std.proofs.lemmas.List.Elements.{All-nil, All-cons}
use Rattle.std.proofs.lemmas.List.Folds.{list_all-append}
use Rattle.std.proofs.lemmas.List.Splits.{slice_split_at}
use Rattle.std.proofs.lemmas.Str.Parse.{IsNumeralModel, numerals_by_value, tells_all_ascii_digits}
use Rattle.hex.specs.Hex.{encode_with, lower_digits}
use Rattle.kb_world.specs.Path.{Path, path_text}
use Rattle.kb_changes.specs.Text.{line_of_fields, path_field, text_field}
use Rattle.kb_journal.specs.Reads.{is_field_end}

-- ---- a line

-- no byte of the field ends it
abbrev pub is_plain : List ℕ → Bool
is_plain field = list_all (λ c. not (is_field_end c)) field

abbrev pub are_plain : List (List ℕ) → Bool
are_plain fields = list_all is_plain fields

not_true : (b : Bool) → not b ≡ true → b ≡ false
not_true true h = sym h
not_true false h = refl

all_inside : (field : List ℕ) → is_plain field ≡ true → All (λ c. is_field_end c ≡ false) field
all_inside [] h = All-nil (λ c. is_field_end c ≡ false)
all_inside (c ∷ field) h =
    let parts = and_parts (not (is_field_end c)) (is_plain field) h in
    All-cons (λ c. is_field_end c ≡ false) c field (not_true (is_field_end c) parts.0) (all_inside field parts.1)

-- the fields but the first, each behind a space
abbrev spaced : List (List ℕ) → List ℕ
spaced fields = flat_map (λ field. 32 ∷ field) fields

line_of : (first : List ℕ) (fields : List (List ℕ)) (rest : List ℕ) → are_plain (first ∷ fields) ≡ true
    → slice_split is_field_end (line_of_fields (first ∷ fields) ++ rest) ≡ (first ∷ fields) ++ slice_split is_field_end rest
line_of first [] rest plain =
    let inside = all_inside first (and_parts (is_plain first) true plain).0 in
    ap (λ l. slice_split is_field_end ((l ++ 10 ∷ []) ++ rest)) (append-nil first) ∙ ap (slice_split is_field_end) (append_assoc first (10 ∷ []) rest)
    ∙ slice_split_at is_field_end first 10 rest inside refl
line_of first (next ∷ fields) rest plain =
    let parts = and_parts (is_plain first) (are_plain (next ∷ fields)) plain in
    let inside = all_inside first parts.0 in
    let behind = spaced (next ∷ fields) in
    let cut : line_of_fields (first ∷ next ∷ fields) ++ rest ≡ first ++ (32 ∷ (line_of_fields (next ∷ fields) ++ rest)) =
    ap (λ l. l ++ rest) (append_assoc first behind (10 ∷ [])) ∙ append_assoc first (behind ++ 10 ∷ []) rest in
    ap (slice_split is_field_end) cut ∙ slice_split_at is_field_end first 32 (line_of_fields (next ∷ fields) ++ rest) inside refl
    ∙ ap (λ l. first ∷ l) (line_of next fields rest parts.1)

-- a line is cut into its fields
pub line_cut : (all : List (List ℕ)) (first : List ℕ) (fields : List (List ℕ)) (rest : List ℕ) → all ≡ first ∷ fields → are_plain all ≡ true
    → slice_split is_field_end (line_of_fields all ++ rest) ≡ all ++ slice_split is_field_end rest
line_cut all first fields rest is plain =
    subst (λ fs. slice_split is_field_end (line_of_fields fs ++ rest) ≡ fs ++ slice_split is_field_end rest) (sym is)
    (line_of first fields rest (sym (ap are_plain is) ∙ plain))

-- ---- fields without a space and a line feed

plain_digit : (t : List ℕ) (d : ℕ) → is_plain t ≡ true → not (is_field_end (get_or t d 0)) ≡ true
plain_digit [] d h = refl
plain_digit (c ∷ t) zero h = (and_parts (not (is_field_end c)) (is_plain t) h).0
plain_digit (c ∷ t) (suc d) h = plain_digit t d (and_parts (not (is_field_end c)) (is_plain t) h).1

plain_encoded : (t bytes : List ℕ) → is_plain t ≡ true → is_plain (encode_with t bytes) ≡ true
unfolding encode_with
plain_encoded t [] h = refl
plain_encoded t (b ∷ bytes) h = both_true (plain_digit t (b / 16) h) (both_true (plain_digit t (b % 16) h) (plain_encoded t bytes h))

pub plain_hex : (bytes : List ℕ) → is_plain (encode_with lower_digits bytes) ≡ true
plain_hex bytes = plain_encoded lower_digits bytes refl

pub plain_text : (text : List ℕ) → is_plain (text_field text) ≡ true
plain_text [] = refl
plain_text (c ∷ text) = plain_hex (c ∷ text)

pub plain_path : (path : Path) → is_plain (path_field path) ≡ true
plain_path path = plain_text (path_text path)

digit_inside : (c : ℕ) → is_ascii_digit c ≡ true → not (is_field_end c) ≡ true
digit_inside c h = grind (arith, nat_tests)

plain_digits : (ds : List ℕ) → all_ascii_digits ds ≡ true → is_plain ds ≡ true
plain_digits [] h = refl
plain_digits (c ∷ ds) h =
    let parts = and_parts (is_ascii_digit c) (all_ascii_digits ds) h in
    both_true (digit_inside c parts.0) (plain_digits ds parts.1)

digits : IsNumeralModel (λ ds. all_ascii_digits ds ≡ true) (digits_value 10)
digits = numerals_by_value _ tells_all_ascii_digits

pub plain_number : (n : ℕ) → n < 2 ^ 64 → is_plain (decimal n) ≡ true
plain_number n small = plain_digits (decimal n) (digits_decimal digits n small)

pub plain_each : {A : Type 0} (f : A → List ℕ) → ((x : A) → is_plain (f x) ≡ true) → (xs : List A) → are_plain (map f xs) ≡ true
plain_each f each [] = refl
plain_each f each (x ∷ xs) = both_true (each x) (plain_each f each xs)

pub plain_append : (xs ys : List (List ℕ)) → are_plain xs ≡ true → are_plain ys ≡ true → are_plain (xs ++ ys) ≡ true
plain_append xs ys p q = list_all-append is_plain xs ys ∙ both_true p q
