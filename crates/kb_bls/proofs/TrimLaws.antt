-- What a trimmed line is.
use Rattle.std.proofs.Common.{◌≡◌, ℕ, ◌+◌, ◌-◌, ◌<◌, Bool, true, false, List, [], ◌∷◌, ◌++◌, length, take, drop, nat_eq, Option, Some, None, refl, sym, ap, ◌∙◌, inl, inr, arith, lit<, Bor, MatchOption, encode_utf8, append_assoc}
use Rattle.std.specs.Char.{char_set_contains, IsScalar, len_utf8}
use Rattle.std.specs.Option.{unwrap_or}
use Rattle.std.specs.Str.Pattern.{FindsCharSuffix, StripsSuffix, FindsPrefixBy, FindsSuffixBy, IsTrimStartMatches, IsTrimEndMatches, IsFullyTrimmed, CutsPrefixes, CutsSuffixes, HasPassingCharAt}
use Rattle.std.specs.Cmp.Derive.{both_true}
use Rattle.std.proofs.Math.Seq.{drop-length}
use Rattle.std.proofs.lemmas.Bool.{eqb-true}
use Rattle.std.proofs.lemmas.Bool.Decides.{nat_tests}
use Rattle.std.proofs.lemmas.List.{append-nil, take-append-drop}
use Rattle.std.proofs.lemmas.List.Folds.{list_all-append}
use Rattle.std.proofs.lemmas.Str.{encode_ascii, len_utf8_bounds}
use Rattle.std.proofs.lemmas.Str.Pattern.{strip_suffix_char}
use Rattle.kb_bls.specs.Fields.{CARRIAGE_RETURN, is_entry_blank, are_blanks, begins_so, ends_with, IsWithoutReturn, IsTrimmed}
use Rattle.kb_bls.proofs.EndLaws.{by_test, not_both, begins_unless, ends_unless}

pub set_is_blank : (c : ℕ) → char_set_contains (32 ∷ 9 ∷ []) c ≡ is_entry_blank c
set_is_blank c = grind (arith, nat_tests)

pub blank_ascii : (c : ℕ) → is_entry_blank c ≡ true → c < 128
blank_ascii c h = grind (arith, nat_tests)

scalar_ascii : (c : ℕ) → c < 128 → IsScalar c
scalar_ascii c h = grind (arith, nat_tests)

pub blanks_append : (a b : List ℕ) → are_blanks a ≡ true → are_blanks b ≡ true → are_blanks (a ++ b) ≡ true
blanks_append a b h k = list_all-append is_entry_blank a b ∙ both_true h k

no_width : (n c : ℕ) → ¬ (n ≡ n + len_utf8 c)
no_width n c e = omega (arith, (len_utf8_bounds c).0, e)

-- ---- the blanks at the front

-- what was cut off the front
pub record HasFront (whole rest : List ℕ) : Type 0 where
  pub front : List ℕ
  pub is : whole ≡ front ++ rest
  pub blank : are_blanks front ≡ true

more_front : (whole m rest : List ℕ) (n : ℕ) → HasFront whole m → HasPassingCharAt is_entry_blank m 0 n → rest ≡ drop n m → HasFront whole rest
more_front whole m rest n cut (c, passes, at) e =
    let one : encode_utf8 c ≡ c ∷ [] = encode_ascii c (blank_ascii c passes) in
    let here : m ≡ c ∷ rest = at.split ∙ ap (λ b. b ++ drop n m) one ∙ ap (λ r. c ∷ r) (sym e) in
    record {
      front = cut.front ++ (c ∷ []);
      is = cut.is ∙ ap (λ r. cut.front ++ r) here ∙ sym (append_assoc cut.front (c ∷ []) rest);
      blank = blanks_append cut.front (c ∷ []) cut.blank (both_true passes refl);
    }

-- the test that the characters space and tab are as a pattern
abbrev pub IsBlankTest : (ℕ → Bool) → Type 0
IsBlankTest test = (c : ℕ) → char_set_contains (32 ∷ 9 ∷ []) c ≡ test c

abbrev pub FindsBlankFront : List ℕ → Option ℕ → Type 0
FindsBlankFront s found = (test : ℕ → Bool) → IsBlankTest test → FindsPrefixBy test s found

abbrev pub FindsBlankEnd : List ℕ → Option ℕ → Type 0
FindsBlankEnd s found = (test : ℕ → Bool) → IsBlankTest test → FindsSuffixBy test s found

module _ (R : List ℕ → Option ℕ → Type 0) (finds : (s : List ℕ) (o : Option ℕ) → R s o → FindsPrefixBy is_entry_blank s o) where
  fronts : (whole : List ℕ) (widths : List ℕ) (rest : List ℕ) → CutsPrefixes R whole widths rest → HasFront whole rest
  fronts whole [] rest e = record { front = []; is = sym e; blank = refl }
  fronts whole (n ∷ widths) rest (m, cuts, found, e) = more_front whole m rest n (fronts whole widths m cuts) (finds m (Some n) found) e

  no_front : (rest : List ℕ) → IsFullyTrimmed R rest → begins_so is_entry_blank rest ≡ false
  no_front rest (None, found, zero_wide) =
      begins_unless is_entry_blank rest (λ x behind e. by_test (is_entry_blank x) (λ blank.
      let ascii : x < 128 = blank_ascii x blank in
      not_both (is_entry_blank x) blank (finds rest None found x behind (scalar_ascii x ascii) (e ∙ ap (λ b. b ++ behind) (sym (encode_ascii x ascii))))))
  no_front rest (Some n, found, zero_wide) =
      let h = finds rest (Some n) found in absurd (no_width 0 h.0 (sym zero_wide ∙ h.2.ends))

at_front : (s : List ℕ) (o : Option ℕ) → FindsBlankFront s o → FindsPrefixBy is_entry_blank s o
at_front s o h = h is_entry_blank set_is_blank

pub trimmed_front : (whole rest : List ℕ) → IsTrimStartMatches FindsBlankFront whole rest → HasFront whole rest × (begins_so is_entry_blank rest ≡ false)
trimmed_front whole rest (cuts, done) = (fronts FindsBlankFront at_front whole cuts.0 rest cuts.1, no_front FindsBlankFront at_front rest done)

-- ---- the blanks at the end

-- what was cut off the end
pub record HasEnd (whole rest : List ℕ) : Type 0 where
  pub end : List ℕ
  pub is : whole ≡ rest ++ end
  pub blank : are_blanks end ≡ true

more_end : (whole m rest : List ℕ) (n : ℕ) → HasEnd whole m → HasPassingCharAt is_entry_blank m (length m - n) (length m) → rest ≡ take (length m - n) m → HasEnd whole rest
more_end whole m rest n cut (c, passes, at) e =
    let one : encode_utf8 c ≡ c ∷ [] = encode_ascii c (blank_ascii c passes) in
    let last : drop (length m - n) m ≡ c ∷ [] = at.split ∙ ap (λ b. b ++ drop (length m) m) one ∙ ap (λ r. c ∷ r) (drop-length m) in
    let here : m ≡ rest ++ (c ∷ []) = sym (take-append-drop (length m - n) m) ∙ ap (λ d. take (length m - n) m ++ d) last ∙ ap (λ r. r ++ (c ∷ [])) (sym e) in
    record {
      end = c ∷ cut.end;
      is = cut.is ∙ ap (λ r. r ++ cut.end) here ∙ append_assoc rest (c ∷ []) cut.end;
      blank = both_true passes cut.blank;
    }

module _ (R : List ℕ → Option ℕ → Type 0) (finds : (s : List ℕ) (o : Option ℕ) → R s o → FindsSuffixBy is_entry_blank s o) where
  ends : (whole : List ℕ) (widths : List ℕ) (rest : List ℕ) → CutsSuffixes R whole widths rest → HasEnd whole rest
  ends whole [] rest e = record { end = []; is = sym e ∙ sym (append-nil rest); blank = refl }
  ends whole (n ∷ widths) rest (m, cuts, found, e) = more_end whole m rest n (ends whole widths m cuts) (finds m (Some n) found) e

  no_end : (rest : List ℕ) → IsFullyTrimmed R rest → ends_with is_entry_blank rest ≡ false
  no_end rest (None, found, zero_wide) =
      ends_unless is_entry_blank rest (λ x front e. by_test (is_entry_blank x) (λ blank.
      let ascii : x < 128 = blank_ascii x blank in
      not_both (is_entry_blank x) blank (finds rest None found x front (scalar_ascii x ascii) (e ∙ ap (λ b. front ++ b) (sym (encode_ascii x ascii))))))
  no_end rest (Some n, found, zero_wide) =
      let h = finds rest (Some n) found in
      let same : length rest ≡ length rest + len_utf8 h.0 = h.2.ends ∙ ap (λ k. length rest - k + len_utf8 h.0) zero_wide ∙ ap (λ k. k + len_utf8 h.0) (omega arith) in
      absurd (no_width (length rest) h.0 same)

at_end : (s : List ℕ) (o : Option ℕ) → FindsBlankEnd s o → FindsSuffixBy is_entry_blank s o
at_end s o h = h is_entry_blank set_is_blank

pub trimmed_end : (whole rest : List ℕ) → IsTrimEndMatches FindsBlankEnd whole rest → HasEnd whole rest × (ends_with is_entry_blank rest ≡ false)
trimmed_end whole rest (cuts, done) = (ends FindsBlankEnd at_end whole cuts.0 rest cuts.1, no_end FindsBlankEnd at_end rest done)

-- ---- all of it

pub without_return : (line : List ℕ) (r : Option (Bor (List ℕ))) (whole : Bor (List ℕ)) → whole.now ≡ line
    → MatchOption r (FindsCharSuffix CARRIAGE_RETURN line None) (λ x. StripsSuffix (FindsCharSuffix CARRIAGE_RETURN) line x.now)
    → IsWithoutReturn line (unwrap_or r whole).now
without_return line None whole e h =
    inr (
      sym e,
      ends_unless (nat_eq CARRIAGE_RETURN) line (λ x front is. by_test (nat_eq CARRIAGE_RETURN x) (λ same.
          strip_suffix_char CARRIAGE_RETURN line None h (lit< tt) front (is ∙ ap (λ y. front ++ (y ∷ [])) (sym (eqb-true CARRIAGE_RETURN x same))))),
    )
without_return line (Some x) whole e h = inl (strip_suffix_char CARRIAGE_RETURN line (Some x) h (lit< tt))

-- what begins with no blank doesn't when its end is cut off
begins_still : (text end : List ℕ) → begins_so is_entry_blank (text ++ end) ≡ false → begins_so is_entry_blank text ≡ false
begins_still [] end h = refl
begins_still (x ∷ rest) end h = h

pub trimmed : (line ended middle text : List ℕ) → IsWithoutReturn line ended
    → HasFront ended middle × (begins_so is_entry_blank middle ≡ false)
    → HasEnd middle text × (ends_with is_entry_blank text ≡ false)
    → IsTrimmed line text
trimmed line ended middle text without (front, begun) (end, done) = record {
  between = ended;
  before = front.front;
  after = end.end;
  ended = without;
  is = front.is ∙ ap (λ r. front.front ++ r) end.is;
  before_blank = front.blank;
  after_blank = end.blank;
  begins = begins_still text end.end (sym (ap (begins_so is_entry_blank) end.is) ∙ begun);
  ends = done;
}
