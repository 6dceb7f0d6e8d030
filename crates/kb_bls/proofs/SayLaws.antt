-- A line says one thing, or nothing.
use Rattle.std.proofs.Common.{◌≡◌, ◌≢◌, ℕ, suc, ◌<◌, Bool, true, false, not, List, [], ◌∷◌, ◌++◌, length, reverse, take, drop, get_or, nat_eq, Option, None, refl, sym, ap, ◌∙◌, subst, inl, inr, arith, lit<, Bor, MatchOption, append_assoc}
use Rattle.std.specs.List.{list_all}
use Rattle.std.specs.Str.{NoCharPasses, NonePass}
use Rattle.std.specs.Str.Pattern.{FindsBy, SplitsAroundMatch, IsTrimStartMatches}
use Rattle.std.specs.Cmp.{first_so, second_so}
use Rattle.std.specs.Cmp.Derive.{both_true}
use Rattle.std.proofs.lemmas.Bool.{eqb-true}
use Rattle.std.proofs.lemmas.Bool.Decides.{nat_tests}
use Rattle.std.proofs.lemmas.List.{append-nil, take-append-drop, append_cancel_right, reverse-append, reverse-reverse}
use Rattle.std.proofs.lemmas.Str.{encode_ascii}
use Rattle.std.proofs.lemmas.Str.Pattern.{NoCharPasses-char}
use Rattle.kb_bls.specs.Fields.{Field, CARRIAGE_RETURN, is_entry_blank, are_blanks, has_no_blank, begins_so, ends_with, IsWithoutReturn, IsTrimmed, Says, SaysNothing, Say}
use Rattle.kb_bls.proofs.EndLaws.{by_test, not_both, begins_at, ends_at}
use Rattle.kb_bls.proofs.TrimLaws.{IsBlankTest, FindsBlankFront, blank_ascii, blanks_append, set_is_blank, trimmed_front}

-- two cuts of one list behind the elements that pass a test are the same
pub record SameCut (front front' rest rest' : List ℕ) : Type 0 where
  pub fronts : front ≡ front'
  pub rests : rest ≡ rest'

one_more : (x y : ℕ) (front front' rest rest' : List ℕ) → x ≡ y → SameCut front front' rest rest' → SameCut (x ∷ front) (y ∷ front') rest rest'
one_more x y front front' rest rest' e same = record { fronts = ap (λ z. z ∷ front) e ∙ ap (λ f. y ∷ f) same.fronts; rests = same.rests }

never : (p : ℕ → Bool) (x : ℕ) (behind rest : List ℕ) → p x ≡ true → begins_so p rest ≡ false → rest ≡ x ∷ behind → ⊥
never p x behind rest passes begins e = not_both (p x) passes (begins_at p rest behind x begins e)

pub span_same : (p : ℕ → Bool) (front front' rest rest' : List ℕ) → list_all p front ≡ true → list_all p front' ≡ true
    → begins_so p rest ≡ false → begins_so p rest' ≡ false → front ++ rest ≡ front' ++ rest' → SameCut front front' rest rest'
span_same p [] [] rest rest' all all' ends ends' e = record { fronts = refl; rests = e }
span_same p [] (y ∷ front') rest rest' all all' ends ends' e = absurd (never p y (front' ++ rest') rest (first_so (p y) _ all') ends e)
span_same p (x ∷ front) [] rest rest' all all' ends ends' e = absurd (never p x (front ++ rest) rest' (first_so (p x) _ all) ends' (sym e))
span_same p (x ∷ front) (y ∷ front') rest rest' all all' ends ends' e =
    let heads : x ≡ y = cc in
    let tails : front ++ rest ≡ front' ++ rest' = cc in
    one_more x y front front' rest rest' heads (span_same p front front' rest rest' (second_so (p x) _ all) (second_so (p y) _ all') ends ends' tails)

-- ---- a line is trimmed to one text

blanks_reversed : (text : List ℕ) → are_blanks text ≡ true → are_blanks (reverse text) ≡ true
blanks_reversed [] h = refl
blanks_reversed (x ∷ rest) h =
    ap are_blanks (reverse-append (x ∷ []) rest) ∙ blanks_append (reverse rest) (x ∷ []) (blanks_reversed rest (second_so (is_entry_blank x) _ h)) (both_true (first_so (is_entry_blank x) _ h) refl)

without_same : (line a b : List ℕ) → IsWithoutReturn line a → IsWithoutReturn line b → a ≡ b
without_same line a b (inl e) (inl f) = append_cancel_right a b (CARRIAGE_RETURN ∷ []) (sym e ∙ f)
without_same line a b (inl e) (inr (same, no_return)) = absurd (not_both true refl (ends_at (nat_eq CARRIAGE_RETURN) line a CARRIAGE_RETURN no_return e))
without_same line a b (inr (same, no_return)) (inl f) = absurd (not_both true refl (ends_at (nat_eq CARRIAGE_RETURN) line b CARRIAGE_RETURN no_return f))
without_same line a b (inr (same, no_return)) (inr (same', no_return')) = sym same ∙ same'

-- the first byte of a text in a run of blanks is a blank
blank_there : (front rest : List ℕ) (x : ℕ) → are_blanks (front ++ (x ∷ rest)) ≡ true → is_entry_blank x ≡ true
blank_there [] rest x h = first_so (is_entry_blank x) _ h
blank_there (y ∷ front) rest x h = blank_there front rest x (second_so (is_entry_blank y) _ h)

-- a run of blanks isn't trimmed to something
not_blanks : (front back before after rest : List ℕ) (x : ℕ) → are_blanks front ≡ true → are_blanks back ≡ true → is_entry_blank x ≡ false → front ++ back ≡ before ++ (x ∷ rest ++ after) → ⊥
not_blanks front back before after rest x h k begins e =
    not_both (is_entry_blank x) (blank_there before (rest ++ after) x (ap are_blanks (sym e) ∙ blanks_append front back h k)) begins

between_same : (before after a before' after' b : List ℕ) → are_blanks before ≡ true → are_blanks after ≡ true → are_blanks before' ≡ true → are_blanks after' ≡ true
    → begins_so is_entry_blank a ≡ false → ends_with is_entry_blank a ≡ false → begins_so is_entry_blank b ≡ false → ends_with is_entry_blank b ≡ false
    → before ++ (a ++ after) ≡ before' ++ (b ++ after') → a ≡ b
between_same before after [] before' after' [] h k h' k' begins ends begins' ends' e = refl
between_same before after [] before' after' (y ∷ b) h k h' k' begins ends begins' ends' e = absurd (not_blanks before after before' after' b y h k begins' e)
between_same before after (x ∷ a) before' after' [] h k h' k' begins ends begins' ends' e = absurd (not_blanks before' after' before after a x h' k' begins (sym e))
between_same before after (x ∷ a) before' after' (y ∷ b) h k h' k' begins ends begins' ends' e =
    let front = span_same is_entry_blank before before' ((x ∷ a) ++ after) ((y ∷ b) ++ after') h h' begins begins' e in
    let back = span_same is_entry_blank (reverse after) (reverse after') (reverse (x ∷ a)) (reverse (y ∷ b)) (blanks_reversed after k) (blanks_reversed after' k') ends ends'
    (sym (reverse-append (x ∷ a) after) ∙ ap reverse front.rests ∙ reverse-append (y ∷ b) after') in
    sym (reverse-reverse (x ∷ a)) ∙ ap reverse back.rests ∙ reverse-reverse (y ∷ b)

pub trimmed_same : (line a b : List ℕ) → IsTrimmed line a → IsTrimmed line b → a ≡ b
trimmed_same line a b t u =
    between_same t.before t.after a u.before u.after b t.before_blank t.after_blank u.before_blank u.after_blank t.begins t.ends u.begins u.ends
    (sym t.is ∙ without_same line t.between u.between t.ended u.ended ∙ u.is)

-- ---- a line says one field

abbrev no_blank : ℕ → Bool
no_blank c = not (is_entry_blank c)

not_so : (b : Bool) → b ≡ true → not b ≡ false
not_so b h = ap not h

pub says_same : (line : List ℕ) (f g : Field) → Says line f → Says line g → f ≡ g
says_same line f g s t =
    let texts : f.key ++ (s.blank ∷ (s.more ++ f.value)) ≡ g.key ++ (t.blank ∷ (t.more ++ g.value)) = sym s.is ∙ trimmed_same line s.text t.text s.trimmed t.trimmed ∙ t.is in
    let cut = span_same no_blank f.key g.key (s.blank ∷ (s.more ++ f.value)) (t.blank ∷ (t.more ++ g.value)) s.key t.key (not_so (is_entry_blank s.blank) s.first_blank) (not_so (is_entry_blank t.blank) t.first_blank) texts in
    let rests : s.more ++ f.value ≡ t.more ++ g.value = let e = cut.rests in cc in
    let behind = span_same is_entry_blank s.more t.more f.value g.value s.more_blank t.more_blank s.value t.value rests in
    λ i. record { key = cut.fronts i; value = behind.rests i }

pub say_same : (lines : List (List ℕ)) (a b : List Field) → Say lines a → Say lines b → a ≡ b
say_same [] a b e f = e ∙ sym f
say_same (line ∷ lines) a b (inl (nothing, more)) (inl (nothing', more')) = say_same lines a b more more'
say_same (line ∷ lines) a b (inl (nothing, more)) (inr (f, rest, says, more', e)) = absurd (nothing f says)
say_same (line ∷ lines) a b (inr (f, rest, says, more, e)) (inl (nothing, more')) = absurd (nothing f says)
say_same (line ∷ lines) a b (inr (f, rest, says, more, e)) (inr (g, rest', says', more', e')) =
    e ∙ (λ i. says_same line f g says says' i ∷ say_same lines rest rest' more more' i) ∙ sym e'

-- lines and then more lines
pub say-append : (lines more : List (List ℕ)) (a b : List Field) → Say lines a → Say more b → Say (lines ++ more) (a ++ b)
say-append [] more a b e say = subst (λ l. Say more (l ++ b)) (sym e) say
say-append (line ∷ lines) more a b (inl (nothing, rest)) say = inl (nothing, say-append lines more a b rest say)
say-append (line ∷ lines) more a b (inr (f, later, says, rest, e)) say =
    inr (f, later ++ b, says, say-append lines more later b rest say, ap (λ l. l ++ b) e)

-- ---- what the search for a blank finds

one_of : (test : ℕ → Bool) (c : ℕ) (cs : List ℕ) → ((d : ℕ) → test d ≡ false → nat_eq d c ≡ false) → NonePass test cs → NonePass (λ d. nat_eq d c) cs
one_of test c [] narrower none = none
one_of test c (d ∷ cs) narrower (fails, none) = (narrower d fails, one_of test c cs narrower none)

lacks : (c : ℕ) (bs : List ℕ) → c < 128 → is_entry_blank c ≡ true → NoCharPasses is_entry_blank bs → (i : ℕ) → i < length bs → get_or bs i 0 ≢ c
lacks c bs ascii blank (cs, e, none) i within =
    NoCharPasses-char c bs i (cs, e, one_of is_entry_blank c cs (λ d fails. by_test (nat_eq d c) (λ same. not_both (is_entry_blank d) (ap is_entry_blank (eqb-true d c same) ∙ blank) fails)) none) ascii within

not_blank : (x : ℕ) → x ≢ 32 → x ≢ 9 → no_blank x ≡ true
not_blank x h k = grind (arith, nat_tests)

no_blank_from : (bs : List ℕ) → ((i : ℕ) → i < length bs → get_or bs i 0 ≢ 32) → ((i : ℕ) → i < length bs → get_or bs i 0 ≢ 9) → has_no_blank bs ≡ true
no_blank_from [] h k = refl
no_blank_from (x ∷ bs) h k =
    both_true (not_blank x (h 0 (omega arith)) (k 0 (omega arith))) (no_blank_from bs (λ i w. h (suc i) (omega arith)) (λ i w. k (suc i) (omega arith)))

lacks_blanks : (bs : List ℕ) → NoCharPasses is_entry_blank bs → has_no_blank bs ≡ true
lacks_blanks bs h = no_blank_from bs (lacks 32 bs (lit< tt) refl h) (lacks 9 bs (lit< tt) refl h)

lacks_it : (front rest : List ℕ) (x : ℕ) → has_no_blank (front ++ (x ∷ rest)) ≡ true → no_blank x ≡ true
lacks_it [] rest x h = first_so (no_blank x) _ h
lacks_it (y ∷ front) rest x h = lacks_it front rest x (second_so (no_blank y) _ h)

abbrev pub FindsBlank : List ℕ → Option (ℕ × ℕ) → Type 0
FindsBlank s found = (test : ℕ → Bool) → IsBlankTest test → FindsBy test s found

-- a line without a blank inside says nothing
pub says_nothing : (line text : List ℕ) → IsTrimmed line text → FindsBlank text None → SaysNothing line
says_nothing line text trimmed none field says =
    let here : text ≡ field.key ++ (says.blank ∷ (says.more ++ field.value)) = trimmed_same line text says.text trimmed says.trimmed ∙ says.is in
    not_both (no_blank says.blank) (lacks_it field.key (says.more ++ field.value) says.blank (ap has_no_blank (sym here) ∙ lacks_blanks text (none is_entry_blank set_is_blank))) (not_so (is_entry_blank says.blank) says.first_blank)

-- what ends with blanks ends with a blank
ends_blank : (text front more : List ℕ) (x : ℕ) → is_entry_blank x ≡ true → are_blanks more ≡ true → text ≡ front ++ (x ∷ more) → ends_with is_entry_blank text ≡ false → ⊥
ends_blank text front [] x h k e ends = not_both (is_entry_blank x) h (ends_at is_entry_blank text front x ends e)
ends_blank text front (y ∷ more) x h k e ends =
    ends_blank text (front ++ (x ∷ [])) more y (first_so (is_entry_blank y) _ k) (second_so (is_entry_blank y) _ k) (e ∙ sym (append_assoc front (x ∷ []) (y ∷ more))) ends

pub says_field : (line text key behind value : List ℕ) → IsTrimmed line text
    → SplitsAroundMatch FindsBlank text key behind → IsTrimStartMatches FindsBlankFront behind value
    → Says line (record { key = key; value = value })
says_field line text key behind value trimmed (i, j, found, front, back, more, short, long) cut =
    let hit = found is_entry_blank set_is_blank in
    let x : ℕ = hit.1.0 in
    let one : drop i text ≡ x ∷ behind = hit.1.2.split ∙ ap (λ b. b ++ drop j text) (encode_ascii x (blank_ascii x hit.1.1)) ∙ ap (λ b. x ∷ b) (sym back) in
    let whole : text ≡ key ++ (x ∷ behind) = sym (take-append-drop i text) ∙ ap (λ d. take i text ++ d) one ∙ ap (λ f. f ++ (x ∷ behind)) (sym front) in
    let rest = trimmed_front behind value cut in
    let parts : text ≡ key ++ (x ∷ (rest.0.front ++ value)) = whole ∙ ap (λ b. key ++ (x ∷ b)) rest.0.is in
    record {
      text = text;
      blank = x;
      more = rest.0.front;
      trimmed = trimmed;
      is = parts;
      key = ap has_no_blank front ∙ lacks_blanks (take i text) hit.0;
      first_blank = hit.1.1;
      more_blank = rest.0.blank;
      value = rest.1;
      some = λ empty. ends_blank text key rest.0.front x hit.1.1 rest.0.blank (parts ∙ ap (λ v. key ++ (x ∷ (rest.0.front ++ v))) empty ∙ ap (λ m. key ++ (x ∷ m)) (append-nil rest.0.front)) trimmed.ends;
    }

pub says_none : (line text : List ℕ) (found : Option (Bor (List ℕ) × Bor (List ℕ))) → found ≡ None → IsTrimmed line text → FindsBlank text None
    → MatchOption found (SaysNothing line) (λ f. Says line (record { key = f.0.now; value = f.1.now }))
says_none line text found e trimmed none =
    subst (λ o. MatchOption o (SaysNothing line) (λ f. Says line (record { key = f.0.now; value = f.1.now }))) (sym e) (says_nothing line text trimmed none)
