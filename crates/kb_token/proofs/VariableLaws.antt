-- What is between quotes, what a backslash gives, and which line gives a key last.
use Rattle.std.proofs.Common.{◌≡◌, ◌≢◌, ℕ, suc, ◌+◌, ◌<◌, Bool, true, false, cond, not, ◌&&◌, ◌||◌, List, [], ◌∷◌, ◌++◌, length, take, drop, get_or, Option, Some, None, refl, sym, ap, ◌∙◌, subst, arith, nat_eq, append_assoc, eq-eqb, add-one, drop-cons, length-append, Bor}
use Rattle.std.specs.Prelude.{MatchOption, option_map}
use Rattle.std.specs.List.{before_first, after_first, position_or_len}
use Rattle.std.specs.Option.{option_copied, option_or}
use Rattle.std.specs.Str.{IsUtf8, IsCharBoundary}
use Rattle.std.proofs.lemmas.Str.{IsCharBoundary-after_ascii, IsUtf8-drop}
use Rattle.std.proofs.Math.Seq.{get_or-append_seam, drop-append-add, take-append_seam}
use Rattle.std.proofs.lemmas.Bool.{ne_eqb}
use Rattle.std.proofs.lemmas.Bool.Decides.{nat_tests}
use Rattle.kb_token.specs.Variable.{has, before_quote, between, unescaped, is_escapable, begins_escapable, is_closed, BACKSLASH, DOUBLE_QUOTE, variable_value, value_for, variable_of, spelled_value, EQUALS}
use Rattle.kb_token.specs.Lines.{trimmed}

-- ---- quotes

pub before_quote_is : (quote : ℕ) (inner : List ℕ) → before_quote quote (inner ++ quote ∷ []) ≡ Some inner
before_quote_is quote [] = ap (λ b. cond b (Some []) None) (eq-eqb quote quote refl)
before_quote_is quote (c ∷ []) = ap (option_map (λ inner. c ∷ inner)) (before_quote_is quote [])
before_quote_is quote (c ∷ d ∷ rest) = ap (option_map (λ inner. c ∷ inner)) (before_quote_is quote (d ∷ rest))

other_byte : (c quote : ℕ) (o : Option (List ℕ)) → (c ≡ quote → ⊥) → cond (nat_eq c quote) o None ≡ None
other_byte c quote o other = ap (λ b. cond b o None) (ne_eqb c quote other)

pub before_quote_none : (quote : ℕ) (text : List ℕ) → ((front : List ℕ) → text ≢ front ++ quote ∷ []) → before_quote quote text ≡ None
before_quote_none quote [] none = refl
before_quote_none quote (c ∷ []) none = other_byte c quote (Some []) (λ e. none [] (ap (λ x. x ∷ []) e))
before_quote_none quote (c ∷ d ∷ rest) none = ap (option_map (λ inner. c ∷ inner)) (before_quote_none quote (d ∷ rest) (λ front e. none (c ∷ front) (ap (λ x. c ∷ x) e)))

pub between_none : (quote : ℕ) (text : List ℕ) → ((rest : List ℕ) → text ≢ quote ∷ rest) → between quote text ≡ None
between_none quote [] none = refl
between_none quote (c ∷ rest) none = other_byte c quote (before_quote quote rest) (λ e. none rest (ap (λ x. x ∷ rest) e))

between_at : (quote : ℕ) (rest : List ℕ) → between quote (quote ∷ rest) ≡ before_quote quote rest
between_at quote rest = ap (λ b. cond b (before_quote quote rest) None) (eq-eqb quote quote refl)

-- what a strip of a quote at the end gives, behind one at the front
pub between_is : (quote : ℕ) (text rest : List ℕ) (r : Option (Bor (List ℕ))) → text ≡ quote ∷ rest
    → MatchOption r ((front : List ℕ) → rest ≢ front ++ quote ∷ []) (λ x. rest ≡ x.now ++ quote ∷ []) → option_copied r ≡ between quote text
between_is quote text rest None is h = sym (ap (between quote) is ∙ between_at quote rest ∙ before_quote_none quote rest h)
between_is quote text rest (Some x) is h = sym (ap (between quote) is ∙ between_at quote rest ∙ ap (before_quote quote) h ∙ before_quote_is quote x.now)

-- ---- what a text has

pub has_none : (c : ℕ) (text : List ℕ) → ((i : ℕ) → i < length text → get_or text i 0 ≢ c) → has c text ≡ false
has_none c [] none = refl
has_none c (d ∷ rest) none =
    ap (λ b. b || has c rest) (ne_eqb d c (none 0 (omega arith))) ∙ has_none c rest (λ i l. let behind : suc i < length (d ∷ rest) = omega arith in none (suc i) behind)

-- ---- backslashes

first_other : (mark c : ℕ) (rest : List ℕ) → has mark (c ∷ rest) ≡ false → (nat_eq c mark ≡ false) × (has mark rest ≡ false)
first_other mark c rest none = by_cases (nat_eq c mark) (has mark rest) none
  where
    by_cases : (a b : Bool) → (a || b) ≡ false → (a ≡ false) × (b ≡ false)
    by_cases true b e = let impossible : true ≡ false = e in cc
    by_cases false b e = (refl, e)

-- what stands before the first backslash is as it is
pub unescaped_plain : (plain behind : List ℕ) → has BACKSLASH plain ≡ false → unescaped false (plain ++ behind) ≡ plain ++ unescaped false behind
unescaped_plain [] behind none = refl
unescaped_plain (c ∷ rest) behind none =
    let first = first_other BACKSLASH c rest none in
    ap (λ b. cond b (unescaped true (rest ++ behind)) (c ∷ unescaped false (rest ++ behind))) first.0 ∙ ap (λ x. c ∷ x) (unescaped_plain rest behind first.1)

pub unescaped_whole : (plain : List ℕ) → has BACKSLASH plain ≡ false → unescaped false plain ≡ plain
unescaped_whole [] none = refl
unescaped_whole (c ∷ rest) none =
    let first = first_other BACKSLASH c rest none in ap (λ b. cond b (unescaped true rest) (c ∷ unescaped false rest)) first.0 ∙ ap (λ x. c ∷ x) (unescaped_whole rest first.1)

-- ---- the last line that gives a key

pub given_more : (key : List ℕ) (lines : List (List ℕ)) (line : List ℕ) → variable_value key (lines ++ line ∷ []) ≡ option_or (value_for key (variable_of line)) (variable_value key lines)
given_more key [] line = or_none (value_for key (variable_of line))
  where
    or_none : (o : Option (List ℕ)) → option_or None o ≡ option_or o None
    or_none None = refl
    or_none (Some x) = refl
given_more key (first ∷ lines) line = ap (λ o. option_or o (value_for key (variable_of first))) (given_more key lines line) ∙ or_assoc (value_for key (variable_of line)) (variable_value key lines) _
  where
    or_assoc : (a b c : Option (List ℕ)) → option_or (option_or a b) c ≡ option_or a (option_or b c)
    or_assoc None b c = refl
    or_assoc (Some x) b c = refl

-- ---- cuts

pub cut_is : (c : ℕ) (text : List ℕ) (r : Option (Bor (List ℕ) × Bor (List ℕ)))
    → MatchOption r ((i : ℕ) → i < length text → get_or text i 0 ≢ c) (λ x. (text ≡ x.0.now ++ (c ∷ x.1.now)) × ((i : ℕ) → i < length x.0.now → get_or x.0.now i 0 ≢ c))
    → MatchOption r (has c text ≡ false) (λ x. (text ≡ x.0.now ++ c ∷ x.1.now) × (has c x.0.now ≡ false))
cut_is c text None h = has_none c text h
cut_is c text (Some x) h = (h.0, has_none c x.0.now h.1)

pub strip_is : (c : ℕ) (text : List ℕ) (r : Option (Bor (List ℕ)))
    → MatchOption r ((front : List ℕ) → text ≢ front ++ (c ∷ [])) (λ x. text ≡ x.now ++ (c ∷ [])) → option_copied r ≡ before_quote c text
strip_is c text None h = sym (before_quote_none c text h)
strip_is c text (Some x) h = sym (ap (before_quote c) h ∙ before_quote_is c x.now)

-- ---- behind a backslash

escapable_is_ascii : (c : ℕ) → is_escapable c ≡ true → c < 128
escapable_is_ascii c e = grind (arith, nat_tests)

pub cut_escaped : (text : List ℕ) → IsUtf8 text → begins_escapable text ≡ true → IsCharBoundary text 1
cut_escaped [] u e = let impossible : false ≡ true = e in cc
cut_escaped (c ∷ rest) u e = IsCharBoundary-after_ascii (c ∷ rest) 0 u (omega arith) (escapable_is_ascii c e)

pub escaped_is : (text : List ℕ) → begins_escapable text ≡ true → unescaped true text ≡ take 1 text ++ unescaped false (drop 1 text)
escaped_is [] e = let impossible : false ≡ true = e in cc
escaped_is (c ∷ rest) e = ap (λ b. cond b (c ∷ unescaped false rest) (BACKSLASH ∷ c ∷ unescaped false rest)) e

pub unescaped_is : (text : List ℕ) → begins_escapable text ≡ false → unescaped true text ≡ BACKSLASH ∷ unescaped false text
unescaped_is [] e = refl
unescaped_is (c ∷ rest) e =
    let other : nat_eq c BACKSLASH ≡ false = no_backslash c e in
    ap (λ b. cond b (c ∷ unescaped false rest) (BACKSLASH ∷ c ∷ unescaped false rest)) e
    ∙ ap (λ b. BACKSLASH ∷ cond b (unescaped true rest) (c ∷ unescaped false rest)) (sym other)
  where
    no_backslash : (c : ℕ) → is_escapable c ≡ false → nat_eq c BACKSLASH ≡ false
    no_backslash c e = grind (arith, nat_tests)

-- ---- closed

pub closed_step : (inner : List ℕ) (i : ℕ) (behind : Bool) → i < length inner
    → is_closed behind (drop i inner) ≡ ((behind || not (nat_eq (get_or inner i 0) DOUBLE_QUOTE)) && is_closed (not behind && nat_eq (get_or inner i 0) BACKSLASH) (drop (i + 1) inner))
closed_step inner i behind l = ap (is_closed behind) (drop-cons inner i 0 l) ∙ ap (λ n. (behind || not (nat_eq (get_or inner i 0) DOUBLE_QUOTE)) && is_closed (not behind && nat_eq (get_or inner i 0) BACKSLASH) (drop n inner)) (sym (add-one i))

-- what follows an ASCII byte is a text
pub utf8_behind : (c : ℕ) (text before behind : List ℕ) → c < 128 → text ≡ before ++ c ∷ behind → IsUtf8 text → IsUtf8 behind
utf8_behind c text before behind small is u =
    let at : get_or text (length before) 0 ≡ c = ap (λ t. get_or t (length before) 0) is ∙ get_or-append_seam before c behind 0 in
    let within : length before < length text = omega (arith, ap length is, length-append before (c ∷ behind)) in
    let rest : drop (length before + 1) text ≡ behind = ap (drop (length before + 1)) is ∙ drop-append-add before (c ∷ behind) 1 in
    subst IsUtf8 rest (IsUtf8-drop text (length before + 1) u (IsCharBoundary-after_ascii text (length before) u within (omega (arith, at))))

pub utf8_after : (text : List ℕ) (n : ℕ) → n ≡ cond (begins_escapable text) 1 0 → IsUtf8 text → IsUtf8 (drop n text)
utf8_after text n is u = by_cases (begins_escapable text) refl is
  where
    by_cases : (b : Bool) → begins_escapable text ≡ b → n ≡ cond b 1 0 → IsUtf8 (drop n text)
    by_cases true e is = rw is (IsUtf8-drop text 1 u (cut_escaped text u e))
    by_cases false e is = rw is u

-- one backslash more is read
pub unescaped_more : (rest plain behind given after value : List ℕ) → rest ≡ plain ++ BACKSLASH ∷ behind → has BACKSLASH plain ≡ false
    → unescaped true behind ≡ given ++ unescaped false after → value ++ unescaped false rest ≡ (value ++ plain) ++ given ++ unescaped false after
unescaped_more rest plain behind given after value is none gives =
    ap (λ t. value ++ unescaped false t) is ∙ ap (λ t. value ++ t) (unescaped_plain plain (BACKSLASH ∷ behind) none ∙ ap (λ t. plain ++ t) gives)
    ∙ sym (append_assoc value plain (given ++ unescaped false after)) ∙ sym (append_assoc (value ++ plain) given (unescaped false after))

-- ---- a line with `=`

position_is : (c : ℕ) (key rest : List ℕ) → has c key ≡ false → position_or_len (λ d. nat_eq d c) (key ++ c ∷ rest) ≡ length key
position_is c [] rest none = ap (λ b. cond (not b) (1 + position_or_len (λ d. nat_eq d c) rest) 0) (eq-eqb c c refl)
position_is c (d ∷ key) rest none =
    let first = first_other c d key none in
    let behind = position_is c key rest first.1 in
    let step = ap (λ b. cond (not b) (1 + position_or_len (λ e. nat_eq e c) (key ++ c ∷ rest)) 0) first.0 in omega (arith, step, behind)

has_it : (c : ℕ) (key rest : List ℕ) → has c (key ++ c ∷ rest) ≡ true
has_it c [] rest = ap (λ b. b || has c rest) (eq-eqb c c refl)
has_it c (d ∷ key) rest = ap (λ b. nat_eq d c || b) (has_it c key rest) ∙ or_true (nat_eq d c)
  where
    or_true : (b : Bool) → (b || true) ≡ true
    or_true true = refl
    or_true false = refl

pub variable_at : (line key spelling : List ℕ) → line ≡ key ++ EQUALS ∷ spelling → has EQUALS key ≡ false
    → variable_of line ≡ option_map (λ value. record { key = key; value = value }) (spelled_value (trimmed spelling))
unfolding variable_of
variable_at line key spelling is none =
    let there : has EQUALS line ≡ true = ap (has EQUALS) is ∙ has_it EQUALS key spelling in
    let n = position_or_len (λ d. nat_eq d EQUALS) line in
    let at : n ≡ length key = ap (position_or_len (λ d. nat_eq d EQUALS)) is ∙ position_is EQUALS key spelling none in
    let before : before_first (λ d. nat_eq d EQUALS) line ≡ key = ap (λ k. take k line) at ∙ ap (take (length key)) is ∙ take-append_seam key (EQUALS ∷ spelling) in
    let behind : after_first (λ d. nat_eq d EQUALS) line ≡ spelling = ap (λ k. drop (k + 1) line) at ∙ ap (drop (length key + 1)) is ∙ drop-append-add key (EQUALS ∷ spelling) 1 in
    ap (λ b. cond b (option_map (λ value. record { key = before_first (λ d. nat_eq d EQUALS) line; value = value }) (spelled_value (trimmed (after_first (λ d. nat_eq d EQUALS) line)))) None) there
    ∙ ap (λ k. option_map (λ value. record { key = k; value = value }) (spelled_value (trimmed (after_first (λ d. nat_eq d EQUALS) line)))) before
    ∙ ap (λ s. option_map (λ value. record { key = key; value = value }) (spelled_value (trimmed s))) behind

pub variable_none : (line : List ℕ) → has EQUALS line ≡ false → variable_of line ≡ None
unfolding variable_of
variable_none line none = ap (λ b. cond b (option_map (λ value. record { key = before_first (λ d. nat_eq d EQUALS) line; value = value }) (spelled_value (trimmed (after_first (λ d. nat_eq d EQUALS) line)))) None) none

-- what is read of a line with `=`
pub variable_read : (line key spelling text : List ℕ) (told : Option (List ℕ)) → line ≡ key ++ EQUALS ∷ spelling → has EQUALS key ≡ false → text ≡ trimmed spelling → told ≡ spelled_value text
    → variable_of line ≡ option_map (λ value. record { key = key; value = value }) told
variable_read line key spelling text told is none trim value =
    variable_at line key spelling is none ∙ ap (λ t. option_map (λ value. record { key = key; value = value }) (spelled_value t)) (sym trim) ∙ ap (option_map (λ value. record { key = key; value = value })) (sym value)
