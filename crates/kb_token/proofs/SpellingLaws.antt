-- The value that a text spells is the only one, and a text without one has no spelling.
use Rattle.std.proofs.Common.{◌≡◌, inl, inr, ℕ, Bool, true, false, cond, not, ◌&&◌, ◌||◌, List, [], ◌∷◌, ◌++◌, map, refl, sym, ap, ◌∙◌, subst, nat_eq, arith}
use Rattle.std.specs.Prelude.{Option, Some, None, option_map, option_and_then, flat_map}
use Rattle.std.proofs.lemmas.Bool.{eqb-true, and_parts, and_from}
use Rattle.std.proofs.lemmas.Option.{same_Some}
use Rattle.std.proofs.lemmas.Bool.Decides.{nat_tests}
use Rattle.kb_token.specs.Only.{IsOnly}
use Rattle.kb_token.specs.Lines.{trimmed}
use Rattle.kb_token.specs.Variable.{QuotedByte, Plain, Escaped, quoted_spelling, quoted_meaning, can_be_quoted, are_quoted, begins_escapable, is_escapable, is_closed, unescaped, has, opens_with, before_quote, between, single_value, double_value, spelled_value, variable_of, IsBare, IsSingle, IsDouble, Spells, IsVariable, EQUALS, SINGLE_QUOTE, DOUBLE_QUOTE, BACKSLASH}
use Rattle.kb_token.specs.declared.variable.Variable.{Variable}
use Rattle.kb_token.proofs.VariableLaws.{before_quote_is, unescaped_is, variable_at, variable_none}

not_true : (b : Bool) → not b ≡ true → b ≡ false
not_true true e = let impossible : false ≡ true = e in cc
not_true false e = refl

-- ---- between double quotes

behind_plain : (text : List ℕ) → begins_escapable (text ++ DOUBLE_QUOTE ∷ []) ≡ false → begins_escapable text ≡ false
behind_plain [] e = refl
behind_plain (c ∷ rest) e = e

plain_is : (c : ℕ) → is_escapable c ≡ false → (nat_eq c BACKSLASH ≡ false) × (nat_eq c DOUBLE_QUOTE ≡ false)
plain_is c e = (plain c e, quote c e)
  where
    plain : (c : ℕ) → is_escapable c ≡ false → nat_eq c BACKSLASH ≡ false
    plain c e = grind (arith, nat_tests)

    quote : (c : ℕ) → is_escapable c ≡ false → nat_eq c DOUBLE_QUOTE ≡ false
    quote c e = grind (arith, nat_tests)

-- a backslash changes nothing before what it doesn't escape
closed_behind : (text : List ℕ) → begins_escapable (text ++ DOUBLE_QUOTE ∷ []) ≡ false → is_closed true text ≡ is_closed false text
closed_behind [] e = let impossible : true ≡ false = e in cc
closed_behind (c ∷ rest) e =
    let is = plain_is c e in
    ap (λ b. not b && is_closed false rest) (sym is.1) ∙ ap (λ b. not (nat_eq c DOUBLE_QUOTE) && is_closed b rest) (sym is.0)

pub closed_spelling : (bytes : List QuotedByte) → are_quoted bytes ≡ true → is_closed false (flat_map quoted_spelling bytes) ≡ true
closed_spelling [] e = refl
closed_spelling (Escaped c ∷ bytes) e = closed_spelling bytes (and_parts (is_escapable c) (are_quoted bytes) e).1
closed_spelling (Plain c ∷ bytes) e =
    let parts = and_parts (can_be_quoted (Plain c) (flat_map quoted_spelling bytes ++ DOUBLE_QUOTE ∷ [])) (are_quoted bytes) e in
    let can = and_parts (not (nat_eq c DOUBLE_QUOTE)) _ parts.0 in
    and_from (not (nat_eq c DOUBLE_QUOTE)) _ can.0 (by_cases (nat_eq c BACKSLASH) can.1 (closed_spelling bytes parts.1))
  where
    by_cases : (b : Bool) → not (b && begins_escapable (flat_map quoted_spelling bytes ++ DOUBLE_QUOTE ∷ [])) ≡ true → is_closed false (flat_map quoted_spelling bytes) ≡ true → is_closed b (flat_map quoted_spelling bytes) ≡ true
    by_cases false can closed = closed
    by_cases true can closed = closed_behind (flat_map quoted_spelling bytes) (not_true _ can) ∙ closed

pub unescaped_spelling : (bytes : List QuotedByte) → are_quoted bytes ≡ true → unescaped false (flat_map quoted_spelling bytes) ≡ map quoted_meaning bytes
unescaped_spelling [] e = refl
unescaped_spelling (Escaped c ∷ bytes) e =
    let parts = and_parts (is_escapable c) (are_quoted bytes) e in
    ap (λ b. cond b (c ∷ unescaped false (flat_map quoted_spelling bytes)) (BACKSLASH ∷ c ∷ unescaped false (flat_map quoted_spelling bytes))) parts.0 ∙ ap (λ t. c ∷ t) (unescaped_spelling bytes parts.1)
unescaped_spelling (Plain c ∷ bytes) e =
    let parts = and_parts (can_be_quoted (Plain c) (flat_map quoted_spelling bytes ++ DOUBLE_QUOTE ∷ [])) (are_quoted bytes) e in
    let can = and_parts (not (nat_eq c DOUBLE_QUOTE)) _ parts.0 in by_cases (nat_eq c BACKSLASH) refl can.1 ∙ ap (λ t. c ∷ t) (unescaped_spelling bytes parts.1)
  where
    by_cases : (b : Bool) → nat_eq c BACKSLASH ≡ b → not (b && begins_escapable (flat_map quoted_spelling bytes ++ DOUBLE_QUOTE ∷ [])) ≡ true
        → cond b (unescaped true (flat_map quoted_spelling bytes)) (c ∷ unescaped false (flat_map quoted_spelling bytes)) ≡ c ∷ unescaped false (flat_map quoted_spelling bytes)
    by_cases false is can = refl
    by_cases true is can =
        unescaped_is (flat_map quoted_spelling bytes) (behind_plain (flat_map quoted_spelling bytes) (not_true _ can)) ∙ ap (λ d. d ∷ unescaped false (flat_map quoted_spelling bytes)) (sym (eqb-true c BACKSLASH is))

record HasBytes (text : List ℕ) : Type 0 where
  bytes : List QuotedByte
  spelled : text ≡ flat_map quoted_spelling bytes
  whole : are_quoted bytes ≡ true

-- one byte more stands for itself
with_plain : (c : ℕ) (rest : List ℕ) → not (nat_eq c DOUBLE_QUOTE) ≡ true → not (nat_eq c BACKSLASH && begins_escapable (rest ++ DOUBLE_QUOTE ∷ [])) ≡ true → HasBytes rest → HasBytes (c ∷ rest)
with_plain c rest quote can has = record {
  bytes = Plain c ∷ has.bytes;
  spelled = ap (λ t. c ∷ t) has.spelled;
  whole = and_from _ (are_quoted has.bytes) (and_from _ _ quote (ap (λ t. not (nat_eq c BACKSLASH && begins_escapable (t ++ DOUBLE_QUOTE ∷ []))) (sym has.spelled) ∙ can)) has.whole;
}

with_escaped : (c : ℕ) (rest : List ℕ) → is_escapable c ≡ true → HasBytes rest → HasBytes (BACKSLASH ∷ c ∷ rest)
with_escaped c rest e has = record { bytes = Escaped c ∷ has.bytes; spelled = ap (λ t. BACKSLASH ∷ c ∷ t) has.spelled; whole = and_from (is_escapable c) (are_quoted has.bytes) e has.whole }

first_byte : (c d : ℕ) (rest : List ℕ) (slash escapes : Bool) → nat_eq c BACKSLASH ≡ slash → is_escapable d ≡ escapes → not (nat_eq c DOUBLE_QUOTE) ≡ true → is_closed slash (d ∷ rest) ≡ true
    → (is_closed false rest ≡ true → HasBytes rest) → (is_closed false (d ∷ rest) ≡ true → HasBytes (d ∷ rest)) → HasBytes (c ∷ d ∷ rest)
first_byte c d rest false escapes is e quote closed far near = with_plain c (d ∷ rest) quote (ap (λ b. not (b && is_escapable d)) is) (near closed)
first_byte c d rest true true is e quote closed far near = subst (λ x. HasBytes (x ∷ d ∷ rest)) (sym (eqb-true c BACKSLASH is)) (with_escaped d rest e (far closed))
first_byte c d rest true false is e quote closed far near =
    with_plain c (d ∷ rest) quote (ap (λ b. not (nat_eq c BACKSLASH && b)) e ∙ and_false (nat_eq c BACKSLASH)) (near (sym (closed_behind (d ∷ rest) e) ∙ closed))
  where
    and_false : (b : Bool) → not (b && false) ≡ true
    and_false true = refl
    and_false false = refl

closed_bytes : (text : List ℕ) → is_closed false text ≡ true → HasBytes text
closed_bytes [] e = record { bytes = []; spelled = refl; whole = refl }
closed_bytes (c ∷ []) e =
    let parts = and_parts (not (nat_eq c DOUBLE_QUOTE)) (not (nat_eq c BACKSLASH)) e in
    with_plain c [] parts.0 (ap (λ b. not (b && true)) (not_true (nat_eq c BACKSLASH) parts.1)) (record { bytes = []; spelled = refl; whole = refl })
closed_bytes (c ∷ d ∷ rest) e =
    let parts = and_parts (not (nat_eq c DOUBLE_QUOTE)) (is_closed (nat_eq c BACKSLASH) (d ∷ rest)) e in
    first_byte c d rest (nat_eq c BACKSLASH) (is_escapable d) refl refl parts.0 parts.1 (closed_bytes rest) (closed_bytes (d ∷ rest))

-- ---- a value

before_quote_tells : (quote : ℕ) (text inner : List ℕ) → before_quote quote text ≡ Some inner → text ≡ inner ++ quote ∷ []
before_quote_tells quote [] inner e = let impossible : None ≡ Some inner = e in cc
before_quote_tells quote (c ∷ []) inner e = by_cases (nat_eq c quote) refl e
  where
    by_cases : (b : Bool) → nat_eq c quote ≡ b → ◌≡◌ {A = Option (List ℕ)} (cond b (Some []) None) (Some inner) → c ∷ [] ≡ inner ++ quote ∷ []
    by_cases true is h = let none : [] ≡ inner = cc in ap (λ d. d ∷ []) (eqb-true c quote is) ∙ ap (λ t. t ++ quote ∷ []) none
    by_cases false is h = let impossible : ◌≡◌ {A = Option (List ℕ)} None (Some inner) = h in cc
before_quote_tells quote (c ∷ d ∷ rest) inner e = by_option (before_quote quote (d ∷ rest)) (before_quote_tells quote (d ∷ rest)) e
  where
    by_option : (o : Option (List ℕ)) → ((more : List ℕ) → o ≡ Some more → d ∷ rest ≡ more ++ quote ∷ []) → option_map (λ inner. c ∷ inner) o ≡ Some inner → c ∷ d ∷ rest ≡ inner ++ quote ∷ []
    by_option None tells h = let impossible : ◌≡◌ {A = Option (List ℕ)} None (Some inner) = h in cc
    by_option (Some more) tells h = let same : c ∷ more ≡ inner = cc in ap (λ t. c ∷ t) (tells more refl) ∙ ap (λ t. t ++ quote ∷ []) same

-- where the quotes are closed
double_is : (inner value : List ℕ) → double_value inner ≡ Some value → (is_closed false inner ≡ true) × (value ≡ trimmed (unescaped false inner))
double_is inner value e = by_cases (is_closed false inner) e
  where
    by_cases : (b : Bool) → ◌≡◌ {A = Option (List ℕ)} (cond b (Some (trimmed (unescaped false inner))) None) (Some value) → (b ≡ true) × (value ≡ trimmed (unescaped false inner))
    by_cases true h = let same : trimmed (unescaped false inner) ≡ value = cc in (refl, sym same)
    by_cases false h = let impossible : ◌≡◌ {A = Option (List ℕ)} None (Some value) = h in cc

single_is : (inner value : List ℕ) → single_value inner ≡ Some value → (has SINGLE_QUOTE inner ≡ false) × (value ≡ trimmed inner)
single_is inner value e = by_cases (has SINGLE_QUOTE inner) e
  where
    by_cases : (b : Bool) → ◌≡◌ {A = Option (List ℕ)} (cond b None (Some (trimmed inner))) (Some value) → (b ≡ false) × (value ≡ trimmed inner)
    by_cases false h = let same : trimmed inner ≡ value = cc in (refl, sym same)
    by_cases true h = let impossible : ◌≡◌ {A = Option (List ℕ)} None (Some value) = h in cc

as_single : (text inner value : List ℕ) → text ≡ SINGLE_QUOTE ∷ inner ++ SINGLE_QUOTE ∷ [] → single_value inner ≡ Some value → Spells text value
as_single text inner value is e = let it = single_is inner value e in inr (inl (record { inner = inner; quoted = is; plain = it.0; given = it.1 }))

as_double : (text inner value : List ℕ) → text ≡ DOUBLE_QUOTE ∷ inner ++ DOUBLE_QUOTE ∷ [] → double_value inner ≡ Some value → Spells text value
as_double text inner value is e =
    let it = double_is inner value e in
    let has = closed_bytes inner it.0 in
    inr (inr (record {
      bytes = has.bytes;
      quoted = is ∙ ap (λ t. DOUBLE_QUOTE ∷ t ++ DOUBLE_QUOTE ∷ []) has.spelled;
      whole = has.whole;
      given = it.1 ∙ ap trimmed (ap (unescaped false) has.spelled ∙ unescaped_spelling has.bytes has.whole);
    }))

between_tells : (quote c : ℕ) (rest inner : List ℕ) → nat_eq c quote ≡ true → between quote (c ∷ rest) ≡ Some inner → c ∷ rest ≡ quote ∷ inner ++ quote ∷ []
between_tells quote c rest inner is e =
    ap (λ d. d ∷ rest) (eqb-true c quote is) ∙ ap (λ t. quote ∷ t) (before_quote_tells quote rest inner (ap (λ b. cond b (before_quote quote rest) None) (sym is) ∙ e))

-- the function's value is spelled
pub value_is_spelled : (text value : List ℕ) → spelled_value text ≡ Some value → Spells text value
value_is_spelled [] value e = let same : [] ≡ value = cc in inl (record { unquoted = refl; given = sym same })
value_is_spelled (c ∷ rest) value e = by_cases (nat_eq c SINGLE_QUOTE) (nat_eq c DOUBLE_QUOTE) refl refl e
  where
    single : nat_eq c SINGLE_QUOTE ≡ true → (o : Option (List ℕ)) → between SINGLE_QUOTE (c ∷ rest) ≡ o → option_and_then single_value o ≡ Some value → Spells (c ∷ rest) value
    single is None at h = let impossible : ◌≡◌ {A = Option (List ℕ)} None (Some value) = h in cc
    single is (Some inner) at h = as_single (c ∷ rest) inner value (between_tells SINGLE_QUOTE c rest inner is at) h

    double : nat_eq c DOUBLE_QUOTE ≡ true → (o : Option (List ℕ)) → between DOUBLE_QUOTE (c ∷ rest) ≡ o → option_and_then double_value o ≡ Some value → Spells (c ∷ rest) value
    double is None at h = let impossible : ◌≡◌ {A = Option (List ℕ)} None (Some value) = h in cc
    double is (Some inner) at h = as_double (c ∷ rest) inner value (between_tells DOUBLE_QUOTE c rest inner is at) h

    by_cases : (s d : Bool) → nat_eq c SINGLE_QUOTE ≡ s → nat_eq c DOUBLE_QUOTE ≡ d
        → cond s (option_and_then single_value (between SINGLE_QUOTE (c ∷ rest))) (cond d (option_and_then double_value (between DOUBLE_QUOTE (c ∷ rest))) (Some (c ∷ rest))) ≡ Some value
        → Spells (c ∷ rest) value
    by_cases true d is other h = single is (between SINGLE_QUOTE (c ∷ rest)) refl h
    by_cases false true is other h = double other (between DOUBLE_QUOTE (c ∷ rest)) refl h
    by_cases false false is other h = let same : c ∷ rest ≡ value = cc in inl (record { unquoted = ap (λ b. b || nat_eq c DOUBLE_QUOTE) is ∙ other; given = sym same })

-- ---- the only one

spelled_bare : (text value : List ℕ) → IsBare text value → spelled_value text ≡ Some value
spelled_bare text value it = neither (opens_with SINGLE_QUOTE text) (opens_with DOUBLE_QUOTE text) _ _ it.unquoted ∙ ap Some (sym it.given)
  where
    neither : (s d : Bool) (a b : Option (List ℕ)) → (s || d) ≡ false → cond s a (cond d b (Some text)) ≡ Some text
    neither true d a b e = let impossible : true ≡ false = e in cc
    neither false true a b e = let impossible : true ≡ false = e in cc
    neither false false a b e = refl

spelled_single : (text value : List ℕ) → IsSingle text value → spelled_value text ≡ Some value
spelled_single text value it =
    ap spelled_value it.quoted ∙ ap (option_and_then single_value) (before_quote_is SINGLE_QUOTE it.inner) ∙ ap (λ b. cond b None (Some (trimmed it.inner))) it.plain ∙ ap Some (sym it.given)

spelled_double : (text value : List ℕ) → IsDouble text value → spelled_value text ≡ Some value
spelled_double text value it =
    let inner = flat_map quoted_spelling it.bytes in
    ap spelled_value it.quoted ∙ ap (option_and_then double_value) (before_quote_is DOUBLE_QUOTE inner)
    ∙ ap (λ b. cond b (Some (trimmed (unescaped false inner))) None) (closed_spelling it.bytes it.whole) ∙ ap (λ t. Some (trimmed t)) (unescaped_spelling it.bytes it.whole) ∙ ap Some (sym it.given)

pub spelled_is_value : (text value : List ℕ) → Spells text value → spelled_value text ≡ Some value
spelled_is_value text value (inl it) = spelled_bare text value it
spelled_is_value text value (inr (inl it)) = spelled_single text value it
spelled_is_value text value (inr (inr it)) = spelled_double text value it

only_from : {X : Type 0} (P : X → Type 0) (o : Option X) → ((x : X) → o ≡ Some x → P x) → ((x : X) → P x → o ≡ Some x) → IsOnly P o
only_from P None sound whole = λ x has. let impossible : None ≡ Some x = whole x has in cc
only_from P (Some x) sound whole = (sound x refl, λ y has. let same : x ≡ y = same_Some x y (whole y has) in sym same)

-- ---- a line

with_key_is : (key : List ℕ) (o : Option (List ℕ)) (variable : Variable) → option_map (λ value. record { key = key; value = value }) o ≡ Some variable → (variable.key ≡ key) × (o ≡ Some variable.value)
with_key_is key None variable e = let impossible : ◌≡◌ {A = Option Variable} None (Some variable) = e in cc
with_key_is key (Some value) variable e =
    let made : Variable = record { key = key; value = value } in
    let same : made ≡ variable = same_Some made variable e in (ap (λ (v : Variable). v.key) (sym same), ap (λ (v : Variable). Some v.value) same)

-- before the first `=` and behind it
record HasCut (line : List ℕ) : Type 0 where
  key : List ℕ
  spelling : List ℕ
  is : line ≡ key ++ EQUALS ∷ spelling
  none : has EQUALS key ≡ false

cut_line : (line : List ℕ) → has EQUALS line ≡ true → HasCut line
cut_line [] e = let impossible : false ≡ true = e in cc
cut_line (c ∷ rest) e = by_cases (nat_eq c EQUALS) refl e (cut_line rest)
  where
    by_cases : (b : Bool) → nat_eq c EQUALS ≡ b → (b || has EQUALS rest) ≡ true → (has EQUALS rest ≡ true → HasCut rest) → HasCut (c ∷ rest)
    by_cases true is h later = record { key = []; spelling = rest; is = ap (λ d. d ∷ rest) (eqb-true c EQUALS is); none = refl }
    by_cases false is h later =
        let cut = later h in record { key = c ∷ cut.key; spelling = cut.spelling; is = ap (λ t. c ∷ t) cut.is; none = ap (λ b. b || has EQUALS cut.key) is ∙ cut.none }

variable_is_spelled : (line : List ℕ) (variable : Variable) → variable_of line ≡ Some variable → IsVariable line variable
variable_is_spelled line variable e = by_cases (has EQUALS line) refl
  where
    by_cases : (b : Bool) → has EQUALS line ≡ b → IsVariable line variable
    by_cases true there =
        let cut = cut_line line there in
        let it = with_key_is cut.key (spelled_value (trimmed cut.spelling)) variable (sym (variable_at line cut.key cut.spelling cut.is cut.none) ∙ e) in
        record {
          spelling = cut.spelling;
          spelled = cut.is ∙ ap (λ k. k ++ EQUALS ∷ cut.spelling) (sym it.0);
          key = ap (has EQUALS) it.0 ∙ cut.none;
          value = value_is_spelled (trimmed cut.spelling) variable.value it.1;
        }
    by_cases false there = let impossible : ◌≡◌ {A = Option Variable} None (Some variable) = sym (variable_none line there) ∙ e in cc

spelled_is_variable : (line : List ℕ) (variable : Variable) → IsVariable line variable → variable_of line ≡ Some variable
spelled_is_variable line variable it =
    variable_at line variable.key it.spelling it.spelled it.key
    ∙ ap (option_map (λ value. record { key = variable.key; value = value })) (spelled_is_value (trimmed it.spelling) variable.value it.value)

pub variable_is_only : (line : List ℕ) → IsOnly (IsVariable line) (variable_of line)
variable_is_only line = only_from (IsVariable line) (variable_of line) (variable_is_spelled line) (spelled_is_variable line)
