-- The reading of names is what the relation says.
use Rattle.std.proofs.Common.{◌≡◌, ◌≢◌, ℕ, suc, ◌+◌, ◌-◌, ◌^◌, ◌<◌, ◌≤◌, Bool, true, false, cond, not, ◌&&◌, List, [], ◌∷◌, ◌++◌, length, take, drop, get_or, nat_eq, nat_lt, nat_le, Option, Some, None, option_map, option_and_then, ◌==◌, Result, Ok, Err, MatchOption, Bor, refl, sym, ap, ◌∙◌, subst, arith, rules}
use Rattle.std.specs.List.{list_all}
use Rattle.std.specs.Char.{is_ascii_digit}
use Rattle.std.specs.Result.{result_ok, OkIff}
use Rattle.std.specs.Str.{byte, NoCharPasses}
use Rattle.std.specs.Str.Parse.{digits_value, ParsesUnsigned}
use Rattle.std.specs.Str.Pattern.{RFindsChar}
use Rattle.std.specs.Cmp.{first_so, second_so}
use Rattle.std.specs.Cmp.Derive.{both_true}
use Rattle.std.proofs.lemmas.Bool.{eqb-true}
use Rattle.std.proofs.lemmas.Bool.Decides.{nat_tests}
use Rattle.std.proofs.lemmas.List.{take-append-drop}
use Rattle.std.proofs.lemmas.Str.Parse.{IsNumeralModel, numerals_by_value, parse_digits, digits_value_short}
use Rattle.std.proofs.lemmas.Str.Pattern.{NoCharPasses-char, drop_at_char, IsSplitOnceResult, split_parts}
use Rattle.kb_bls.specs.declared.name.Counter.{Counter}
use Rattle.kb_bls.specs.declared.name.Counter.TheVariants.{Left}
use Rattle.kb_bls.specs.Names.{is_count, IsTriedOnce}
use Rattle.kb_bls.specs.Reading.{Cut, with_front, cut_first, cut_here, cut_last, count_in, left_with, counter_of_parts, counter_in, Reading, counted_at, counted}
use Rattle.kb_bls.proofs.EndLaws.{by_test, not_both}

-- ---- tries

pub tried_once : (c : Counter) (left done : ℕ) → c ≡ Left left done → 0 < left → IsTriedOnce c (Left (left - 1) (done + 1))
tried_once c left done is some = subst (λ b. IsTriedOnce b (Left (left - 1) (done + 1))) (sym is) (omega arith, refl)

-- ---- numbers

pub digits_model : IsNumeralModel (λ ds. list_all is_ascii_digit ds ≡ true) (digits_value 10)
digits_model = numerals_by_value (λ ds. list_all is_ascii_digit ds ≡ true) (search rules)

-- the parts of a number
pub record IsShort (text : List ℕ) : Type 0 where
  pub some : 0 < length text
  pub few : length text ≤ 9
  pub digits : list_all is_ascii_digit text ≡ true

pub short : (text : List ℕ) → is_count text ≡ true → IsShort text
short text h =
    let sizes = first_so (nat_lt 0 (length text) && nat_le (length text) 9) (list_all is_ascii_digit text) h in
    let some : nat_lt 0 (length text) ≡ true = first_so (nat_lt 0 (length text)) (nat_le (length text) 9) sizes in
    let few : nat_le (length text) 9 ≡ true = second_so (nat_lt 0 (length text)) (nat_le (length text) 9) sizes in
    record { some = grind (arith, nat_tests); few = grind (arith, nat_tests); digits = second_so (nat_lt 0 (length text) && nat_le (length text) 9) (list_all is_ascii_digit text) h }

pub number_read : {E : Type 0} (text : List ℕ) (r : Result ℕ E) → is_count text ≡ true → ParsesUnsigned 32 10 text r → result_ok r ≡ count_in text
number_read {E = E} text r h parses =
    let s = short text h in
    let small : digits_value 10 text < 10 ^ 9 = digits_value_short digits_model text 9 s.digits s.few in
    parsed r (parse_digits digits_model 32 text r parses s.digits) s.some (omega (arith, small)) ∙ ap (λ b. cond b (Some (digits_value 10 text)) None) (sym h)
  where
    parsed : (r : Result ℕ E) → OkIff r ((0 < length text) × (digits_value 10 text < 2 ^ 32)) (digits_value 10 text) → 0 < length text → digits_value 10 text < 2 ^ 32 → result_ok r ≡ Some (digits_value 10 text)
    parsed (Ok x) (fits, is) some small = ap Some is
    parsed (Err e) never some small = absurd (never (some, small))

-- ---- cuts

abbrev pub isnt : ℕ → ℕ → Bool
isnt c x = not (nat_eq x c)

abbrev pub lacks : ℕ → List ℕ → Bool
lacks c text = list_all (isnt c) text

isnt_false : (c x : ℕ) → isnt c x ≡ true → nat_eq x c ≡ false
isnt_false c x h = by_test (nat_eq x c) (λ e. not_both (isnt c x) h (ap not e))

pub isnt_from : (c x : ℕ) → x ≢ c → isnt c x ≡ true
isnt_from c x h = ap not (by_test (nat_eq x c) (λ e. h (eqb-true x c e)))

pub same_byte : (c : ℕ) → nat_eq c c ≡ true
same_byte c = grind (arith, nat_tests)

-- what an index tells
lacks_from : (c : ℕ) (text : List ℕ) → ((i : ℕ) → i < length text → get_or text i 0 ≢ c) → lacks c text ≡ true
lacks_from c [] h = refl
lacks_from c (x ∷ text) h = both_true (isnt_from c x (h 0 (omega arith))) (lacks_from c text (λ i within. h (suc i) (omega arith)))

pub first_none : (c : ℕ) (text : List ℕ) → lacks c text ≡ true → cut_first c text ≡ None
first_none c [] h = refl
first_none c (x ∷ text) h =
    ap (λ b. cond b (Some ([], text)) (option_map (with_front x) (cut_first c text))) (isnt_false c x (first_so (isnt c x) _ h))
    ∙ ap (option_map (with_front x)) (first_none c text (second_so (isnt c x) _ h))

pub first_there : (c : ℕ) (front back : List ℕ) → lacks c front ≡ true → cut_first c (front ++ c ∷ back) ≡ Some (front, back)
first_there c [] back h = ap (λ b. cond b (Some ([], back)) (option_map (with_front c) (cut_first c back))) (same_byte c)
first_there c (x ∷ front) back h =
    ap (λ b. cond b (Some ([], front ++ c ∷ back)) (option_map (with_front x) (cut_first c (front ++ c ∷ back)))) (isnt_false c x (first_so (isnt c x) _ h))
    ∙ ap (option_map (with_front x)) (first_there c front back (second_so (isnt c x) _ h))

pub last_none : (c : ℕ) (text : List ℕ) → lacks c text ≡ true → cut_last c text ≡ None
last_none c [] h = refl
last_none c (x ∷ text) h =
    ap (cut_here c x text) (last_none c text (second_so (isnt c x) _ h)) ∙ ap (λ b. cond b (Some ([], text)) None) (isnt_false c x (first_so (isnt c x) _ h))

pub last_there : (c : ℕ) (front back : List ℕ) → lacks c back ≡ true → cut_last c (front ++ c ∷ back) ≡ Some (front, back)
last_there c [] back h = ap (cut_here c c back) (last_none c back h) ∙ ap (λ b. cond b (Some ([], back)) None) (same_byte c)
last_there c (x ∷ front) back h = ap (cut_here c x (front ++ c ∷ back)) (last_there c front back h)

-- a cut stands where it says
abbrev pub StandsAt : ℕ → List ℕ → Cut → Type 0
StandsAt c text cut = text ≡ cut.0 ++ c ∷ cut.1

here : (c x : ℕ) (text : List ℕ) (cut : Cut) → nat_eq x c ≡ true → ◌≡◌ {A = Cut} ([], text) cut → StandsAt c (x ∷ text) cut
here c x text cut is same = ap (λ y. y ∷ text) (eqb-true x c is) ∙ ap (λ q. q.0 ++ c ∷ q.1) same

further : (c x : ℕ) (text : List ℕ) (inner cut : Cut) → StandsAt c text inner → with_front x inner ≡ cut → StandsAt c (x ∷ text) cut
further c x text inner cut is same = ap (λ t. x ∷ t) is ∙ ap (λ q. q.0 ++ c ∷ q.1) same

first_later : (c x : ℕ) (text : List ℕ) (cut : Cut) (inner : Option Cut) → ((q : Cut) → inner ≡ Some q → StandsAt c text q) → option_map (with_front x) inner ≡ Some cut → StandsAt c (x ∷ text) cut
first_later c x text cut None again k = cc
first_later c x text cut (Some inner) again k = let same : with_front x inner ≡ cut = cc in further c x text inner cut (again inner refl) same

first_step : (c x : ℕ) (text : List ℕ) (cut : Cut) (b : Bool) → nat_eq x c ≡ b → ((q : Cut) → cut_first c text ≡ Some q → StandsAt c text q)
    → cond b (Some ([], text)) (option_map (with_front x) (cut_first c text)) ≡ Some cut → StandsAt c (x ∷ text) cut
first_step c x text cut true is again k = let same : ◌≡◌ {A = Cut} ([], text) cut = cc in here c x text cut is same
first_step c x text cut false is again k = first_later c x text cut (cut_first c text) again k

pub first_is : (c : ℕ) (text : List ℕ) (cut : Cut) → cut_first c text ≡ Some cut → StandsAt c text cut
first_is c [] cut e = cc
first_is c (x ∷ text) cut e = first_step c x text cut (nat_eq x c) refl (λ q k. first_is c text q k) e

last_here : (c x : ℕ) (text : List ℕ) (cut : Cut) (b : Bool) → nat_eq x c ≡ b → cond b (Some ([], text)) None ≡ Some cut → StandsAt c (x ∷ text) cut
last_here c x text cut true is k = let same : ◌≡◌ {A = Cut} ([], text) cut = cc in here c x text cut is same
last_here c x text cut false is k = cc

last_step : (c x : ℕ) (text : List ℕ) (cut : Cut) (inner : Option Cut) → ((q : Cut) → inner ≡ Some q → StandsAt c text q) → cut_here c x text inner ≡ Some cut → StandsAt c (x ∷ text) cut
last_step c x text cut (Some inner) again k = let same : with_front x inner ≡ cut = cc in further c x text inner cut (again inner refl) same
last_step c x text cut None again k = last_here c x text cut (nat_eq x c) refl k

pub last_is : (c : ℕ) (text : List ℕ) (cut : Cut) → cut_last c text ≡ Some cut → StandsAt c text cut
last_is c [] cut e = cc
last_is c (x ∷ text) cut e = last_step c x text cut (cut_last c text) (λ q k. last_is c text q k) e

-- ---- what the searches answer

abbrev Parts : Type 0
Parts = Option (Bor (List ℕ) × Bor (List ℕ))

pub first_found : (c : ℕ) (text : List ℕ) (found : Parts) → c < 128 → IsSplitOnceResult c text found → MatchOption found (cut_first c text ≡ None) (λ x. cut_first c text ≡ Some (x.0.now, x.1.now))
first_found c text found ascii h = told found (split_parts c text found h ascii)
  where
    told : (found : Parts) → MatchOption found ((i : ℕ) → i < length text → get_or text i 0 ≢ c) (λ x. (text ≡ x.0.now ++ (c ∷ x.1.now)) × ((i : ℕ) → i < length x.0.now → get_or x.0.now i 0 ≢ c))
        → MatchOption found (cut_first c text ≡ None) (λ x. cut_first c text ≡ Some (x.0.now, x.1.now))
    told None none = first_none c text (lacks_from c text none)
    told (Some x) (is, none) = ap (cut_first c) is ∙ first_there c x.0.now x.1.now (lacks_from c x.0.now none)

abbrev IsSplitLast : ℕ → List ℕ → Parts → Type 0
IsSplitLast c text found = MatchOption found (NoCharPasses (λ d. d == c) text)
    (λ x. (i : ℕ) × (j : ℕ) × RFindsChar c text (Some (i, j)) × (x.0.now ≡ take i text) × (x.1.now ≡ drop j text) × (i ≤ j) × (length x.0.now ≡ i) × (length x.1.now + j ≡ length text))

pub last_found : (c : ℕ) (text : List ℕ) (found : Parts) → c < 128 → IsSplitLast c text found → MatchOption found (cut_last c text ≡ None) (λ x. cut_last c text ≡ Some (x.0.now, x.1.now))
last_found c text None ascii h = last_none c text (lacks_from c text (λ i within. NoCharPasses-char c text i h ascii within))
last_found c text (Some x) ascii (i, j, found, front, back, more, short, long) =
    let there : drop i text ≡ c ∷ drop j text = drop_at_char c text i j found.1 ascii in
    let is : text ≡ x.0.now ++ c ∷ x.1.now = sym (take-append-drop i text) ∙ ap (λ t. take i text ++ t) there ∙ ap (λ f. f ++ c ∷ drop j text) (sym front) ∙ ap (λ b. x.0.now ++ c ∷ b) (sym back) in
    let none : lacks c x.1.now ≡ true = ap (lacks c) back ∙ lacks_from c (drop j text) (λ k within. NoCharPasses-char c (drop j text) k found.0 ascii within) in
    ap (cut_last c) is ∙ last_there c x.0.now x.1.now none

-- ---- the code's answers

pub counter_cut : (text left done : List ℕ) → cut_first (byte "-") text ≡ Some (left, done) → left_with (count_in left) (count_in done) ≡ counter_in text
counter_cut text left done e = ap (counter_of_parts text) (sym e)

pub counter_whole : (text : List ℕ) → cut_first (byte "-") text ≡ None → left_with (count_in text) (Some 0) ≡ counter_in text
counter_whole text e = ap (counter_of_parts text) (sym e)

abbrev pub IsReading : Option Reading → Option (Bor (List ℕ) × Counter) → Type 0
IsReading reading found = MatchOption found (reading ≡ None) (λ read. reading ≡ Some (read.0.now, read.1))

pub reads_none : (reading : Option Reading) (found : Option (Bor (List ℕ) × Counter)) → found ≡ None → reading ≡ None → IsReading reading found
reads_none reading found e is = subst (IsReading reading) (sym e) is

pub not_counted : (stem : List ℕ) → cut_last (byte "+") stem ≡ None → counted stem ≡ None
not_counted stem e = ap (option_and_then counted_at) e

pub counted_by : (stem base tries : List ℕ) (counter : Option Counter) → cut_last (byte "+") stem ≡ Some (base, tries) → counter ≡ counter_in tries → counted stem ≡ option_map (λ c. (base, c)) counter
counted_by stem base tries counter e is = ap (option_and_then counted_at) e ∙ ap (option_map (λ c. (base, c))) (sym is)
