-- The reading of names is what the relation says.
use Rattle.std.proofs.Common.{◌≡◌, ℕ, ◌-◌, ◌^◌, ◌<◌, ◌≤◌, Bool, true, false, cond, ◌==◌, List, [], ◌∷◌, ◌++◌, length, take, drop, nat_lt, nat_le, Option, Some, None, option_map, option_and_then, MatchOption, Bor, codes, bytes_eq, refl, sym, ap, ◌∙◌, subst, inl, inr, arith, lit<, append_assoc}
use Rattle.std.specs.List.{list_all}
use Rattle.std.specs.Char.{is_ascii_digit}
use Rattle.std.specs.Fmt.{decimal}
use Rattle.std.specs.Option.{unwrap_or}
use Rattle.std.specs.Str.{byte}
use Rattle.std.specs.Str.Parse.{digits_value}
use Rattle.std.specs.Str.Pattern.{FindsTextSuffix, StripsSuffix}
use Rattle.std.specs.Cmp.{first_so, second_so}
use Rattle.std.specs.Cmp.Derive.{both_true}
use Rattle.std.specs.Cmp.Lexicographic.{bytes_decides}
use Rattle.std.proofs.Math.Seq.{drop-append_seam, take-append_seam}
use Rattle.std.proofs.lemmas.Bool.Decides.{nat_tests}
use Rattle.std.proofs.lemmas.Fmt.{digits_decimal, digits_value-decimal, decimal_nonempty, length-decimal-le}
use Rattle.std.proofs.lemmas.List.{append-nil, length-append, take-append-drop}
use Rattle.std.proofs.lemmas.List.Folds.{list_all-append}
use Rattle.kb_world.specs.Names.{is_one_of}
use Rattle.kb_bls.specs.declared.name.Counter.{Counter}
use Rattle.kb_bls.specs.declared.name.Counter.TheVariants.{Good, Left}
use Rattle.kb_bls.specs.Names.{is_count, WritesNumber, IsEnding, has_name_bytes, IsEntryBase, IsEntryName, IsCountable, counter_text, name_of}
use Rattle.kb_bls.specs.Reading.{Cut, cut_first, cut_last, count_in, left_with, counter_of_parts, counter_in, Reading, counted_at, counted, if_based, stem_reading, name_reading}
use Rattle.kb_bls.proofs.EndLaws.{by_test}
use Rattle.kb_bls.proofs.NameLaws.{digits_model, short, lacks, isnt, first_none, first_there, last_there, last_is, first_is, IsReading}

-- ---- a counter is read from its ending

digit_isnt : (c : ℕ) → is_ascii_digit c ≡ true → (isnt (byte "-") c ≡ true) × (isnt (byte "+") c ≡ true)
digit_isnt c h = (grind (arith, nat_tests), grind (arith, nat_tests))

digits_lack : (text : List ℕ) → list_all is_ascii_digit text ≡ true → (lacks (byte "-") text ≡ true) × (lacks (byte "+") text ≡ true)
digits_lack [] h = (refl, refl)
digits_lack (c ∷ text) h =
    let one = digit_isnt c (first_so (is_ascii_digit c) _ h) in
    let more = digits_lack text (second_so (is_ascii_digit c) _ h) in
    (both_true one.0 more.0, both_true one.1 more.1)

written : (digits : List ℕ) (n : ℕ) → WritesNumber digits n → count_in digits ≡ Some n
written digits n w = ap (λ b. cond b (Some (digits_value 10 digits)) None) w.few ∙ ap Some (sym w.value)

-- what stands behind the plus sign of an ending
record IsTail (ending : List ℕ) (counter : Counter) : Type 0 where
  tail : List ℕ
  is : ending ≡ byte "+" ∷ tail
  last : lacks (byte "+") tail ≡ true
  reads : counter_in tail ≡ Some counter

tail_of : (ending : List ℕ) (left done : ℕ) → IsEnding ending (Left left done) → IsTail ending (Left left done)
tail_of ending left done (inl h) =
    let s = short h.digits h.writes.few in
    let lack = digits_lack h.digits s.digits in
    record {
      tail = h.digits;
      is = h.is;
      last = lack.1;
      reads = ap (counter_of_parts h.digits) (first_none (byte "-") h.digits lack.0) ∙ ap (λ o. left_with o (Some 0)) (written h.digits left h.writes) ∙ ap (λ d. Some (Left left d)) (sym h.none_done);
    }
tail_of ending left done (inr h) =
    let s = short h.digits h.writes.few in
    let t = short h.more h.writes_more.few in
    let lack = digits_lack h.digits s.digits in
    record {
      tail = h.digits ++ byte "-" ∷ h.more;
      is = h.is;
      last = list_all-append (isnt (byte "+")) h.digits (byte "-" ∷ h.more) ∙ both_true lack.1 (both_true refl (digits_lack h.more t.digits).1);
      reads = ap (counter_of_parts (h.digits ++ byte "-" ∷ h.more)) (first_there (byte "-") h.digits h.more lack.0)
          ∙ (λ i. left_with (written h.digits left h.writes i) (written h.more done h.writes_more i));
    }

counted_so : (stem base ending : List ℕ) (left done : ℕ) → stem ≡ base ++ ending → IsEnding ending (Left left done) → counted stem ≡ Some (base, Left left done)
counted_so stem base ending left done e h =
    let t = tail_of ending left done h in
    ap counted (e ∙ ap (λ d. base ++ d) t.is) ∙ ap (option_and_then counted_at) (last_there (byte "+") base t.tail t.last) ∙ ap (option_map (λ c. (base, c))) t.reads

-- ---- an ending stands where a counter was read

-- an ending that counts tries
record IsCounter (ending : List ℕ) (counter : Counter) : Type 0 where
  left : ℕ
  done : ℕ
  is : counter ≡ Left left done
  counts : IsEnding ending (Left left done)

number_writes : (text : List ℕ) (n : ℕ) → count_in text ≡ Some n → WritesNumber text n
number_writes text n e = by_few (is_count text) refl e
  where
    by_few : (b : Bool) → is_count text ≡ b → cond b (Some (digits_value 10 text)) None ≡ Some n → WritesNumber text n
    by_few true few k = record { few = few; value = cc }
    by_few false few k = cc

both_there : (left done : Option ℕ) (counter : Counter) → left_with left done ≡ Some counter
    → (l : ℕ) × (d : ℕ) × (left ≡ Some l) × (done ≡ Some d) × (counter ≡ Left l d)
both_there (Some l) (Some d) counter e = (l, d, refl, refl, let same : Left l d ≡ counter = cc in sym same)
both_there (Some l) None counter e = cc
both_there None _ counter e = cc

counter_stands : (tail : List ℕ) (cut : Option Cut) (counter : Counter) → cut_first (byte "-") tail ≡ cut → counter_of_parts tail cut ≡ Some counter → IsCounter (byte "+" ∷ tail) counter
counter_stands tail None counter at e =
    let (l, d, left, done, is) = both_there (count_in tail) (Some 0) counter e in
    let zero_done : d ≡ 0 = cc in
    record { left = l; done = d; is = is; counts = inl (record { digits = tail; writes = number_writes tail l left; none_done = zero_done; is = refl }) }
counter_stands tail (Some parts) counter at e =
    let (l, d, left, done, is) = both_there (count_in parts.0) (count_in parts.1) counter e in
    record {
      left = l;
      done = d;
      is = is;
      counts = inr (record { digits = parts.0; more = parts.1; writes = number_writes parts.0 l left; writes_more = number_writes parts.1 d done; is = ap (λ t. byte "+" ∷ t) (first_is (byte "-") tail parts at) });
    }

-- a stem is its base and the ending
record Stands (stem : List ℕ) (read : Reading) : Type 0 where
  ending : List ℕ
  is : stem ≡ read.0 ++ ending
  counts : IsCounter ending read.1

stem_stands : (stem : List ℕ) (cut : Cut) (counter : Option Counter) (read : Reading) → cut_last (byte "+") stem ≡ Some cut → counter_in cut.1 ≡ counter
    → option_map (λ c. (cut.0, c)) counter ≡ Some read → Stands stem read
stem_stands stem cut None read at is e = cc
stem_stands stem cut (Some counter) read at is e =
    let same : ◌≡◌ {A = Reading} (cut.0, counter) read = cc in
    subst (Stands stem) same (record { ending = byte "+" ∷ cut.1; is = last_is (byte "+") stem cut at; counts = counter_stands cut.1 (cut_first (byte "-") cut.1) counter refl is })

counted_stands : (stem : List ℕ) (cut : Option Cut) (read : Reading) → cut_last (byte "+") stem ≡ cut → option_and_then counted_at cut ≡ Some read → Stands stem read
counted_stands stem None read at e = cc
counted_stands stem (Some cut) read at e = stem_stands stem cut (counter_in cut.1) read at refl e

-- ---- a name is a stem and `.conf`

abbrev ENDING : List ℕ
ENDING = codes ".conf"

name_of_stem : (name stem : List ℕ) → name ≡ stem ++ ENDING → name_reading name ≡ stem_reading stem
name_of_stem name stem e =
    let long : length (stem ++ ENDING) - 5 ≡ length stem = omega (arith, length-append stem ENDING) in
    let behind : drop (length (stem ++ ENDING) - 5) (stem ++ ENDING) ≡ ENDING = ap (λ n. drop n (stem ++ ENDING)) long ∙ drop-append_seam stem ENDING in
    let before : take (length (stem ++ ENDING) - 5) (stem ++ ENDING) ≡ stem = ap (λ n. take n (stem ++ ENDING)) long ∙ take-append_seam stem ENDING in
    ap name_reading e ∙ (λ i. cond (bytes_eq (behind i) ENDING) (stem_reading (before i)) None)

no_stem : (name : List ℕ) → ((stem : List ℕ) → name ≡ stem ++ ENDING → ⊥) → name_reading name ≡ None
no_stem name none =
    let other : bytes_eq (drop (length name - 5) name) ENDING ≡ false = by_test (bytes_eq (drop (length name - 5) name) ENDING) (λ same.
    none (take (length name - 5) name) (sym (take-append-drop (length name - 5) name) ∙ ap (λ d. take (length name - 5) name ++ d) ((bytes_decides (drop (length name - 5) name) ENDING).0 same))) in
    ap (λ b. cond b (stem_reading (take (length name - 5) name)) None) other

-- ---- the relation is read

digit_plain : (c : ℕ) → is_ascii_digit c ≡ true → is_one_of (codes "+-_.") c ≡ true
digit_plain c h = grind (arith, nat_tests)

digits_plain : (text : List ℕ) → list_all is_ascii_digit text ≡ true → has_name_bytes text ≡ true
digits_plain [] h = refl
digits_plain (c ∷ text) h = both_true (digit_plain c (first_so (is_ascii_digit c) _ h)) (digits_plain text (second_so (is_ascii_digit c) _ h))

ending_plain : (ending : List ℕ) (counter : Counter) → IsEnding ending counter → has_name_bytes ending ≡ true
ending_plain ending Good e = ap has_name_bytes e
ending_plain ending (Left left done) (inl h) = ap has_name_bytes h.is ∙ digits_plain h.digits (short h.digits h.writes.few).digits
ending_plain ending (Left left done) (inr h) =
    ap has_name_bytes h.is ∙ list_all-append (is_one_of (codes "+-_.")) h.digits (byte "-" ∷ h.more)
    ∙ both_true (digits_plain h.digits (short h.digits h.writes.few).digits) (digits_plain h.more (short h.more h.writes_more.few).digits)

not_counted : (stem : List ℕ) → ((front ending : List ℕ) (left done : ℕ) → stem ≡ front ++ ending → ¬ IsEnding ending (Left left done)) → counted stem ≡ None
not_counted stem none = by_read (counted stem) refl
  where
    by_read : (read : Option Reading) → counted stem ≡ read → read ≡ None
    by_read None e = refl
    by_read (Some read) e =
        let s = counted_stands stem (cut_last (byte "+") stem) read refl e in
        absurd (none read.0 s.ending s.counts.left s.counts.done s.is s.counts.counts)

chosen : (base ending : List ℕ) (counter : Counter) → IsEnding ending counter → IsEntryBase base counter → unwrap_or (counted (base ++ ending)) (base ++ ending, Good) ≡ (base, counter)
chosen base ending Good e b =
    let same : base ++ ending ≡ base = ap (λ d. base ++ d) e ∙ append-nil base in
    ap (λ stem. unwrap_or (counted stem) (stem, Good)) same ∙ ap (λ o. unwrap_or o (base, Good)) (not_counted base (b.whole refl))
chosen base ending (Left left done) h b = ap (λ o. unwrap_or o (base ++ ending, Good)) (counted_so (base ++ ending) base ending left done refl h)

nat_lt_so : (n : ℕ) → 0 < n → nat_lt 0 n ≡ true
nat_lt_so n h = grind (arith, nat_tests)

pub name_is_read : (name base : List ℕ) (counter : Counter) → IsEntryName name base counter → name_reading name ≡ Some (base, counter)
name_is_read name base counter h =
    let stem : List ℕ = base ++ h.ending in
    let plain : has_name_bytes stem ≡ true = list_all-append (is_one_of (codes "+-_.")) base h.ending ∙ both_true h.based.plain (ending_plain h.ending counter h.counts) in
    name_of_stem name stem (h.is ∙ sym (append_assoc base h.ending ENDING))
    ∙ ap (λ b. cond b (if_based (unwrap_or (counted stem) (stem, Good))) None) plain
    ∙ ap if_based (chosen base h.ending counter h.counts h.based)
    ∙ ap (λ b. cond b (Some (base, counter)) None) (nat_lt_so (length base) h.based.some)

-- ---- what is read is in the relation

lt_from : (n : ℕ) → nat_lt 0 n ≡ true → 0 < n
lt_from n h = grind (arith, nat_tests)

front_plain : (front back : List ℕ) → has_name_bytes (front ++ back) ≡ true → has_name_bytes front ≡ true
front_plain [] back h = refl
front_plain (c ∷ front) back h = both_true (first_so (is_one_of (codes "+-_.") c) _ h) (front_plain front back (second_so (is_one_of (codes "+-_.") c) _ h))

left_isnt_good : (left done : ℕ) → Left left done ≡ Good → ⊥
left_isnt_good left done e = cc

with_ending : (name stem : List ℕ) (read : Reading) → name ≡ stem ++ ENDING → has_name_bytes stem ≡ true → 0 < length read.0 → Stands stem read → IsEntryName name read.0 read.1
with_ending name stem read e plain some s = record {
  ending = s.ending;
  is = e ∙ ap (λ t. t ++ ENDING) s.is ∙ append_assoc read.0 s.ending ENDING;
  counts = subst (IsEnding s.ending) (sym s.counts.is) s.counts.counts;
  based = record {
    some = some;
    plain = front_plain read.0 s.ending (ap has_name_bytes (sym s.is) ∙ plain);
    whole = λ good. absurd (left_isnt_good s.counts.left s.counts.done (sym s.counts.is ∙ good));
  };
}

without_ending : (name stem : List ℕ) → name ≡ stem ++ ENDING → has_name_bytes stem ≡ true → 0 < length stem → counted stem ≡ None → IsEntryName name stem Good
without_ending name stem e plain some none = record {
  ending = [];
  is = e;
  counts = refl;
  based = record {
    some = some;
    plain = plain;
    whole = λ good front ending left done is ends. (let k = sym none ∙ counted_so stem front ending left done is ends in cc);
  };
}

based_is : (reading read : Reading) → if_based reading ≡ Some read → (0 < length read.0) × (reading ≡ read)
based_is reading read e = by_test_of (nat_lt 0 (length reading.0)) refl e
  where
    by_test_of : (b : Bool) → nat_lt 0 (length reading.0) ≡ b → cond b (Some reading) None ≡ Some read → (0 < length read.0) × (reading ≡ read)
    by_test_of true some k = let same : reading ≡ read = cc in (subst (λ r. 0 < length r.0) same (lt_from (length reading.0) some), same)
    by_test_of false some k = cc

stem_is_read : (name stem : List ℕ) (inner : Option Reading) (read : Reading) → name ≡ stem ++ ENDING → has_name_bytes stem ≡ true → counted stem ≡ inner
    → if_based (unwrap_or inner (stem, Good)) ≡ Some read → IsEntryName name read.0 read.1
stem_is_read name stem None read e plain at k =
    let b = based_is (stem, Good) read k in
    subst (λ r. IsEntryName name r.0 r.1) b.1 (without_ending name stem e plain (subst (λ r. 0 < length r.0) (sym b.1) b.0) at)
stem_is_read name stem (Some inner) read e plain at k =
    let b = based_is inner read k in
    with_ending name stem read e plain b.0 (subst (Stands stem) b.1 (counted_stands stem (cut_last (byte "+") stem) inner refl at))

pub read_is_name : (name : List ℕ) (read : Reading) → name_reading name ≡ Some read → IsEntryName name read.0 read.1
read_is_name name read e = by_end (bytes_eq (drop (length name - 5) name) ENDING) refl e
  where
    stem : List ℕ
    stem = take (length name - 5) name

    by_bytes : (b : Bool) → has_name_bytes stem ≡ b → name ≡ stem ++ ENDING → cond b (if_based (unwrap_or (counted stem) (stem, Good))) None ≡ Some read → IsEntryName name read.0 read.1
    by_bytes true plain is k = stem_is_read name stem (counted stem) read is plain refl k
    by_bytes false plain is k = cc

    by_end : (b : Bool) → bytes_eq (drop (length name - 5) name) ENDING ≡ b → cond b (stem_reading stem) None ≡ Some read → IsEntryName name read.0 read.1
    by_end true same k =
        by_bytes (has_name_bytes stem) refl (sym (take-append-drop (length name - 5) name) ∙ ap (λ d. stem ++ d) ((bytes_decides (drop (length name - 5) name) ENDING).0 same)) k
    by_end false same k = cc

-- ---- what the code answers

abbrev Found : Type 0
Found = Option (Bor (List ℕ) × Counter)

abbrev pub IsName : List ℕ → Found → Type 0
IsName name found = MatchOption found ((base : List ℕ) (counter : Counter) → ¬ IsEntryName name base counter) (λ read. IsEntryName name read.0.now read.1)

pub name_told : (name : List ℕ) (found : Found) → IsReading (name_reading name) found → IsName name found
name_told name None h = λ base counter is. (let k = sym h ∙ name_is_read name base counter is in cc)
name_told name (Some read) h = read_is_name name (read.0.now, read.1) h

pub stem_told : (name stem : List ℕ) (found : Found) → name ≡ stem ++ ENDING → IsReading (stem_reading stem) found → IsReading (name_reading name) found
stem_told name stem found e h = subst (λ r. IsReading r found) (sym (name_of_stem name stem e)) h

pub none_told : (name : List ℕ) (found : Found) → found ≡ None → ((stem : List ℕ) → name ≡ stem ++ ENDING → ⊥) → IsReading (name_reading name) found
none_told name found e none = subst (IsReading (name_reading name)) (sym e) (no_stem name none)

-- what the search for the ending answers
pub stripped : (name stem : List ℕ) → StripsSuffix (FindsTextSuffix ENDING) name stem → name ≡ stem ++ ENDING
stripped name stem (n, (width, whole, cut), front, long) = whole ∙ ap (λ s. s ++ ENDING) (sym front)

-- ---- what is written is in the relation

decimal_writes : (n : ℕ) → n < 1000000000 → WritesNumber (decimal n) n
decimal_writes n h =
    let small : n < 2 ^ 64 = omega arith in
    let some : 0 < length (decimal n) = decimal_nonempty n small in
    let few : length (decimal n) ≤ 9 = length-decimal-le 9 n (lit< tt) h small in
    record {
      few = both_true (both_true (nat_lt_so (length (decimal n)) some) (nat_le_so (length (decimal n)) 9 few)) (digits_decimal digits_model n small);
      value = sym (digits_value-decimal digits_model n small);
    }
  where
    nat_le_so : (a b : ℕ) → a ≤ b → nat_le a b ≡ true
    nat_le_so a b k = grind (arith, nat_tests)

written_ending : (counter : Counter) → IsCountable counter → IsEnding (counter_text counter) counter
written_ending Good h = refl
written_ending (Left left done) (small, few) = by_done (done == 0) refl
  where
    by_done : (b : Bool) → (done == 0) ≡ b → IsEnding (codes "+" ++ (decimal left ++ cond b [] (codes "-" ++ decimal done))) (Left left done)
    by_done true e = inl (record { digits = decimal left; writes = decimal_writes left small; none_done = grind (arith, nat_tests); is = ap (λ d. byte "+" ∷ d) (append-nil (decimal left)) })
    by_done false e = inr (record { digits = decimal left; more = decimal done; writes = decimal_writes left small; writes_more = decimal_writes done few; is = refl })

pub name_back : (base : List ℕ) (counter : Counter) (name : List ℕ) → IsEntryBase base counter → IsCountable counter → name ≡ name_of base counter → IsEntryName name base counter
name_back base counter name b h e = record { ending = counter_text counter; is = e; counts = written_ending counter h; based = b }
