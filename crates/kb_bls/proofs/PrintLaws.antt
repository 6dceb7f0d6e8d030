-- What is printed of an entry, and that it is read back.
use Rattle.std.proofs.Common.{◌≡◌, ◌≢◌, ℕ, zero, suc, ◌-◌, Bool, true, false, cond, not, ◌&&◌, List, [], ◌∷◌, ◌++◌, length, map, flat_map, filter, All, reverse, take, replicate, nat_eq, nat_lt, bytes_eq, Option, Some, None, option_to_list, Result, Ok, Err, IfOk, IsUtf8, codes, refl, sym, ap, ◌∙◌, subst, inl, inr, arith, Bor, append_assoc, ◌==◌}
use Rattle.std.specs.List.{list_all}
use Rattle.std.specs.Str.{byte}
use Rattle.std.specs.Cmp.{first_so, second_so}
use Rattle.std.specs.Cmp.Derive.{both_true}
use Rattle.std.specs.Cmp.Lexicographic.{bytes_decides}
use Rattle.std.proofs.Math.Seq.{take-length}
use Rattle.std.proofs.lemmas.Bool.Decides.{nat_tests}
use Rattle.std.proofs.lemmas.List.{append-nil, map-append, reverse-append, reverse-reverse}
use Rattle.std.proofs.lemmas.List.Elements.{filter-append, All-append, All-cons, All-nil, All-replicate}
use Rattle.std.proofs.lemmas.List.Folds.{list_all-append, list_all-map}
use Rattle.std.proofs.lemmas.List.Splits.{slice_split_at}
use Rattle.std.proofs.lemmas.Grind.{flat_map-append}
use Rattle.kb_bls.specs.declared.entry.Entry.{Entry}
use Rattle.kb_bls.specs.Fields.{Field, CARRIAGE_RETURN, is_entry_blank, are_blanks, has_no_blank, begins_so, ends_with, IsWithoutReturn, IsTrimmed, Says, SaysNothing, Say}
use Rattle.kb_bls.specs.Text.{LINE_FEED, lines_of, values_of, last_value_of, Has, IsEntryOf}
use Rattle.kb_bls.specs.Print.{values_by_key, fields_with, printed_fields, field_line, entry_text, is_value, can_be_printed}
use Rattle.kb_bls.proofs.EndLaws.{by_test, not_both, ends_unless}
use Rattle.kb_bls.proofs.SayLaws.{trimmed_same}

-- ---- the text

-- a key with its values
abbrev Keyed : Type 0
Keyed = List ℕ × List (List ℕ)

abbrev lines_with : Keyed → List ℕ
lines_with k = flat_map field_line (fields_with k.0 k.1)

-- the same, as the code shows them
abbrev Shown : Type 0
Shown = Bor (List ℕ) × Bor (List (List ℕ))

abbrev seen : Shown → Keyed
seen k = (k.0.now, k.1.now)

shown_lines : (items : List Shown) → flat_map (λ k. lines_with (seen k)) items ≡ flat_map lines_with (map seen items)
shown_lines [] = refl
shown_lines (k ∷ items) = ap (λ l. lines_with (seen k) ++ l) (shown_lines items)

lines_by_key : (table : List Keyed) → flat_map lines_with table ≡ flat_map field_line (flat_map (λ k. fields_with k.0 k.1) table)
lines_by_key [] = refl
lines_by_key (k ∷ table) = ap (λ l. lines_with k ++ l) (lines_by_key table) ∙ sym (flat_map-append field_line (fields_with k.0 k.1) (flat_map (λ q. fields_with q.0 q.1) table))

-- what was written when all keys were gone over
pub written : (e : Entry) (items : List Shown) (n : ℕ) (text : List ℕ) → map seen items ≡ values_by_key e → n ≡ length items
    → text ≡ flat_map (λ k. lines_with (seen k)) (take n items) → text ≡ entry_text e
written e items n text shown all is =
    is ∙ ap (flat_map (λ k. lines_with (seen k))) (ap (λ k. take k items) all ∙ take-length items) ∙ shown_lines items ∙ ap (flat_map lines_with) shown ∙ lines_by_key (values_by_key e)

-- ---- a printed line says its field

abbrev SPACE : ℕ
SPACE = byte " "

-- a line without its line feed
abbrev line_body : Field → List ℕ
line_body f = f.key ++ (replicate (10 - length f.key) SPACE ++ (SPACE ∷ f.value))

ended_line : (f : Field) (rest : List ℕ) → field_line f ++ rest ≡ line_body f ++ LINE_FEED ∷ rest
ended_line f rest = simp append_assoc

-- what a key is made of
abbrev is_plain : List ℕ → Bool
is_plain key = nat_lt 0 (length key) && list_all (λ c. not (nat_eq c LINE_FEED) && not (is_entry_blank c)) key

abbrev can_stand : Field → Bool
can_stand f = is_plain f.key && is_value f.value

from_not : (b : Bool) → not b ≡ true → b ≡ false
from_not b h = by_test b (λ e. not_both (not b) h (ap not e))

no_feed : (q : ℕ → Bool) (text : List ℕ) → list_all (λ c. not (nat_eq c LINE_FEED) && q c) text ≡ true → All (λ c. nat_eq c LINE_FEED ≡ false) text
no_feed q [] h = All-nil (λ c. nat_eq c LINE_FEED ≡ false)
no_feed q (x ∷ text) h =
    All-cons (λ c. nat_eq c LINE_FEED ≡ false) x text
    (from_not (nat_eq x LINE_FEED) (first_so (not (nat_eq x LINE_FEED)) _ (first_so (not (nat_eq x LINE_FEED) && q x) _ h)))
    (no_feed q text (second_so (not (nat_eq x LINE_FEED) && q x) _ h))

-- the parts of what a value keeps
pub record IsGoodValue (v : List ℕ) : Type 0 where
  pub some : nat_lt 0 (length v) ≡ true
  pub bytes : list_all (λ c. not (nat_eq c LINE_FEED) && not (nat_eq CARRIAGE_RETURN c)) v ≡ true
  pub begins : begins_so is_entry_blank v ≡ false
  pub ends : ends_with is_entry_blank v ≡ false

good_value : (v : List ℕ) → is_value v ≡ true → IsGoodValue v
good_value v h =
    let but_end = first_so _ (not (ends_with is_entry_blank v)) h in
    let but_begin = first_so _ (not (begins_so is_entry_blank v)) but_end in
    record {
      some = first_so (nat_lt 0 (length v)) _ but_begin;
      bytes = second_so (nat_lt 0 (length v)) _ but_begin;
      begins = from_not (begins_so is_entry_blank v) (second_so _ (not (begins_so is_entry_blank v)) but_end);
      ends = from_not (ends_with is_entry_blank v) (second_so _ (not (ends_with is_entry_blank v)) h);
    }

no_feed_in : (f : Field) → is_plain f.key ≡ true → IsGoodValue f.value → All (λ c. nat_eq c LINE_FEED ≡ false) (line_body f)
no_feed_in f plain good =
    let P : ℕ → Type 0 = λ c. nat_eq c LINE_FEED ≡ false in
    All-append P f.key (replicate (10 - length f.key) SPACE ++ (SPACE ∷ f.value)) (no_feed (λ c. not (is_entry_blank c)) f.key (second_so (nat_lt 0 (length f.key)) _ plain))
    (All-append P (replicate (10 - length f.key) SPACE) (SPACE ∷ f.value) (All-replicate P (10 - length f.key) SPACE refl)
    (All-cons P SPACE f.value refl (no_feed (λ c. not (nat_eq CARRIAGE_RETURN c)) f.value good.bytes)))

-- spaces may be counted from either end
shift : (n : ℕ) (rest : List ℕ) → replicate n SPACE ++ (SPACE ∷ rest) ≡ SPACE ∷ (replicate n SPACE ++ rest)
shift zero rest = refl
shift (suc n) rest = ap (λ l. SPACE ∷ l) (shift n rest)

spaces_blank : (n : ℕ) → are_blanks (replicate n SPACE) ≡ true
spaces_blank zero = refl
spaces_blank (suc n) = spaces_blank n

keys_blank : (key : List ℕ) → list_all (λ c. not (nat_eq c LINE_FEED) && not (is_entry_blank c)) key ≡ true → has_no_blank key ≡ true
keys_blank [] h = refl
keys_blank (x ∷ key) h =
    both_true (second_so (not (nat_eq x LINE_FEED)) _ (first_so (not (nat_eq x LINE_FEED) && not (is_entry_blank x)) _ h)) (keys_blank key (second_so (not (nat_eq x LINE_FEED) && not (is_entry_blank x)) _ h))

begins_plain : (key rest : List ℕ) → is_plain key ≡ true → begins_so is_entry_blank (key ++ rest) ≡ false
begins_plain [] rest h = let e : false ≡ true = h in cc
begins_plain (x ∷ key) rest h =
    from_not (is_entry_blank x) (second_so (not (nat_eq x LINE_FEED)) _ (first_so (not (nat_eq x LINE_FEED) && not (is_entry_blank x)) _ (second_so (nat_lt 0 (length (x ∷ key))) _ h)))

-- how a list that isn't empty begins
begins_front : (test : ℕ → Bool) (a b : List ℕ) → a ≢ [] → begins_so test (a ++ b) ≡ begins_so test a
begins_front test [] b some = absurd (some refl)
begins_front test (x ∷ a) b some = refl

-- a text ends as its last part does
pub ends_back : (test : ℕ → Bool) (front back : List ℕ) → back ≢ [] → ends_with test (front ++ back) ≡ ends_with test back
ends_back test front back some =
    ap (begins_so test) (reverse-append front back)
    ∙ begins_front test (reverse back) (reverse front) (λ e. some (sym (reverse-reverse back) ∙ ap reverse e))

not_empty : (v : List ℕ) → nat_lt 0 (length v) ≡ true → v ≢ []
not_empty v h e = let k : nat_lt 0 (length v) ≡ false = ap (λ l. nat_lt 0 (length l)) e in not_both (nat_lt 0 (length v)) h k

-- no carriage return ends it
no_return : (v front : List ℕ) (x : ℕ) → list_all (λ c. not (nat_eq c LINE_FEED) && not (nat_eq CARRIAGE_RETURN c)) v ≡ true → v ≡ front ++ (x ∷ []) → nat_eq CARRIAGE_RETURN x ≡ false
no_return v front x h e = last_kept front (ap (list_all (λ c. not (nat_eq c LINE_FEED) && not (nat_eq CARRIAGE_RETURN c))) (sym e) ∙ h)
  where
    last_kept : (front : List ℕ) → list_all (λ c. not (nat_eq c LINE_FEED) && not (nat_eq CARRIAGE_RETURN c)) (front ++ (x ∷ [])) ≡ true → nat_eq CARRIAGE_RETURN x ≡ false
    last_kept [] k = from_not (nat_eq CARRIAGE_RETURN x) (second_so (not (nat_eq x LINE_FEED)) _ (first_so (not (nat_eq x LINE_FEED) && not (nat_eq CARRIAGE_RETURN x)) _ k))
    last_kept (y ∷ front) k = last_kept front (second_so (not (nat_eq y LINE_FEED) && not (nat_eq CARRIAGE_RETURN y)) _ k)

-- a line's front, and its value
fronted : (f : Field) → line_body f ≡ (f.key ++ (replicate (10 - length f.key) SPACE ++ (SPACE ∷ []))) ++ f.value
fronted f = simp append_assoc

line_trimmed : (f : Field) → is_plain f.key ≡ true → IsGoodValue f.value → IsTrimmed (line_body f) (line_body f)
line_trimmed f plain good =
    let front : List ℕ = f.key ++ (replicate (10 - length f.key) SPACE ++ (SPACE ∷ [])) in
    let ends_so : (test : ℕ → Bool) → ends_with test f.value ≡ false → ends_with test (line_body f) ≡ false =
    (λ test h. ap (ends_with test) (fronted f) ∙ ends_back test front f.value (not_empty f.value good.some) ∙ h) in
    record {
      between = line_body f;
      before = [];
      after = [];
      ended = inr (refl, ends_so (nat_eq CARRIAGE_RETURN) (ends_unless (nat_eq CARRIAGE_RETURN) f.value (λ x before e. no_return f.value before x good.bytes e)));
      is = sym (append-nil (line_body f));
      before_blank = refl;
      after_blank = refl;
      begins = begins_plain f.key (replicate (10 - length f.key) SPACE ++ (SPACE ∷ f.value)) plain;
      ends = ends_so is_entry_blank good.ends;
    }

says_line : (f : Field) → can_stand f ≡ true → Says (line_body f) f
says_line f h =
    let plain = first_so (is_plain f.key) _ h in
    let good = good_value f.value (second_so (is_plain f.key) _ h) in
    record {
      text = line_body f;
      blank = SPACE;
      more = replicate (10 - length f.key) SPACE;
      trimmed = line_trimmed f plain good;
      is = ap (λ l. f.key ++ l) (shift (10 - length f.key) f.value);
      key = keys_blank f.key (second_so (nat_lt 0 (length f.key)) _ plain);
      first_blank = refl;
      more_blank = spaces_blank (10 - length f.key);
      value = good.begins;
      some = not_empty f.value good.some;
    }

-- ---- the lines say the fields

lines_printed : (fields : List Field) → list_all can_stand fields ≡ true → lines_of (flat_map field_line fields) ≡ map line_body fields ++ ([] ∷ [])
lines_printed [] h = refl
lines_printed (f ∷ fields) h =
    let here = first_so (can_stand f) _ h in
    let good = good_value f.value (second_so (is_plain f.key) _ here) in
    ap lines_of (ended_line f (flat_map field_line fields))
    ∙ slice_split_at (λ c. nat_eq c LINE_FEED) (line_body f) LINE_FEED (flat_map field_line fields) (no_feed_in f (first_so (is_plain f.key) _ here) good) refl
    ∙ ap (λ l. line_body f ∷ l) (lines_printed fields (second_so (can_stand f) _ h))

-- an empty line says nothing
nothing_empty : SaysNothing []
nothing_empty f says = no_text says.trimmed.ended
  where
    longer : (front rest : List ℕ) (x : ℕ) → [] ≡ front ++ (x ∷ rest) → ⊥
    longer [] rest x e = cc
    longer (y ∷ front) rest x e = cc

    no_text : IsWithoutReturn [] says.trimmed.between → ⊥
    no_text (inl e) = longer says.trimmed.between [] CARRIAGE_RETURN e
    no_text (inr (e, other)) =
        longer (says.trimmed.before ++ f.key) ((says.more ++ f.value) ++ says.trimmed.after) says.blank
        (e ∙ says.trimmed.is ∙ ap (λ t. says.trimmed.before ++ (t ++ says.trimmed.after)) says.is ∙ simp append_assoc)

say_printed : (fields : List Field) → list_all can_stand fields ≡ true → Say (map line_body fields ++ ([] ∷ [])) fields
say_printed [] h = inl (nothing_empty, refl)
say_printed (f ∷ fields) h = inr (f, fields, says_line f (first_so (can_stand f) _ h), say_printed fields (second_so (can_stand f) _ h), refl)

-- ---- the fields are what the entry has

values_if : (b : Bool) (f : Field) (rest : List Field) (values : List (List ℕ)) → map (λ g. g.value) rest ≡ cond b values [] → map (λ g. g.value) (cond b (f ∷ rest) rest) ≡ cond b (f.value ∷ values) []
values_if true f rest values e = ap (λ l. f.value ∷ l) e
values_if false f rest values e = e

no_values : (b : Bool) → (let none : List (List ℕ) = [] in none ≡ cond b none none)
no_values true = refl
no_values false = refl

values_with : (name key : List ℕ) (values : List (List ℕ)) → values_of name (fields_with key values) ≡ cond (bytes_eq key name) values []
values_with name key [] = no_values (bytes_eq key name)
values_with name key (v ∷ values) =
    values_if (bytes_eq key name) (record { key = key; value = v }) (filter (λ f. bytes_eq f.key name) (fields_with key values)) values (values_with name key values)

values-append : (name : List ℕ) (a b : List Field) → values_of name (a ++ b) ≡ values_of name a ++ values_of name b
values-append name a b = ap (map (λ f. f.value)) (filter-append (λ f. bytes_eq f.key name) a b) ∙ map-append (λ f. f.value) (filter (λ f. bytes_eq f.key name) a) (filter (λ f. bytes_eq f.key name) b)

values_by_table : (name : List ℕ) (table : List Keyed) → values_of name (flat_map (λ k. fields_with k.0 k.1) table) ≡ flat_map (λ k. cond (bytes_eq k.0 name) k.1 []) table
values_by_table name [] = refl
values_by_table name (k ∷ table) =
    values-append name (fields_with k.0 k.1) (flat_map (λ q. fields_with q.0 q.1) table)
    ∙ (λ i. values_with name k.0 k.1 i ++ values_by_table name table i)

last_option : (o : Option (List ℕ)) → last_value_of (option_to_list o) ≡ o
last_option None = refl
last_option (Some v) = refl

-- the values of a key of the table
all_of : (e : Entry) (name : List ℕ) (values : List (List ℕ)) → flat_map (λ k. cond (bytes_eq k.0 name) k.1 []) (values_by_key e) ≡ values ++ [] → values ≡ values_of name (printed_fields e)
all_of e name values is = sym (values_by_table name (values_by_key e) ∙ is ∙ append-nil values)

one_of : (e : Entry) (name : List ℕ) (value : Option (List ℕ)) → flat_map (λ k. cond (bytes_eq k.0 name) k.1 []) (values_by_key e) ≡ option_to_list value ++ [] → value ≡ last_value_of (values_of name (printed_fields e))
one_of e name value is = sym (last_option value) ∙ ap last_value_of (all_of e name (option_to_list value) is)

has_fields : (e : Entry) → Has e (printed_fields e)
has_fields e = record {
  title = one_of e (codes "title") e.title refl;
  version = one_of e (codes "version") e.version refl;
  machine_id = one_of e (codes "machine-id") e.machine_id refl;
  sort_key = one_of e (codes "sort-key") e.sort_key refl;
  options = all_of e (codes "options") e.options refl;
  linux = one_of e (codes "linux") e.linux refl;
  efi = one_of e (codes "efi") e.efi refl;
  initrd = all_of e (codes "initrd") e.initrd refl;
  devicetree = one_of e (codes "devicetree") e.devicetree refl;
  architecture = one_of e (codes "architecture") e.architecture refl;
}

-- ---- all of it

plain_with : (key : List ℕ) (values : List (List ℕ)) → is_plain key ≡ true → list_all (λ f. is_plain f.key) (fields_with key values) ≡ true
plain_with key [] h = refl
plain_with key (v ∷ values) h = both_true h (plain_with key values h)

plain_table : (table : List Keyed) → list_all (λ k. is_plain k.0) table ≡ true → list_all (λ f. is_plain f.key) (flat_map (λ k. fields_with k.0 k.1) table) ≡ true
plain_table [] h = refl
plain_table (k ∷ table) h =
    list_all-append (λ f. is_plain f.key) (fields_with k.0 k.1) (flat_map (λ q. fields_with q.0 q.1) table)
    ∙ both_true (plain_with k.0 k.1 (first_so (is_plain k.0) _ h)) (plain_table table (second_so (is_plain k.0) _ h))

stand_all : (fields : List Field) → list_all (λ f. is_plain f.key) fields ≡ true → list_all (λ f. is_value f.value) fields ≡ true → list_all can_stand fields ≡ true
stand_all [] h k = refl
stand_all (f ∷ fields) h k =
    both_true (both_true (first_so (is_plain f.key) _ h) (first_so (is_value f.value) _ k)) (stand_all fields (second_so (is_plain f.key) _ h) (second_so (is_value f.value) _ k))

values_fields : (key : List ℕ) (values : List (List ℕ)) → list_all is_value values ≡ true → list_all (λ f. is_value f.value) (fields_with key values) ≡ true
values_fields key [] h = refl
values_fields key (v ∷ values) h = both_true (first_so (is_value v) _ h) (values_fields key values (second_so (is_value v) _ h))

values_table : (table : List Keyed) → list_all (λ k. list_all is_value k.1) table ≡ true → list_all (λ f. is_value f.value) (flat_map (λ k. fields_with k.0 k.1) table) ≡ true
values_table [] h = refl
values_table (k ∷ table) h =
    list_all-append (λ f. is_value f.value) (fields_with k.0 k.1) (flat_map (λ q. fields_with q.0 q.1) table)
    ∙ both_true (values_fields k.0 k.1 (first_so (list_all is_value k.1) _ h)) (values_table table (second_so (list_all is_value k.1) _ h))

pub printed_is_entry : (e : Entry) → can_be_printed e ≡ true → IsUtf8 (entry_text e) → IsEntryOf (entry_text e) e
printed_is_entry e can utf8 =
    let stand = stand_all (printed_fields e) (plain_table (values_by_key e) refl) (values_table (values_by_key e) can) in
    record {
      utf8 = utf8;
      said = printed_fields e;
      lines = subst (λ l. Say l (printed_fields e)) (sym (lines_printed (printed_fields e) stand)) (say_printed (printed_fields e) stand);
      has = has_fields e;
    }

if_ok : {T E : Type 0} {P Q : T → Type 0} (r : Result T E) → ((x : T) → P x → Q x) → IfOk r P → IfOk r Q
if_ok (Ok x) so h = so x h
if_ok (Err x) so h = h

-- what the printing answers
pub printed_text : {E : Type 0} (e : Entry) (r : Result (List ℕ) E) (text : List ℕ) → IfOk r (λ bytes. bytes ≡ text) → text ≡ entry_text e → IfOk r (λ bytes. bytes ≡ entry_text e)
printed_text e r text h is = if_ok r (λ bytes same. same ∙ is) h

pub printed_back : {E : Type 0} (e : Entry) (r : Result (List ℕ) E) (text : List ℕ) → IfOk r (λ bytes. bytes ≡ text) → text ≡ entry_text e → can_be_printed e ≡ true → IsUtf8 text → IfOk r (λ bytes. IsEntryOf bytes e)
printed_back e r text h is can utf8 =
    if_ok r (λ bytes same. subst (λ b. IsEntryOf b e) (sym (same ∙ is)) (printed_is_entry e can (subst IsUtf8 is utf8))) h

-- ---- the test of a value

-- what is trimmed and has no carriage return is its own trimmed text
own_trimmed : (v : List ℕ) → list_all (λ c. not (nat_eq c LINE_FEED) && not (nat_eq CARRIAGE_RETURN c)) v ≡ true → begins_so is_entry_blank v ≡ false → ends_with is_entry_blank v ≡ false → IsTrimmed v v
own_trimmed v bytes begins ends = record {
  between = v;
  before = [];
  after = [];
  ended = inr (refl, ends_unless (nat_eq CARRIAGE_RETURN) v (λ x front e. no_return v front x bytes e));
  is = sym (append-nil v);
  before_blank = refl;
  after_blank = refl;
  begins = begins;
  ends = ends;
}

abbrev pub no_line_end : List ℕ → Bool
no_line_end v = list_all (λ c. not (nat_eq c LINE_FEED) && not (nat_eq CARRIAGE_RETURN c)) v

pub value_test : (v text : List ℕ) → nat_lt 0 (length v) ≡ true → list_all (λ c. not (nat_eq c LINE_FEED) && not (nat_eq CARRIAGE_RETURN c)) v ≡ true → IsTrimmed v text → bytes_eq text v ≡ is_value v
value_test v text some bytes trimmed = by_ends (begins_so is_entry_blank v) (ends_with is_entry_blank v) refl refl ∙ (λ i. ((sym some i && sym bytes i) && not (begins_so is_entry_blank v)) && not (ends_with is_entry_blank v))
  where
    differs : (b : Bool) → b ≡ true → (text ≡ v → b ≡ false) → bytes_eq text v ≡ false
    differs b h fails = by_test (bytes_eq text v) (λ same. not_both b h (fails ((bytes_decides text v).0 same)))

    by_ends : (a b : Bool) → begins_so is_entry_blank v ≡ a → ends_with is_entry_blank v ≡ b → bytes_eq text v ≡ ((true && true) && not (begins_so is_entry_blank v)) && not (ends_with is_entry_blank v)
    by_ends true b e k = differs (begins_so is_entry_blank v) e (λ same. subst (λ t. begins_so is_entry_blank t ≡ false) same trimmed.begins) ∙ (λ i. not (sym e i) && not (ends_with is_entry_blank v))
    by_ends false true e k = differs (ends_with is_entry_blank v) k (λ same. subst (λ t. ends_with is_entry_blank t ≡ false) same trimmed.ends) ∙ (λ i. not (sym e i) && not (sym k i))
    by_ends false false e k = (bytes_decides text v).1 (trimmed_same v text v trimmed (own_trimmed v bytes e k)) ∙ (λ i. not (sym e i) && not (sym k i))

pub some_bytes : (n : ℕ) (b : Bool) → b ≡ (n == 0) → b ≡ false → nat_lt 0 n ≡ true
some_bytes n b e h = grind (arith, nat_tests)

pub fields_stand : (e : Entry) (items : List Shown) → map seen items ≡ values_by_key e → list_all (λ k. list_all is_value k.1.now) items ≡ can_be_printed e
fields_stand e items shown = sym (list_all-map (λ k. list_all is_value k.1) seen items) ∙ ap (list_all (λ k. list_all is_value k.1)) shown
