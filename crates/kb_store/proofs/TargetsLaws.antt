-- The lines of the file `targets`.
use Rattle.std.proofs.Common.{◌≡◌, ℕ, ◌-◌, ◌+◌, ◌<◌, ◌≤◌, Bool, true, false, cond, ◌&&◌, ◌||◌, subst, List, [], ◌∷◌, ◌++◌, length, take, drop, map, get_or, nat_eq, Bor, zero, suc, Option, Some, None, Result, Ok, Err, refl, sym, ap, ◌∙◌, arith, append_assoc, append-nil}
use Rattle.std.proofs.lemmas.List.{map_more, length-map, map-append}
use Rattle.std.proofs.Math.Seq.{take-length}
use Rattle.std.proofs.lemmas.List.Folds.{list_all_at, list_all-map, list_all-append}
use Rattle.std.proofs.lemmas.Str.{IsUtf8-from_ascii}
use Rattle.std.proofs.lemmas.Str.Ascii.{IsAscii-nil, IsAscii-cons}
use Rattle.std.proofs.lemmas.List.{take-append-drop}
use Rattle.std.proofs.lemmas.Bool.Decides.{nat_tests}
use Rattle.std.specs.Str.{IsAscii, IsUtf8}
use Rattle.std.specs.Prelude.{bytes_eq, flat_map, nat_le, nat_lt, codes, OnOk, IfOk, IfSome, IfNone}
use Rattle.std.specs.Cmp.{first_so, second_so}
use Rattle.std.specs.Cmp.Lexicographic.{bytes_decides}
use borrow.Author.Tests.{ltb-true}
use Rattle.std.specs.List.{list_all, slice_split, join_with_byte}
use Rattle.std.specs.Cmp.Derive.{both_true}
use Rattle.kb_world.specs.Path.{Path}
use Rattle.kb_world.specs.Names.{is_word, is_one_of}
use Rattle.kb_world.specs.Refusal.{LINE_FEED}
use Rattle.kb_world.specs.Targets.{SLASH, is_module_file, leads_to_module, is_area, is_place, can_all_share, are_targets, target_line, targets_text, inner, told_places, targets_of}
use Rattle.kb_world.proofs.NameLaws.{known}
use Rattle.kb_world.proofs.SoundLaws.{list_all-so}
use Rattle.kb_world.proofs.TargetsLaws.{read}
use Rattle.kb_store.specs.Reading.{place_if}

abbrev pub now : List (Bor (List ℕ)) → Path
now lines = map (λ line. line.now) lines

now-take : (n : ℕ) (lines : List (Bor (List ℕ))) → now (take n lines) ≡ take n (now lines)
now-take zero lines = refl
now-take (suc n) [] = refl
now-take (suc n) (x ∷ lines) = ap (λ rest. x.now ∷ rest) (now-take n lines)

pub inner_now : (lines : List (Bor (List ℕ))) → 2 ≤ length lines → map (λ line. line.now) (take (length lines - 1 - 1) (drop 1 lines)) ≡ inner (map (λ line. line.now) lines)
inner_now [] h = absurd (omega arith)
inner_now (x ∷ []) h = absurd (omega arith)
inner_now (x ∷ y ∷ rest) h =
    let few : length (x ∷ y ∷ rest) - 1 - 1 ≡ length rest = omega arith in
    let more : length (now (x ∷ y ∷ rest)) - 1 ≡ suc (length rest) = omega (arith, length-map rest (λ (line : Bor (List ℕ)). line.now)) in
    ap (λ n. now (take n (y ∷ rest))) few ∙ now-take (length rest) (y ∷ rest) ∙ sym (ap (λ n. drop 1 (take n (now (x ∷ y ∷ rest)))) more)

-- the names joined are the first, and the others with a slash before each
pub joined : (first : List ℕ) (rest : Path) → join_with_byte SLASH (first ∷ rest) ≡ first ++ flat_map (λ name. SLASH ∷ name) rest
joined first [] = sym (append-nil first)
joined first (next ∷ rest) = ap (λ tail. first ++ (SLASH ∷ tail)) (joined next rest)

abbrev pub split : List ℕ → Path
split line = slice_split (λ c. nat_eq c SLASH) line

place_is : (names place : Path) → Some place ≡ place_if names → (place ≡ names) × (is_place names ≡ true)
place_is names place h = by (is_place names) refl
  where
    by : (b : Bool) → is_place names ≡ b → (place ≡ names) × (is_place names ≡ true)
    by true e = let some : Some place ≡ Some names = h ∙ ap (λ b. cond b (Some names) None) e in (cc, e)
    by false e = let none : Some place ≡ None = h ∙ ap (λ b. cond b (Some names) None) e in absurd (cc)

none_is : (names : Path) → None ≡ place_if names → is_place names ≡ false
none_is names h = by (is_place names) refl
  where
    by : (b : Bool) → is_place names ≡ b → is_place names ≡ false
    by true e = let some : None ≡ Some names = h ∙ ap (λ b. cond b (Some names) None) e in absurd (cc)
    by false e = e

pub record HasRead (lines : List (Bor (List ℕ))) (i : ℕ) (places : List Path) : Type 0 where
  pub told : places ≡ map split (now (take i lines))
  pub placed : list_all is_place places ≡ true

pub read_none : (lines : List (Bor (List ℕ))) (i : ℕ) (d : Bor (List ℕ)) → i < length lines → None ≡ place_if (split (get_or lines i d).now) → list_all is_place (map split (now lines)) ≡ false
read_none lines i d within h =
    list_all-map is_place split (now lines) ∙ list_all-map (λ line. is_place (split line)) (λ (line : Bor (List ℕ)). line.now) lines
    ∙ list_all_at (λ (line : Bor (List ℕ)). is_place (split line.now)) lines i d within (none_is (split (get_or lines i d).now) h)

pub read_more : (lines : List (Bor (List ℕ))) (i : ℕ) (d : Bor (List ℕ)) (places new : List Path) (place : Path) → i < length lines → HasRead lines i places → Some place ≡ place_if (split (get_or lines i d).now) → new ≡ places ++ place ∷ []
    → HasRead lines (i + 1) new
read_more lines i d places new place within so_far h pushed =
    let is = place_is (split (get_or lines i d).now) place h in
    let more = map_more (λ (line : Bor (List ℕ)). line.now) lines i d within in
    record {
      told = pushed ∙ ap (λ p. p ++ place ∷ []) so_far.told ∙ ap (λ q. map split (now (take i lines)) ++ q ∷ []) is.0 ∙ sym (map-append split (now (take i lines)) ((get_or lines i d).now ∷ [])) ∙ ap (map split) (sym more);
      placed = ap (list_all is_place) pushed ∙ list_all-append is_place places (place ∷ []) ∙ both_true so_far.placed (both_true (ap is_place is.0 ∙ is.1) refl);
    }

-- a list that isn't empty is its first, and what is behind it
first_and_rest : {A : Type 0} (xs : List A) (d : A) → 1 ≤ length xs → xs ≡ get_or xs 0 d ∷ take (length xs - 1) (drop 1 xs)
first_and_rest [] d h = absurd (omega arith)
first_and_rest (x ∷ xs) d h =
    let few : length (x ∷ xs) - 1 ≡ length xs = omega arith in
    sym (ap (λ n. x ∷ take n xs) few ∙ ap (λ r. x ∷ r) (take-length xs))

pub joined_names : (names : Path) (d : List ℕ) → 1 ≤ length names → get_or names 0 d ++ flat_map (λ name. SLASH ∷ name) (take (length names - 1) (drop 1 names)) ≡ join_with_byte SLASH names
joined_names names d h = sym (joined (get_or names 0 d) (take (length names - 1) (drop 1 names))) ∙ ap (join_with_byte SLASH) (sym (first_and_rest names d h))

abbrev pub no_line : Bor (List ℕ)
no_line = record { ref_ptr = (0, 0); now = [] }

-- ---- the whole text

-- the text is that of these places, where each line gives one
pub told_is : (text : List ℕ) (lines : Path) (places : List Path) → lines ≡ inner (slice_split (λ c. nat_eq c LINE_FEED) text) → places ≡ map split lines → places ≡ told_places text
told_is text lines places is made = made ∙ ap (map split) is

pub targets_are : (text : List ℕ) (places : List Path) (fit same : Bool) → places ≡ told_places text → fit ≡ are_targets places → same ≡ bytes_eq (targets_text places) text → cond (fit && same) (Some places) None ≡ targets_of text
unfolding targets_of
targets_are text places fit same told is_fit is_same =
    ap (λ b. cond (b && same) (Some places) None) is_fit ∙ ap (λ b. cond (are_targets places && b) (Some places) None) is_same
    ∙ ap (λ p. cond (are_targets p && bytes_eq (targets_text p) text) (Some p) None) told

-- a text in which a line gives no place is none of places
pub targets_none : (text : List ℕ) → list_all is_place (told_places text) ≡ false → None ≡ targets_of text
unfolding targets_of
targets_none text h = sym (ap (λ b. cond (b && bytes_eq (targets_text (told_places text)) text) (Some (told_places text)) None) unfit)
  where
    none_fit : (a b c d : Bool) → c ≡ false → (a && b && c && d) ≡ false
    none_fit true true c d e = ap (λ x. x && d) e
    none_fit true false c d e = refl
    none_fit false b c d e = refl

    unfit : are_targets (told_places text) ≡ false
    unfit = none_fit (nat_le 1 (length (told_places text))) (nat_le (length (told_places text)) 256) (list_all is_place (told_places text)) (can_all_share (told_places text)) h

-- ---- a text of places is ASCII

abbrev is_low : ℕ → Bool
is_low c = nat_lt c 128

low_byte : (c : ℕ) → is_one_of (codes "._+-~^:") c ≡ true → is_low c ≡ true
low_byte c h = grind (arith, nat_tests)

low_word : (name : List ℕ) → is_word name ≡ true → list_all is_low name ≡ true
low_word name h = list_all-so (is_one_of (codes "._+-~^:")) is_low name low_byte (known name h).bytes

low_file : (name : List ℕ) → is_module_file name ≡ true → list_all is_low name ≡ true
low_file name h =
    let front = take (length name - 3) name in
    let back = drop (length name - 3) name in
    let ending = (bytes_decides back (codes ".ko")).0 (second_so (is_word front) (bytes_eq back (codes ".ko")) h) in
    subst (λ n. list_all is_low n ≡ true) (take-append-drop (length name - 3) name)
    (list_all-append is_low front back ∙ both_true (low_word front (first_so (is_word front) (bytes_eq back (codes ".ko")) h)) (ap (list_all is_low) ending))

low_area : (name : List ℕ) → is_area name ≡ true → list_all is_low name ≡ true
low_area name h = by (bytes_eq name (codes "kernel")) (bytes_eq name (codes "updates")) refl refl
  where
    is_text : (text : List ℕ) → bytes_eq name text ≡ true → list_all is_low text ≡ true → list_all is_low name ≡ true
    is_text text same low = subst (λ n. list_all is_low n ≡ true) (sym ((bytes_decides name text).0 same)) low

    by : (kernel updates : Bool) → bytes_eq name (codes "kernel") ≡ kernel → bytes_eq name (codes "updates") ≡ updates → list_all is_low name ≡ true
    by true u k_is u_is = is_text (codes "kernel") k_is refl
    by false true k_is u_is = is_text (codes "updates") u_is refl
    by false false k_is u_is =
        is_text (codes "extra") (sym (ap (λ b. b || bytes_eq name (codes "updates") || bytes_eq name (codes "extra")) k_is ∙ ap (λ b. false || b || bytes_eq name (codes "extra")) u_is) ∙ h) refl

low_names : (names : Path) → leads_to_module names ≡ true → list_all is_low (join_with_byte SLASH names) ≡ true
low_names [] h = refl
low_names (name ∷ []) h = low_file name h
low_names (name ∷ next ∷ rest) h =
    list_all-append is_low name (SLASH ∷ join_with_byte SLASH (next ∷ rest))
    ∙ both_true (low_word name (first_so (is_word name) (leads_to_module (next ∷ rest)) h)) (low_names (next ∷ rest) (second_so (is_word name) (leads_to_module (next ∷ rest)) h))

low_place : (place : Path) → is_place place ≡ true → list_all is_low (join_with_byte SLASH place) ≡ true
low_place [] h = refl
low_place (area ∷ []) h = low_area area (first_so (is_area area) (leads_to_module []) h)
low_place (area ∷ name ∷ rest) h =
    list_all-append is_low area (SLASH ∷ join_with_byte SLASH (name ∷ rest))
    ∙ both_true (low_area area (first_so (is_area area) (leads_to_module (name ∷ rest)) h)) (low_names (name ∷ rest) (second_so (is_area area) (leads_to_module (name ∷ rest)) h))

low_lines : (places : List Path) → list_all is_place places ≡ true → list_all is_low (flat_map target_line places) ≡ true
low_lines [] h = refl
low_lines (place ∷ places) h =
    list_all-append is_low (target_line place) (flat_map target_line places)
    ∙ both_true (list_all-append is_low (join_with_byte SLASH place) (LINE_FEED ∷ []) ∙ both_true (low_place place (first_so (is_place place) (list_all is_place places) h)) refl)
    (low_lines places (second_so (is_place place) (list_all is_place places) h))

low_ascii : (text : List ℕ) → list_all is_low text ≡ true → IsAscii text
low_ascii [] h = IsAscii-nil
low_ascii (c ∷ text) h = IsAscii-cons c text (ltb-true c 128 (first_so (is_low c) (list_all is_low text) h)) (low_ascii text (second_so (is_low c) (list_all is_low text) h))

text_ascii : (places : List Path) → are_targets places ≡ true → IsAscii (targets_text places)
text_ascii places h =
    let placed = second_so (nat_le 1 (length places) && nat_le (length places) 256) (list_all is_place places) (first_so (nat_le 1 (length places) && nat_le (length places) 256 && list_all is_place places) (can_all_share places) h) in
    low_ascii (targets_text places) (list_all-append is_low (codes "kmodboot targets 1" ++ LINE_FEED ∷ []) (flat_map target_line places) ∙ both_true refl (low_lines places placed))

-- so what isn't UTF-8 is none
pub targets_utf8 : (text : List ℕ) → ¬ (IsUtf8 text) → None ≡ targets_of text
targets_utf8 text strange = by (targets_of text) refl
  where
    by : (told : Option (List Path)) → targets_of text ≡ told → None ≡ targets_of text
    by None e = sym e
    by (Some places) e = let r = read text places e in absurd (strange (subst IsUtf8 r.1 (IsUtf8-from_ascii (targets_text places) (text_ascii places r.0))))

-- ---- at the exits

pub joined_ok : {T E : Type 0} (result : Result T E) (old mid new : List ℕ) (names : Path) (first d : List ℕ) → 1 ≤ length names → first ≡ get_or names 0 d → mid ≡ old ++ first
    → OnOk result (new ≡ mid ++ flat_map (λ name. SLASH ∷ name) (take (length names - 1) (drop 1 names))) → OnOk result (new ≡ old ++ join_with_byte SLASH names)
joined_ok (Ok value) old mid new names first d some is pushed h =
    h ∙ ap (λ m. m ++ flat_map (λ name. SLASH ∷ name) (take (length names - 1) (drop 1 names))) (pushed ∙ ap (λ f. old ++ f) is)
    ∙ append_assoc old (get_or names 0 d) (flat_map (λ name. SLASH ∷ name) (take (length names - 1) (drop 1 names))) ∙ ap (λ t. old ++ t) (joined_names names d some)
joined_ok (Err error) old mid new names first d some is pushed h = h

pub ok_is : {A E : Type 0} (result : Result A E) (x y : A) → IfOk result (λ value. value ≡ x) → x ≡ y → IfOk result (λ value. value ≡ y)
ok_is (Ok value) x y h e = h ∙ e
ok_is (Err error) x y h e = h

pub some_told : {A : Type 0} (told : Option A) (v : A) (f : A → List Path) (lines : Path) → told ≡ Some v → IfSome told (λ p. f p ≡ map split lines) → f v ≡ map split lines
some_told None v f lines e h = let impossible : None ≡ Some v = e in absurd (cc)
some_told (Some p) v f lines e h = let is : Some p ≡ Some v = e in let same : v ≡ p = cc in ap f same ∙ h

pub none_told : {A : Type 0} (told : Option A) (lines : Path) → told ≡ None → IfNone told (list_all is_place (map split lines) ≡ false) → list_all is_place (map split lines) ≡ false
none_told None lines e h = h
none_told (Some p) lines e h = let impossible : Some p ≡ None = e in absurd (cc)
