-- What is written of places is read back as these places.
use Rattle.std.proofs.Common.{◌≡◌, ℕ, ◌-◌, Bool, true, false, cond, ◌&&◌, ◌||◌, not, List, [], ◌∷◌, ◌++◌, length, take, drop, map, nat_eq, Some, None, codes, refl, sym, ap, ◌∙◌, subst, arith, length-append, append_assoc}
use Rattle.std.proofs.Math.Seq.{take-append_seam}
use Rattle.std.proofs.lemmas.Bool.{eqb-true}
use Rattle.std.proofs.lemmas.List.{take-append-drop}
use Rattle.std.proofs.lemmas.List.Folds.{list_all-append}
use Rattle.std.proofs.lemmas.List.Elements.{All-cons}
use Rattle.std.proofs.lemmas.List.Splits.{slice_split_none, slice_split_at}
use Rattle.std.specs.Prelude.{bytes_eq, flat_map}
use Rattle.std.specs.List.{list_all, slice_split, join_with_byte, All}
use Rattle.std.specs.Cmp.{first_so, second_so}
use Rattle.std.specs.Cmp.Derive.{both_true}
use Rattle.std.specs.Cmp.Lexicographic.{bytes_decides}
use Rattle.kb_world.specs.Names.{is_word, is_one_of}
use Rattle.kb_world.specs.Path.{Path}
use Rattle.kb_world.specs.Refusal.{LINE_FEED}
use Rattle.kb_world.specs.Targets.{SLASH, is_module_file, leads_to_module, is_area, is_place, are_targets, can_all_share, target_line, targets_text, inner, told_places, targets_of}
use Rattle.kb_world.proofs.NameLaws.{known}

abbrev is_slash : ℕ → Bool
is_slash c = nat_eq c SLASH

abbrev is_feed : ℕ → Bool
is_feed c = nat_eq c LINE_FEED

-- a byte that cuts nothing
abbrev is_plain : ℕ → Bool
is_plain c = not (is_slash c) && not (is_feed c)

abbrev is_plain_name : List ℕ → Bool
is_plain_name = list_all is_plain

abbrev marks : List ℕ
marks = codes "._+-~^:"

other : (c d : ℕ) (b : Bool) → nat_eq c d ≡ b → is_one_of marks c ≡ true → is_one_of marks d ≡ false → not b ≡ true
other c d true e h none = let q : true ≡ false = sym h ∙ ap (is_one_of marks) (eqb-true c d e) ∙ none in cc
other c d false e h none = refl

plain_bytes : (name : List ℕ) → list_all (is_one_of marks) name ≡ true → is_plain_name name ≡ true
plain_bytes [] h = refl
plain_bytes (c ∷ name) h =
    let here = first_so (is_one_of marks c) (list_all (is_one_of marks) name) h in
    both_true (both_true (other c SLASH (is_slash c) refl here refl) (other c LINE_FEED (is_feed c) refl here refl))
    (plain_bytes name (second_so (is_one_of marks c) (list_all (is_one_of marks) name) h))

plain_word : (name : List ℕ) → is_word name ≡ true → is_plain_name name ≡ true
plain_word name h = plain_bytes name (known name h).bytes

is_text : (name text : List ℕ) → bytes_eq name text ≡ true → is_plain_name text ≡ true → is_plain_name name ≡ true
is_text name text same plain = subst (λ n. is_plain_name n ≡ true) (sym ((bytes_decides name text).0 same)) plain

plain_file : (name : List ℕ) → is_module_file name ≡ true → is_plain_name name ≡ true
plain_file name h =
    let front = take (length name - 3) name in
    let back = drop (length name - 3) name in
    let word = plain_word front (first_so (is_word front) (bytes_eq back (codes ".ko")) h) in
    let ending = is_text back (codes ".ko") (second_so (is_word front) (bytes_eq back (codes ".ko")) h) refl in
    subst (λ n. is_plain_name n ≡ true) (take-append-drop (length name - 3) name) (list_all-append is_plain front back ∙ both_true word ending)

plain_area : (name : List ℕ) → is_area name ≡ true → is_plain_name name ≡ true
plain_area name h = by (bytes_eq name (codes "kernel")) (bytes_eq name (codes "updates")) refl refl
  where
    by : (kernel updates : Bool) → bytes_eq name (codes "kernel") ≡ kernel → bytes_eq name (codes "updates") ≡ updates → is_plain_name name ≡ true
    by true u k_is u_is = is_text name (codes "kernel") k_is refl
    by false true k_is u_is = is_text name (codes "updates") u_is refl
    by false false k_is u_is =
        is_text name (codes "extra") (sym (ap (λ b. b || bytes_eq name (codes "updates") || bytes_eq name (codes "extra")) k_is ∙ ap (λ b. false || b || bytes_eq name (codes "extra")) u_is) ∙ h) refl

-- the names of a place cut nothing
plain_names : (names : Path) → leads_to_module names ≡ true → list_all is_plain_name names ≡ true
plain_names [] h = let q : true ≡ false = sym h in cc
plain_names (name ∷ []) h = both_true (plain_file name h) refl
plain_names (name ∷ next ∷ rest) h =
    both_true (plain_word name (first_so (is_word name) (leads_to_module (next ∷ rest)) h)) (plain_names (next ∷ rest) (second_so (is_word name) (leads_to_module (next ∷ rest)) h))

-- a place is a name, and more, that cut nothing
record IsPlain (place : Path) : Type 0 where
  first : List ℕ
  rest : Path
  is : place ≡ first ∷ rest
  plain : list_all is_plain_name (first ∷ rest) ≡ true

plain_place : (place : Path) → is_place place ≡ true → IsPlain place
plain_place [] h = let q : true ≡ false = sym h in absurd (cc)
plain_place (area ∷ names) h = record {
  first = area;
  rest = names;
  is = refl;
  plain = both_true (plain_area area (first_so (is_area area) (leads_to_module names) h)) (plain_names names (second_so (is_area area) (leads_to_module names) h));
}

not_true : (b : Bool) → not b ≡ true → b ≡ false
not_true true h = let q : true ≡ false = sym h in cc
not_true false h = refl

without_slash : (name : List ℕ) → is_plain_name name ≡ true → All (λ c. is_slash c ≡ false) name
without_slash [] h = λ k d lt. absurd (omega arith)
without_slash (c ∷ cs) h =
    All-cons (λ c. is_slash c ≡ false) c cs (not_true (is_slash c) (first_so (not (is_slash c)) (not (is_feed c)) (first_so (is_plain c) (is_plain_name cs) h)))
    (without_slash cs (second_so (is_plain c) (is_plain_name cs) h))

abbrev is_unfed : ℕ → Bool
is_unfed c = not (is_feed c)

without_feed : (name : List ℕ) → list_all is_unfed name ≡ true → All (λ c. is_feed c ≡ false) name
without_feed [] h = λ k d lt. absurd (omega arith)
without_feed (c ∷ cs) h = All-cons (λ c. is_feed c ≡ false) c cs (not_true (is_feed c) (first_so (is_unfed c) (list_all is_unfed cs) h)) (without_feed cs (second_so (is_unfed c) (list_all is_unfed cs) h))

unfed : (name : List ℕ) → is_plain_name name ≡ true → list_all is_unfed name ≡ true
unfed [] h = refl
unfed (c ∷ cs) h = both_true (second_so (not (is_slash c)) (not (is_feed c)) (first_so (is_plain c) (is_plain_name cs) h)) (unfed cs (second_so (is_plain c) (is_plain_name cs) h))

-- the names joined by slashes are cut into the names
cut_joined : (first : List ℕ) (rest : Path) → list_all is_plain_name (first ∷ rest) ≡ true → slice_split is_slash (join_with_byte SLASH (first ∷ rest)) ≡ first ∷ rest
cut_joined first [] h = slice_split_none is_slash first (without_slash first (first_so (is_plain_name first) true h))
cut_joined first (next ∷ rest) h =
    slice_split_at is_slash first SLASH (join_with_byte SLASH (next ∷ rest)) (without_slash first (first_so (is_plain_name first) (list_all is_plain_name (next ∷ rest)) h)) refl
    ∙ ap (λ parts. first ∷ parts) (cut_joined next rest (second_so (is_plain_name first) (list_all is_plain_name (next ∷ rest)) h))

-- and have no line feed
joined_unfed : (first : List ℕ) (rest : Path) → list_all is_plain_name (first ∷ rest) ≡ true → list_all is_unfed (join_with_byte SLASH (first ∷ rest)) ≡ true
joined_unfed first [] h = unfed first (first_so (is_plain_name first) true h)
joined_unfed first (next ∷ rest) h =
    list_all-append is_unfed first (SLASH ∷ join_with_byte SLASH (next ∷ rest))
    ∙ both_true (unfed first (first_so (is_plain_name first) (list_all is_plain_name (next ∷ rest)) h))
    (both_true refl (joined_unfed next rest (second_so (is_plain_name first) (list_all is_plain_name (next ∷ rest)) h)))

abbrev place_text : Path → List ℕ
place_text place = join_with_byte SLASH place

place_cut : (place : Path) → is_place place ≡ true → slice_split is_slash (place_text place) ≡ place
place_cut place h = let p = plain_place place h in ap (λ q. slice_split is_slash (place_text q)) p.is ∙ cut_joined p.first p.rest p.plain ∙ sym p.is

place_unfed : (place : Path) → is_place place ≡ true → list_all is_unfed (place_text place) ≡ true
place_unfed place h = let p = plain_place place h in ap (λ q. list_all is_unfed (place_text q)) p.is ∙ joined_unfed p.first p.rest p.plain

-- the lines of places are cut at the line feeds
lines_cut : (places : List Path) → list_all is_place places ≡ true → slice_split is_feed (flat_map target_line places) ≡ map place_text places ++ [] ∷ []
lines_cut [] h = refl
lines_cut (place ∷ places) h =
    let here = first_so (is_place place) (list_all is_place places) h in
    ap (slice_split is_feed) (append_assoc (place_text place) (LINE_FEED ∷ []) (flat_map target_line places))
    ∙ slice_split_at is_feed (place_text place) LINE_FEED (flat_map target_line places) (without_feed (place_text place) (place_unfed place here)) refl
    ∙ ap (λ parts. place_text place ∷ parts) (lines_cut places (second_so (is_place place) (list_all is_place places) h))

inner-middle : (first last : List ℕ) (parts : List (List ℕ)) → inner (first ∷ (parts ++ last ∷ [])) ≡ parts
inner-middle first last parts =
    let long : length (first ∷ (parts ++ last ∷ [])) - 1 ≡ length (first ∷ parts) = omega (arith, length-append parts (last ∷ [])) in
    ap (λ n. drop 1 (take n (first ∷ (parts ++ last ∷ [])))) long ∙ ap (drop 1) (take-append_seam (first ∷ parts) (last ∷ []))

each_cut : (places : List Path) → list_all is_place places ≡ true → map (slice_split is_slash) (map place_text places) ≡ places
each_cut [] h = refl
each_cut (place ∷ places) h =
    let here = place_cut place (first_so (is_place place) (list_all is_place places) h) in
    let later = each_cut places (second_so (is_place place) (list_all is_place places) h) in
    λ i. here i ∷ later i

abbrev header : List ℕ
header = codes "kmodboot targets 1"

pub told_printed : (places : List Path) → list_all is_place places ≡ true → told_places (targets_text places) ≡ places
told_printed places h =
    let lines = ap (slice_split is_feed) (append_assoc header (LINE_FEED ∷ []) (flat_map target_line places))
    ∙ slice_split_at is_feed header LINE_FEED (flat_map target_line places) (without_feed header refl) refl
    ∙ ap (λ parts. header ∷ parts) (lines_cut places h) in
    ap (λ parts. map (slice_split is_slash) (inner parts)) lines ∙ ap (map (slice_split is_slash)) (inner-middle header [] (map place_text places)) ∙ each_cut places h

are_places : (places : List Path) → are_targets places ≡ true → list_all is_place places ≡ true
are_places places h = second_so _ (list_all is_place places) (first_so _ (can_all_share places) h)

pub printed : (places : List Path) → are_targets places ≡ true → targets_of (targets_text places) ≡ Some places
unfolding targets_of
printed places h =
    let told = told_printed places (are_places places h) in
    let passes : (are_targets (told_places (targets_text places)) && bytes_eq (targets_text (told_places (targets_text places))) (targets_text places)) ≡ true =
    both_true (ap are_targets told ∙ h) ((bytes_decides (targets_text (told_places (targets_text places))) (targets_text places)).1 (ap targets_text told)) in
    ap (λ b. cond b (Some (told_places (targets_text places))) None) passes ∙ ap Some told

pub read : (text : List ℕ) (places : List Path) → targets_of text ≡ Some places → (are_targets places ≡ true) × (targets_text places ≡ text)
unfolding targets_of
read text places h = by (are_targets (told_places text) && bytes_eq (targets_text (told_places text)) text) refl
  where
    by : (b : Bool) → (are_targets (told_places text) && bytes_eq (targets_text (told_places text)) text) ≡ b → (are_targets places ≡ true) × (targets_text places ≡ text)
    by true e =
        let some : Some (told_places text) ≡ Some places = sym (ap (λ b. cond b (Some (told_places text)) None) e) ∙ h in
        let same : told_places text ≡ places = cc in (
          ap are_targets (sym same) ∙ first_so (are_targets (told_places text)) (bytes_eq (targets_text (told_places text)) text) e,
          ap targets_text (sym same) ∙ (bytes_decides (targets_text (told_places text)) text).0 (second_so (are_targets (told_places text)) (bytes_eq (targets_text (told_places text)) text) e),
        )
    by false e = let none : None ≡ Some places = sym (ap (λ b. cond b (Some (told_places text)) None) e) ∙ h in absurd (cc)
