-- The names of places.
use Rattle.std.proofs.Common.{◌≡◌, ℕ, ◌-◌, ◌≤◌, Bool, true, false, ◌&&◌, ◌||◌, List, [], ◌∷◌, ◌++◌, length, take, drop, map, get_or, Bor, suc, Some, None, codes, refl, sym, ap, ◌∙◌, subst, arith, length-append}
use Rattle.std.proofs.Math.Seq.{take-append_seam, drop-append_seam}
use Rattle.std.proofs.Math.Bool.{and_assoc}
use Rattle.std.proofs.lemmas.List.{take-append-drop}
use Rattle.std.specs.Prelude.{bytes_eq, slice_get}
use Rattle.std.proofs.lemmas.List.Folds.{list_all-append}
use Rattle.std.specs.List.{list_all}
use Rattle.std.specs.Cmp.{first_so, second_so}
use Rattle.std.specs.Cmp.Derive.{both_true}
use Rattle.std.specs.Cmp.Lexicographic.{bytes_decides}
use Rattle.kb_world.specs.Names.{is_word, is_name, is_one_of}
use Rattle.kb_world.specs.Path.{Path}
use Rattle.kb_world.specs.Targets.{is_module_file, leads_to_module, is_area, is_place, last_name}
use Rattle.kb_world.proofs.NameLaws.{known, named, begins-append, word-is_name}
use Rattle.kb_world.proofs.PathLaws.{by_test}

and_true : (a : Bool) → (a && true) ≡ a
and_true true = refl
and_true false = refl

-- a name with the ending is a module's file where the front is a word
pub module_file_is : (name front : List ℕ) → name ≡ front ++ codes ".ko" → is_module_file name ≡ is_word front
module_file_is name front e =
    let long : length (front ++ codes ".ko") - 3 ≡ length front = omega (arith, length-append front (codes ".ko")) in
    ap is_module_file e ∙ ap (λ n. is_word (take n (front ++ codes ".ko")) && bytes_eq (drop n (front ++ codes ".ko")) (codes ".ko")) long
    ∙ ap (λ f. is_word f && bytes_eq (drop (length front) (front ++ codes ".ko")) (codes ".ko")) (take-append_seam front (codes ".ko"))
    ∙ ap (λ b. is_word front && bytes_eq b (codes ".ko")) (drop-append_seam front (codes ".ko")) ∙ and_true (is_word front)

pub module_file_none : (name : List ℕ) → ((front : List ℕ) → name ≡ front ++ codes ".ko" → ⊥) → is_module_file name ≡ false
module_file_none name none = by_test (is_module_file name) (λ h.
    let front = take (length name - 3) name in
    let back = drop (length name - 3) name in
    let ending = (bytes_decides back (codes ".ko")).0 (second_so (is_word front) (bytes_eq back (codes ".ko")) h) in
    none front (sym (take-append-drop (length name - 3) name) ∙ ap (λ b. front ++ b) ending))

-- the last name by its place
pub last_name_at : (place : Path) (name : List ℕ) → slice_get place (length place - 1) ≡ Some name → name ≡ last_name place
last_name_at [] name h = let none : None ≡ Some name = h in absurd (cc)
last_name_at (first ∷ []) name h = let some : Some first ≡ Some name = h in cc
last_name_at (first ∷ next ∷ rest) name h =
    let long : length (first ∷ next ∷ rest) - 1 ≡ suc (length (next ∷ rest) - 1) = omega arith in
    last_name_at (next ∷ rest) name (sym (ap (slice_get (first ∷ next ∷ rest)) long) ∙ h)

-- words before the last name
pub leads_all : (names : List (Bor (List ℕ))) (d : Bor (List ℕ)) → 1 ≤ length names
    → leads_to_module (map (λ name. name.now) names) ≡ (list_all (λ name. is_word name.now) (take (length names - 1) names) && is_module_file (get_or names (length names - 1) d).now)
leads_all [] d some = absurd (omega (arith, some))
leads_all (x ∷ []) d some = refl
leads_all (x ∷ y ∷ rest) d some =
    let shorter : length (x ∷ y ∷ rest) - 1 ≡ suc (length (y ∷ rest) - 1) = omega arith in
    ap (λ b. is_word x.now && b) (leads_all (y ∷ rest) d (omega arith))
    ∙ sym (and_assoc (is_word x.now) (list_all (λ name. is_word name.now) (take (length (y ∷ rest) - 1) (y ∷ rest))) (is_module_file (get_or (y ∷ rest) (length (y ∷ rest) - 1) d).now))
    ∙ sym (ap (λ n. list_all (λ name. is_word name.now) (take n (x ∷ y ∷ rest)) && is_module_file (get_or (x ∷ y ∷ rest) n d).now) shorter)

abbrev words_first : List (Bor (List ℕ)) → Bool
words_first names = list_all (λ name. is_word name.now) (take (length names - 1) names)

pub leads_then : (names : List (Bor (List ℕ))) (d : Bor (List ℕ)) (words last : Bool) → 1 ≤ length names → words ≡ words_first names → words ≡ true
    → last ≡ is_module_file (get_or names (length names - 1) d).now → last ≡ leads_to_module (map (λ name. name.now) names)
leads_then names d words last some is told file = file ∙ sym (leads_all names d some ∙ ap (λ b. b && is_module_file (get_or names (length names - 1) d).now) (sym is ∙ told))

pub leads_else : (names : List (Bor (List ℕ))) (words : Bool) → 1 ≤ length names → words ≡ words_first names → words ≡ false → words ≡ leads_to_module (map (λ name. name.now) names)
leads_else [] words some is told = absurd (omega (arith, some))
leads_else (x ∷ names) words some is told =
    told ∙ sym (leads_all (x ∷ names) x some ∙ ap (λ b. b && is_module_file (get_or (x ∷ names) (length (x ∷ names) - 1) x).now) (sym is ∙ told))

-- a word with the ending names an entry of a directory
pub file_named : (name : List ℕ) → is_module_file name ≡ true → is_name name ≡ true
file_named name h =
    let front = take (length name - 3) name in
    let back = drop (length name - 3) name in
    let word = known front (first_so (is_word front) (bytes_eq back (codes ".ko")) h) in
    let ending = (bytes_decides back (codes ".ko")).0 (second_so (is_word front) (bytes_eq back (codes ".ko")) h) in
    let is : front ++ codes ".ko" ≡ name = ap (λ b. front ++ b) (sym ending) ∙ take-append-drop (length name - 3) name in
    subst (λ n. is_name n ≡ true) is
    (named (front ++ codes ".ko") (omega (arith, word.short, length-append front (codes ".ko"))) (begins-append front (codes ".ko") word.begins)
    (list_all-append (is_one_of (codes "._+-~^:")) front (codes ".ko") ∙ both_true word.bytes refl))

names_named : (names : Path) → leads_to_module names ≡ true → list_all is_name names ≡ true
names_named [] h = let q : true ≡ false = sym h in cc
names_named (name ∷ []) h = both_true (file_named name h) refl
names_named (name ∷ next ∷ rest) h =
    both_true (word-is_name name (first_so (is_word name) (leads_to_module (next ∷ rest)) h)) (names_named (next ∷ rest) (second_so (is_word name) (leads_to_module (next ∷ rest)) h))

area_named : (name : List ℕ) → is_area name ≡ true → is_name name ≡ true
area_named name h = by (bytes_eq name (codes "kernel")) (bytes_eq name (codes "updates")) refl refl
  where
    is_text : (text : List ℕ) → bytes_eq name text ≡ true → is_name text ≡ true → is_name name ≡ true
    is_text text same plain = subst (λ n. is_name n ≡ true) (sym ((bytes_decides name text).0 same)) plain

    by : (kernel updates : Bool) → bytes_eq name (codes "kernel") ≡ kernel → bytes_eq name (codes "updates") ≡ updates → is_name name ≡ true
    by true u k_is u_is = is_text (codes "kernel") k_is refl
    by false true k_is u_is = is_text (codes "updates") u_is refl
    by false false k_is u_is =
        is_text (codes "extra") (sym (ap (λ b. b || bytes_eq name (codes "updates") || bytes_eq name (codes "extra")) k_is ∙ ap (λ b. false || b || bytes_eq name (codes "extra")) u_is) ∙ h) refl

pub place_named : (names : Path) → is_place names ≡ true → list_all is_name names ≡ true
place_named [] h = let q : true ≡ false = sym h in cc
place_named (area ∷ names) h = both_true (area_named area (first_so (is_area area) (leads_to_module names) h)) (names_named names (second_so (is_area area) (leads_to_module names) h))

abbrev now : List (Bor (List ℕ)) → Path
now names = map (λ name. name.now) names

-- the same of the texts that are made of parts
pub parts_named : (parts told : List (Bor (List ℕ))) (texts : Path) → texts ≡ now parts → told ≡ parts → is_place (now told) ≡ true → list_all is_name texts ≡ true
parts_named parts told texts made same h = ap (list_all is_name) (made ∙ ap now (sym same)) ∙ place_named (now told) h
