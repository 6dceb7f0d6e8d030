-- Spelled values with something behind them are equal only where both parts are.
use Rattle.std.proofs.Common.{◌≡◌, ℕ, ◌<◌, ◌^◌, Bool, true, false, List, [], ◌∷◌, ◌++◌, length, map, flat_map, codes, All, arith, refl, sym, ap, ◌∙◌, append_assoc}
use Rattle.std.specs.Fmt.{decimal}
use Rattle.std.specs.Prelude.{bytes_eq}
use Rattle.std.specs.Cmp.Lexicographic.{bytes_decides}
use Rattle.std.specs.Str.{IsUtf8}
use Rattle.std.proofs.lemmas.Fmt.{decimal_injective}
use Rattle.std.proofs.lemmas.List.{length-map}
use Rattle.std.proofs.lemmas.List.Elements.{All-head, All-tail}
use Rattle.hex.proofs.HexLemmas.{decode_of-same}
use Rattle.kb_world.proofs.PathText.{same_path}
use Rattle.kb_world.specs.Path.{Path, path_text}
use Rattle.kb_world.specs.declared.child.Area.{Area}
use Rattle.kb_world.specs.declared.child.Area.TheVariants.{Nothing, Under, Names}
use Rattle.kb_world.specs.declared.child.Request.{Request}
use Rattle.kb_changes.specs.Text as rule
use Rattle.kb_changes.specs.declared.change.Change.{Change}
use Rattle.kb_changes.specs.declared.change.Change.TheVariants.{Dir, Put, Drop, DropDir, Wipe, Run}
use Rattle.kb_changes.specs.declared.change.RootName.{RootName}
use Rattle.kb_changes.specs.declared.change.RootName.TheVariants as root_name
use Rattle.kb_journal.proofs.FieldLaws.{dash_is_none, decoded}
use Rattle.kb_journal.proofs.LeftLaws.{IsTextPair, as_many, singles}
use Rattle.kb_journal.specs.Reads.{list_fields}
use Rattle.kb_journal.proofs.WordLaws.{area_fields_are, area_rest, area_split, area_word, change_fields_are, change_rest, change_split, change_word}

-- what stands before and behind is told by the whole
abbrev pub Tells : {A : Type 0} → (A → List (List ℕ)) → (A → Type 0) → Type 0
Tells {A} spelled Good = (x y : A) (p q : List (List ℕ)) → Good x → Good y → spelled x ++ p ≡ spelled y ++ q → (x ≡ y) × (p ≡ q)

tail_of : (word : List ℕ) (p q : List (List ℕ)) → word ∷ p ≡ word ∷ q → p ≡ q
tail_of word p q e = cc

-- ---- fields

by_dash : (a b : List ℕ) (dash : Bool) → IsUtf8 a → IsUtf8 b → rule.text_field a ≡ rule.text_field b → bytes_eq (rule.text_field a) (codes "-") ≡ dash → a ≡ b
by_dash a b true p q e dash = sym (dash_is_none a (rule.text_field a) refl dash) ∙ dash_is_none b (rule.text_field a) e dash
by_dash a b false p q e other = decode_of-same (rule.text_field a) a b (decoded a (rule.text_field a) p refl other) (decoded b (rule.text_field a) q e other)

pub same_text : (a b : List ℕ) → IsUtf8 a → IsUtf8 b → rule.text_field a ≡ rule.text_field b → a ≡ b
same_text a b p q e = by_dash a b (bytes_eq (rule.text_field a) (codes "-")) p q e refl

same_path_field : (a b : Path) → rule.IsTextPath a → rule.IsTextPath b → rule.path_field a ≡ rule.path_field b → a ≡ b
same_path_field a b p q e = same_path a b p.0 q.0 (same_text (path_text a) (path_text b) p.1 q.1 e)

one_field : {A : Type 0} (field : A → List ℕ) (Good : A → Type 0) → ((x y : A) → Good x → Good y → field x ≡ field y → x ≡ y) → Tells (λ x. field x ∷ []) Good
one_field field Good same x y p q good fine e =
    let first : field x ≡ field y = cc in
    (same x y good fine first, cc)

tells_text : Tells (λ text. rule.text_field text ∷ []) IsUtf8
tells_text = one_field rule.text_field IsUtf8 same_text

tells_path : Tells (λ path. rule.path_field path ∷ []) rule.IsTextPath
tells_path = one_field rule.path_field rule.IsTextPath same_path_field

tells_pair : Tells rule.pair_field IsTextPair
tells_pair x y p q good fine e =
    let first = tells_text x.0 y.0 (rule.text_field x.1 ∷ p) (rule.text_field y.1 ∷ q) good.0 fine.0 e in
    let second = tells_text x.1 y.1 p q good.1 fine.1 first.1 in
    ((λ i. (first.0 i, second.0 i)), second.1)

-- ---- counted lists

tells_list : {A : Type 0} (spelled : A → List (List ℕ)) (Good : A → Type 0) → Tells spelled Good → (xs ys : List A) (p q : List (List ℕ)) → length xs ≡ length ys → All Good xs → All Good ys
    → flat_map spelled xs ++ p ≡ flat_map spelled ys ++ q → (xs ≡ ys) × (p ≡ q)
tells_list spelled Good tells [] [] p q many good fine e = (refl, e)
tells_list spelled Good tells [] (y ∷ ys) p q many good fine e = absurd (omega (arith, many))
tells_list spelled Good tells (x ∷ xs) [] p q many good fine e = absurd (omega (arith, many))
tells_list spelled Good tells (x ∷ xs) (y ∷ ys) p q many good fine e =
    let first = tells x y (flat_map spelled xs ++ p) (flat_map spelled ys ++ q) (All-head Good x xs good) (All-head Good y ys fine)
    (sym (append_assoc (spelled x) (flat_map spelled xs) p) ∙ e ∙ append_assoc (spelled y) (flat_map spelled ys) q) in
    let others = tells_list spelled Good tells xs ys p q (omega (arith, many)) (All-tail Good x xs good) (All-tail Good y ys fine) first.1 in
    ((λ i. first.0 i ∷ others.0 i), others.1)

tells_counted : {A : Type 0} (field : A → List ℕ) (Good : A → Type 0) → Tells (λ x. field x ∷ []) Good → (xs ys : List A) (p q : List (List ℕ)) → All Good xs → All Good ys
    → length xs < 2 ^ 64 → length ys < 2 ^ 64 → rule.counted_fields (map field xs) ++ p ≡ rule.counted_fields (map field ys) ++ q → (xs ≡ ys) × (p ≡ q)
tells_counted field Good tells xs ys p q good fine small few e =
    let head : decimal (length (map field xs)) ≡ decimal (length (map field ys)) = cc in
    let tail : map field xs ++ p ≡ map field ys ++ q = cc in
    let many = decimal_injective (length (map field xs)) (length (map field ys)) (as_many field xs (2 ^ 64) small) (as_many field ys (2 ^ 64) few) head in
    tells_list (λ x. field x ∷ []) Good tells xs ys p q (sym (length-map xs field) ∙ many ∙ length-map ys field) good fine
    (ap (λ l. l ++ p) (singles field xs) ∙ tail ∙ ap (λ l. l ++ q) (sym (singles field ys)))

tells_pairs : (xs ys : List (List ℕ × List ℕ)) (p q : List (List ℕ)) → rule.AreTextPairs xs → rule.AreTextPairs ys → length xs < 2 ^ 64 → length ys < 2 ^ 64
    → rule.pair_fields xs ++ p ≡ rule.pair_fields ys ++ q → (xs ≡ ys) × (p ≡ q)
tells_pairs xs ys p q good fine small few e =
    let head : decimal (length xs) ≡ decimal (length ys) = cc in
    let tail : flat_map rule.pair_field xs ++ p ≡ flat_map rule.pair_field ys ++ q = cc in
    tells_list rule.pair_field IsTextPair tells_pair xs ys p q (decimal_injective (length xs) (length ys) small few head) good fine tail

-- ---- areas

pub same_words : (a b : List ℕ) → a ≡ b → bytes_eq a b ≡ false → ⊥
same_words a b is apart = let same : bytes_eq a b ≡ true = (bytes_decides a b).1 is in cc

area_front : (x y : Area) (p q : List (List ℕ)) → rule.area_fields x ++ p ≡ rule.area_fields y ++ q → area_word x ≡ area_word y
area_front x y p q e = (area_split y (area_word x) (area_rest x ++ p) q (sym (ap (λ fields. fields ++ p) (area_fields_are x)) ∙ e)).0

tells_area : Tells rule.area_fields rule.IsTextArea
tells_area Nothing Nothing p q good fine e = (refl, cc)
tells_area (Under a) (Under b) p q good fine e =
    let tail : rule.path_field a ∷ p ≡ rule.path_field b ∷ q = cc in
    let path = tells_path a b p q good fine tail in
    (ap Under path.0, path.1)
tells_area (Names a xs) (Names b ys) p q good fine e =
    let tail : rule.path_field a ∷ (rule.counted_fields (map rule.text_field xs) ++ p) ≡ rule.path_field b ∷ (rule.counted_fields (map rule.text_field ys) ++ q) = cc in
    let path = tells_path a b (rule.counted_fields (map rule.text_field xs) ++ p) (rule.counted_fields (map rule.text_field ys) ++ q) good.0 fine.0 tail in
    let names = tells_counted rule.text_field IsUtf8 tells_text xs ys p q good.1 fine.1 good.2 fine.2 path.1 in
    ((λ i. Names (path.0 i) (names.0 i)), names.1)
tells_area x y p q good fine e = absurd (same_words (area_word x) (area_word y) (area_front x y p q e) refl)

-- ---- requests

tells_head : (x y : Request) (p q : List (List ℕ)) → rule.IsTextHead x → rule.IsTextHead y → rule.head_fields x ++ p ≡ rule.head_fields y ++ q
    → (x.program ≡ y.program) × (x.dir ≡ y.dir) × (x.area ≡ y.area) × (p ≡ q)
tells_head x y p q good fine e =
    let program = tells_text x.program y.program (rule.path_field x.dir ∷ (rule.area_fields x.area ++ p)) (rule.path_field y.dir ∷ (rule.area_fields y.area ++ q)) good.0 fine.0 e in
    let dir = tells_path x.dir y.dir (rule.area_fields x.area ++ p) (rule.area_fields y.area ++ q) good.1 fine.1 program.1 in
    let area = tells_area x.area y.area p q good.2 fine.2 dir.1 in
    (program.0, dir.0, area.0, area.1)

tells_lists : (x y : Request) (p q : List (List ℕ)) → rule.IsTextRequest x → rule.IsTextRequest y → list_fields x p ≡ list_fields y q
    → (x.args ≡ y.args) × (x.env ≡ y.env) × (x.seen ≡ y.seen) × (p ≡ q)
tells_lists x y p q good fine e =
    let behind = λ (r : Request) (more : List (List ℕ)). codes "seen" ∷ (rule.counted_fields (map rule.path_field r.seen) ++ more) in
    let first : rule.counted_fields (map rule.text_field x.args) ++ (codes "env" ∷ (rule.pair_fields x.env ++ behind x p))
    ≡ rule.counted_fields (map rule.text_field y.args) ++ (codes "env" ∷ (rule.pair_fields y.env ++ behind y q)) = cc in
    let args = tells_counted rule.text_field IsUtf8 tells_text x.args y.args (codes "env" ∷ (rule.pair_fields x.env ++ behind x p)) (codes "env" ∷ (rule.pair_fields y.env ++ behind y q))
    good.args fine.args good.args_counted fine.args_counted first in
    let second : rule.pair_fields x.env ++ behind x p ≡ rule.pair_fields y.env ++ behind y q = tail_of (codes "env") _ _ args.1 in
    let env = tells_pairs x.env y.env (behind x p) (behind y q) good.env fine.env good.env_counted fine.env_counted second in
    let third : rule.counted_fields (map rule.path_field x.seen) ++ p ≡ rule.counted_fields (map rule.path_field y.seen) ++ q = tail_of (codes "seen") _ _ env.1 in
    let seen = tells_counted rule.path_field rule.IsTextPath tells_path x.seen y.seen p q good.seen fine.seen good.seen_counted fine.seen_counted third in
    (args.0, env.0, seen.0, seen.1)

-- what stands behind the head of a request is its lists
regrouped : (x : Request) (p : List (List ℕ)) → rule.request_fields x ++ p ≡ rule.head_fields x ++ list_fields x p
regrouped x p =
    let args = codes "args" ∷ rule.counted_fields (map rule.text_field x.args) in
    let env = codes "env" ∷ rule.pair_fields x.env in
    let seen = codes "seen" ∷ rule.counted_fields (map rule.path_field x.seen) in
    append_assoc (rule.head_fields x ++ args ++ env) seen p ∙ append_assoc (rule.head_fields x ++ args) env (seen ++ p) ∙ append_assoc (rule.head_fields x) args (env ++ (seen ++ p))

tells_request : Tells rule.request_fields rule.IsTextRequest
tells_request x y p q good fine e =
    let head = tells_head x y (list_fields x p) (list_fields y q) good.head fine.head (sym (regrouped x p) ∙ e ∙ regrouped y q) in
    let lists = tells_lists x y p q good fine head.3 in
    ((λ i. record { program = head.0 i; args = lists.0 i; env = lists.1 i; dir = head.1 i; area = head.2 i; seen = lists.2 i }), lists.3)

-- ---- changes

same_root : (a b : RootName) → rule.root_field a ≡ rule.root_field b → a ≡ b
same_root root_name.Dkms root_name.Dkms e = refl
same_root root_name.Src root_name.Src e = refl
same_root root_name.Modules root_name.Modules e = refl
same_root root_name.Boot root_name.Boot e = refl
same_root a b e = absurd (same_words (rule.root_field a) (rule.root_field b) e refl)

path_change : (make : Path → Change) (word : List ℕ) (a b : Path) (p q : List (List ℕ)) → rule.IsTextPath a → rule.IsTextPath b → word ∷ rule.path_field a ∷ p ≡ word ∷ rule.path_field b ∷ q
    → (make a ≡ make b) × (p ≡ q)
path_change make word a b p q good fine e =
    let path = tells_path a b p q good fine (tail_of word (rule.path_field a ∷ p) (rule.path_field b ∷ q) e) in
    (ap make path.0, path.1)

change_front : (x y : Change) (p q : List (List ℕ)) → rule.change_fields x ++ p ≡ rule.change_fields y ++ q → change_word x ≡ change_word y
change_front x y p q e = (change_split y (change_word x) (change_rest x ++ p) q (sym (ap (λ fields. fields ++ p) (change_fields_are x)) ∙ e)).0

pub tells_change : Tells rule.change_fields rule.IsTextChange
tells_change (Dir a) (Dir b) p q good fine e = path_change Dir (codes "dir") a b p q good fine e
tells_change (Drop a) (Drop b) p q good fine e = path_change Drop (codes "drop") a b p q good fine e
tells_change (DropDir a) (DropDir b) p q good fine e = path_change DropDir (codes "dropdir") a b p q good fine e
tells_change (Wipe a) (Wipe b) p q good fine e = path_change Wipe (codes "wipe") a b p q good fine e
tells_change (Put a m s) (Put b n t) p q good fine e =
    let root : rule.root_field a ≡ rule.root_field b = cc in
    let number : decimal m ≡ decimal n = cc in
    let tail : rule.path_field s ∷ p ≡ rule.path_field t ∷ q = cc in
    let roots = same_root a b root in
    let numbers = decimal_injective m n good.0 fine.0 number in
    let path = tells_path s t p q good.1 fine.1 tail in
    ((λ i. Put (roots i) (numbers i) (path.0 i)), path.1)
tells_change (Run a) (Run b) p q good fine e =
    let request = tells_request a b p q good fine (tail_of (codes "run") (rule.request_fields a ++ p) (rule.request_fields b ++ q) e) in
    (ap Run request.0, request.1)
tells_change x y p q good fine e = absurd (same_words (change_word x) (change_word y) (change_front x y p q e) refl)
