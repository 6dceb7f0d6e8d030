-- A path's text, cut at its slashes, gives the names; and the parts of a text, if each is a name, give the text.
use Rattle.std.proofs.Common.{◌≡◌, ◌≢◌, ◌<◌, ◌+◌, ℕ, Bool, true, false, cond, ◌&&◌, not, eqb, eqb-true, List, [], ◌∷◌, ◌++◌, length, get_or, map, take, refl, sym, ◌∙◌, ap, subst, append-nil, arith, Bor}
use Rattle.std.specs.List.{list_all, slice_split, onto_first, flat_map, All}
use Rattle.std.specs.Str.{bytes_eq}
use Rattle.std.specs.Cmp.Derive.{both_true}
use Rattle.std.proofs.lemmas.List.{map_more}
use Rattle.std.proofs.lemmas.List.Folds.{list_all_at, list_all-map, list_all-append}
use Rattle.std.proofs.lemmas.List.Elements.{All-cons}
use Rattle.std.proofs.lemmas.List.Splits.{slice_split_none, slice_split_at}
use Rattle.std.proofs.lemmas.Slice.Eq.{bytes_eq-Decides}
use Rattle.kb_world.specs.Names.{is_name}
use Rattle.kb_world.specs.Path.{Path, IsPath, path_text}

abbrev SLASH : ℕ
SLASH = 47

abbrev is_slash : ℕ → Bool
is_slash c = eqb c SLASH

-- the names, each with a slash before it
abbrev slashed : Path → List ℕ
slashed = flat_map (λ name. SLASH ∷ name)

pub both : (a b : Bool) → (a && b) ≡ true → (a ≡ true) × (b ≡ true)
both true true h = (refl, refl)
both true false h = cc
both false b h = cc

not_true : (b : Bool) → not b ≡ true → b ≡ false
not_true true h = cc
not_true false h = refl

all_without_slash : (name : List ℕ) → list_all (λ c. not (eqb c 47) && not (eqb c 0)) name ≡ true → All (λ c. is_slash c ≡ false) name
all_without_slash [] h = λ k d lt. absurd (omega arith)
all_without_slash (c ∷ cs) h =
    let here = both (not (eqb c 47) && not (eqb c 0)) (list_all (λ c. not (eqb c 47) && not (eqb c 0)) cs) h in
    All-cons (λ c. is_slash c ≡ false) c cs (not_true (eqb c 47) (both (not (eqb c 47)) (not (eqb c 0)) here.0).0) (all_without_slash cs here.1)

-- a name has no slash
name_without_slash : (name : List ℕ) → is_name name ≡ true → All (λ c. is_slash c ≡ false) name
name_without_slash name h = all_without_slash name (both _ _ (both _ _ (both _ _ h).0).0).1

slashed-onto_first : (c : ℕ) (parts : Path) (rest : List ℕ) → slashed parts ≡ SLASH ∷ rest → slashed (onto_first c parts) ≡ SLASH ∷ c ∷ rest
slashed-onto_first c [] rest h = cc
slashed-onto_first c (part ∷ parts) rest h = cc

slashed-cut : (c : ℕ) (rest : List ℕ) (b : Bool) → eqb c SLASH ≡ b → slashed (slice_split is_slash rest) ≡ SLASH ∷ rest → slashed (cond b ([] ∷ slice_split is_slash rest) (onto_first c (slice_split is_slash rest))) ≡ SLASH ∷ c ∷ rest
slashed-cut c rest true e h = let same = eqb-true c SLASH e in cc
slashed-cut c rest false e h = slashed-onto_first c (slice_split is_slash rest) rest h

-- the parts of what follows a slash, each with a slash before it, give the text back
pub slashed-slice_split : (rest : List ℕ) → slashed (slice_split is_slash rest) ≡ SLASH ∷ rest
slashed-slice_split [] = refl
slashed-slice_split (c ∷ rest) = slashed-cut c rest (eqb c SLASH) refl (slashed-slice_split rest)

-- names with a slash before each but the first are cut into the names
slice_split-slashed : (name : List ℕ) (names : Path) → IsPath (name ∷ names) → slice_split is_slash (name ++ slashed names) ≡ name ∷ names
slice_split-slashed name [] h = rw append-nil (slice_split_none is_slash name (name_without_slash name (both (is_name name) true h).0))
slice_split-slashed name (next ∷ names) h =
    let here = both (is_name name) (list_all is_name (next ∷ names)) h in
    slice_split_at is_slash name SLASH (next ++ slashed names) (name_without_slash name here.0) refl ∙ ap (λ parts. name ∷ parts) (slice_split-slashed next names here.1)

path_text-parts : (parts : Path) (rest : List ℕ) → slashed parts ≡ SLASH ∷ rest → path_text parts ≡ SLASH ∷ rest
path_text-parts [] rest h = cc
path_text-parts (part ∷ parts) rest h = h

-- the parts of what follows a slash are a list of names with this text
pub path_text-slice_split : (rest : List ℕ) → path_text (slice_split is_slash rest) ≡ SLASH ∷ rest
path_text-slice_split rest = path_text-parts (slice_split is_slash rest) rest (slashed-slice_split rest)

-- the parts of what follows the first slash of a path's text are its names, but for the root
pub names_of_text : (path : Path) (rest : List ℕ) → IsPath path → path_text path ≡ SLASH ∷ rest → rest ≢ [] → slice_split is_slash rest ≡ path
names_of_text [] rest h e more = absurd (more cc)
names_of_text (name ∷ names) rest h e more =
    let tail : rest ≡ name ++ slashed names = cc in
    ap (slice_split is_slash) tail ∙ slice_split-slashed name names h

root_alone : (name : List ℕ) (names : Path) → IsPath (name ∷ names) → SLASH ∷ [] ≢ SLASH ∷ (name ++ slashed names)
root_alone [] names h e = cc
root_alone (c ∷ cs) names h e = cc

-- a path's text begins with a slash
pub path_text_begins : (path : Path) → (rest : List ℕ) × (path_text path ≡ SLASH ∷ rest)
path_text_begins [] = ([], refl)
path_text_begins (name ∷ names) = (name ++ slashed names, refl)

-- paths with one text are one path
pub same_path : (a b : Path) → IsPath a → IsPath b → path_text a ≡ path_text b → a ≡ b
same_path [] [] p q e = refl
same_path [] (name ∷ names) p q e = absurd (root_alone name names q e)
same_path (name ∷ names) [] p q e = absurd (root_alone name names p (sym e))
same_path (name ∷ names) (other ∷ others) p q e =
    let tails : name ++ slashed names ≡ other ++ slashed others = cc in
    sym (slice_split-slashed name names p) ∙ ap (slice_split is_slash) tails ∙ slice_split-slashed other others q

-- one of the parts is no name, so that they are no path
pub not_named : (parts : List (Bor (List ℕ))) (i : ℕ) (d : Bor (List ℕ)) → i < length parts → is_name (get_or parts i d).now ≡ false → IsPath (map (λ part. part.now) parts) → ⊥
not_named parts i d within h named =
    let found = list_all_at (λ (part : Bor (List ℕ)). is_name part.now) parts i d within h in
    let all = list_all-map is_name (λ (part : Bor (List ℕ)). part.now) parts in
    cc

-- one more of the parts is a name
pub one_more_name : (parts : List (Bor (List ℕ))) (i : ℕ) (d : Bor (List ℕ)) (names : Path) (name : List ℕ) → i < length parts → names ≡ map (λ part. part.now) (take i parts) → IsPath names → name ≡ (get_or parts i d).now → is_name name ≡ true → (names ++ name ∷ [] ≡ map (λ part. part.now) (take (i + 1) parts)) × IsPath (names ++ name ∷ [])
one_more_name parts i d names name within so_far named e h =
    let more = map_more (λ (part : Bor (List ℕ)). part.now) parts i d within in
    let all = list_all-append is_name names (name ∷ []) in
    let last : list_all is_name (name ∷ []) ≡ true = both_true h refl in
    (cc, all ∙ both_true named last)

-- what stands before the names must be a slash alone
pub not_a_path : (text rest : List ℕ) (parts : Path) → text ≡ SLASH ∷ rest → parts ≡ slice_split is_slash rest → bytes_eq text (SLASH ∷ []) ≡ false → (IsPath parts → ⊥) → (path : Path) → IsPath path → path_text path ≡ text → ⊥
not_a_path text rest parts begins cut more unnamed path h e =
    let same = names_of_text path rest h (e ∙ begins) (λ none. let found = (bytes_eq-Decides text (SLASH ∷ [])).1 (begins ∙ ap (λ r. SLASH ∷ r) none) in cc) in
    unnamed (subst IsPath (sym (cut ∙ same)) h)
