-- The word that begins the fields of an area or a change tells which it is.
use Rattle.std.proofs.Common.{◌≡◌, ℕ, ◌<◌, true, false, List, [], ◌∷◌, ◌++◌, length, map, codes, Option, Some, Result, Ok, inl, inr, arith, refl, sym, ap, ◌∙◌}
use Rattle.std.specs.Prelude.{bytes_eq, MatchOption}
use Rattle.std.specs.Cmp.Lexicographic.{bytes_decides}
use Rattle.std.specs.Fmt.{decimal}
use Rattle.std.proofs.lemmas.Bool.{cases_lt}
use Rattle.kb_world.specs.Path.{Path}
use Rattle.kb_world.specs.declared.child.Area.{Area}
use Rattle.kb_world.specs.declared.child.Area.TheVariants.{Nothing, Under, Names}
use Rattle.kb_world.specs.declared.child.Request.{Request}
use Rattle.kb_changes.specs.Text as rule
use Rattle.kb_changes.specs.declared.change.Change.{Change}
use Rattle.kb_changes.specs.declared.change.Change.TheVariants.{Dir, Put, Drop, DropDir, Wipe, Run}
use Rattle.kb_journal.specs.Reads.{IsPathChange, ReadsBack}
use Rattle.kb_journal.specs.declared.error.IntentError.{IntentError}
use Rattle.kb_journal.proofs.LeftLaws.{AreLeft, first_left, none_left}

-- the first field and those behind it
pub took : (got : Option (List ℕ)) (old new : List (List ℕ)) (word : List ℕ) → got ≡ Some word → MatchOption got (old ≡ []) (λ field. old ≡ field ∷ new) → old ≡ word ∷ new
took got old new word is told = rw is at told

-- a word is not two
two_words : (word name other : List ℕ) → bytes_eq word name ≡ true → word ≡ other → bytes_eq other name ≡ false → ⊥
two_words word name other test is apart = let same : bytes_eq other name ≡ true = ap (λ w. bytes_eq w name) (sym is) ∙ test in cc

cut : (word other : List ℕ) (rest others more : List (List ℕ)) → word ∷ rest ≡ (other ∷ others) ++ more → (word ≡ other) × (rest ≡ others ++ more)
cut word other rest others more front = (cc, cc)

-- ---- areas

abbrev pub area_word : Area → List ℕ
area_word Nothing = codes "nothing"
area_word (Under _) = codes "under"
area_word (Names _ _) = codes "names"

abbrev pub area_rest : Area → List (List ℕ)
area_rest Nothing = []
area_rest (Under directory) = rule.path_field directory ∷ []
area_rest (Names directory names) = rule.path_field directory ∷ rule.counted_fields (map rule.text_field names)

pub area_fields_are : (area : Area) → rule.area_fields area ≡ area_word area ∷ area_rest area
area_fields_are Nothing = refl
area_fields_are (Under directory) = refl
area_fields_are (Names directory names) = refl

pub area_split : (area : Area) (word : List ℕ) (rest more : List (List ℕ)) → word ∷ rest ≡ rule.area_fields area ++ more → (word ≡ area_word area) × (rest ≡ area_rest area ++ more)
area_split area word rest more front = cut word (area_word area) rest (area_rest area) more (front ∙ ap (λ fields. fields ++ more) (area_fields_are area))

pub is_under_area : (area : Area) (word : List ℕ) (rest more : List (List ℕ)) → bytes_eq word (codes "under") ≡ true → rule.IsTextArea area → word ∷ rest ≡ rule.area_fields area ++ more
    → (directory : Path) × (Under directory ≡ area) × rule.IsTextPath directory × (rest ≡ rule.path_field directory ∷ more)
is_under_area (Under directory) word rest more test good front = (directory, refl, good, (area_split (Under directory) word rest more front).1)
is_under_area area word rest more test good front = absurd (two_words word (codes "under") (area_word area) test (area_split area word rest more front).0 refl)

-- ---- changes

abbrev pub change_word : Change → List ℕ
change_word (Dir _) = codes "dir"
change_word (Put _ _ _) = codes "put"
change_word (Drop _) = codes "drop"
change_word (DropDir _) = codes "dropdir"
change_word (Wipe _) = codes "wipe"
change_word (Run _) = codes "run"

abbrev pub change_rest : Change → List (List ℕ)
change_rest (Dir path) = rule.path_field path ∷ []
change_rest (Put root number target) = rule.root_field root ∷ decimal number ∷ rule.path_field target ∷ []
change_rest (Drop path) = rule.path_field path ∷ []
change_rest (DropDir path) = rule.path_field path ∷ []
change_rest (Wipe path) = rule.path_field path ∷ []
change_rest (Run request) = rule.request_fields request

-- the fields of a change are its word and others
pub change_fields_are : (change : Change) → rule.change_fields change ≡ change_word change ∷ change_rest change
change_fields_are (Dir path) = refl
change_fields_are (Put _ _ _) = refl
change_fields_are (Drop path) = refl
change_fields_are (DropDir path) = refl
change_fields_are (Wipe path) = refl
change_fields_are (Run request) = refl

pub change_split : (change : Change) (word : List ℕ) (rest more : List (List ℕ)) → word ∷ rest ≡ rule.change_fields change ++ more → (word ≡ change_word change) × (rest ≡ change_rest change ++ more)
change_split change word rest more front =
    cut word (change_word change) rest (change_rest change) more (front ∙ ap (λ fields. fields ++ more) (change_fields_are change))

pub is_run : (change : Change) (word : List ℕ) (rest more : List (List ℕ)) → bytes_eq word (codes "run") ≡ true → rule.IsTextChange change → word ∷ rest ≡ rule.change_fields change ++ more
    → (request : Request) × (Run request ≡ change) × rule.IsTextRequest request × (rest ≡ rule.request_fields request ++ more)
is_run (Run request) word rest more test good front = (request, refl, good, (change_split (Run request) word rest more front).1)
is_run change word rest more test good front = absurd (two_words word (codes "run") (change_word change) test (change_split change word rest more front).0 refl)

pub is_of_path : (change : Change) (word : List ℕ) (rest more : List (List ℕ)) → bytes_eq word (codes "put") ≡ false → bytes_eq word (codes "run") ≡ false
    → rule.IsTextChange change → word ∷ rest ≡ rule.change_fields change ++ more
    → (path : Path) × IsPathChange word path change × rule.IsTextPath path × (rest ≡ rule.path_field path ∷ more)
is_of_path (Put root number target) word rest more no_put no_run good front =
    let is = (change_split (Put root number target) word rest more front).0 in
    let test : bytes_eq word (codes "put") ≡ true = (bytes_decides word (codes "put")).1 is in
    absurd cc
is_of_path (Run request) word rest more no_put no_run good front =
    let is = (change_split (Run request) word rest more front).0 in
    let test : bytes_eq word (codes "run") ≡ true = (bytes_decides word (codes "run")).1 is in
    absurd cc
is_of_path (Dir path) word rest more no_put no_run good front =
    let split = change_split (Dir path) word rest more front in (path, (split.0, refl), good, split.1)
is_of_path (Drop path) word rest more no_put no_run good front =
    let split = change_split (Drop path) word rest more front in (path, (split.0, refl), good, split.1)
is_of_path (DropDir path) word rest more no_put no_run good front =
    let split = change_split (DropDir path) word rest more front in (path, (split.0, refl), good, split.1)
is_of_path (Wipe path) word rest more no_put no_run good front =
    let split = change_split (Wipe path) word rest more front in (path, (split.0, refl), good, split.1)

pub of_path_read : (change : Change) (more left : List (List ℕ)) (result : Result Change IntentError) → result ≡ Ok change → left ≡ more → ReadsBack change more result left
of_path_read change more left result is rest = rw is (refl, rest)

-- ---- the end of the changes

pub some_fields : (change : Change) → 0 < length (rule.change_fields change)
some_fields change = rw change_fields_are (omega arith)

pub no_end : (change : Change) → bytes_eq (change_word change) (codes "end") ≡ false
no_end (Dir path) = refl
no_end (Put _ _ _) = refl
no_end (Drop path) = refl
no_end (DropDir path) = refl
no_end (Wipe path) = refl
no_end (Run request) = refl

-- the changes that are left when so many are read
abbrev pub ChangesLeft : List Change → List Change → List (List ℕ) → List (List ℕ) → ℕ → Type 0
ChangesLeft all got more left i = AreLeft rule.change_fields rule.IsTextChange all got (codes "end" ∷ more) left i

pub ends : (all got : List Change) (more left next : List (List ℕ)) (word : List ℕ) (i : ℕ) → ChangesLeft all got more left i → left ≡ word ∷ next
    → bytes_eq word (codes "end") ≡ true → (got ≡ all) × (next ≡ more)
ends all got more left next word i part is test = elim (cases_lt i (length all)) [
  | inl below ↦
      let first = first_left rule.change_fields rule.IsTextChange all got (codes "end" ∷ more) left i part below in
      absurd (two_words word (codes "end") (change_word first.0) test (change_split first.0 word next first.1 (sym is ∙ first.3)).0 (no_end first.0))
  | inr over ↦
      let none = none_left rule.change_fields rule.IsTextChange all got (codes "end" ∷ more) left i part over in
      let both : word ∷ next ≡ codes "end" ∷ more = sym is ∙ none.1 in
      (none.0, cc)
]

pub goes_on : (all got : List Change) (more left next : List (List ℕ)) (word : List ℕ) (i : ℕ) → ChangesLeft all got more left i → left ≡ word ∷ next
    → bytes_eq word (codes "end") ≡ false → i < length all
goes_on all got more left next word i part is test = elim (cases_lt i (length all)) [
  | inl below ↦ below
  | inr over ↦
      let none = none_left rule.change_fields rule.IsTextChange all got (codes "end" ∷ more) left i part over in
      let both : word ∷ next ≡ codes "end" ∷ more = sym is ∙ none.1 in
      let same : word ≡ codes "end" = cc in
      let yes : bytes_eq word (codes "end") ≡ true = (bytes_decides word (codes "end")).1 same in
      absurd cc
]
