-- The text of a journal, and which texts are journals. This project's own.
use Rattle.std.specs.Prelude.{◌≡◌, ℕ, ◌<◌, ◌^◌, true, List, [], ◌∷◌, ◌++◌, length, map, flat_map, codes, All}
use Rattle.std.specs.Fmt.{decimal}
use Rattle.std.specs.Str.{IsUtf8}
use Rattle.hex.specs.Hex.{encode_lower}
use Rattle.sha2.specs.Sha256.{sha256}
use Rattle.kb_world.specs.Path.{Path, IsPath, path_text}
use Rattle.kb_world.specs.declared.child.Area.{Area}
use Rattle.kb_world.specs.declared.child.Area.TheVariants as areas
use Rattle.kb_world.specs.declared.child.Request.{Request}
use Rattle.kb_world.specs.declared.roots.Roots.{Roots}
use Rattle.kb_changes.specs.Valid.{is_valid}
use Rattle.kb_changes.specs.declared.change.Change.{Change}
use Rattle.kb_changes.specs.declared.change.Change.TheVariants.{Dir, Put, Drop, DropDir, Wipe, Run}
use Rattle.kb_changes.specs.declared.change.Intent.{Intent}
use Rattle.kb_changes.specs.declared.change.RootName.{RootName}
use Rattle.kb_changes.specs.declared.change.RootName.TheVariants as root_name

-- ---- fields

-- the hexadecimal of the bytes, in lower case; of none a dash
abbrev pub text_field : List ℕ → List ℕ
text_field [] = codes "-"
text_field (c ∷ rest) = encode_lower (c ∷ rest)

abbrev pub path_field : Path → List ℕ
path_field path = text_field (path_text path)

-- how many there are, and each
abbrev pub counted_fields : List (List ℕ) → List (List ℕ)
counted_fields fields = decimal (length fields) ∷ fields

abbrev pub pair_field : List ℕ × List ℕ → List (List ℕ)
pair_field pair = text_field pair.0 ∷ text_field pair.1 ∷ []

-- how many pairs there are, and both of each
abbrev pub pair_fields : List (List ℕ × List ℕ) → List (List ℕ)
pair_fields pairs = decimal (length pairs) ∷ flat_map pair_field pairs

abbrev pub area_fields : Area → List (List ℕ)
area_fields areas.Nothing = codes "nothing" ∷ []
area_fields (areas.Under directory) = codes "under" ∷ path_field directory ∷ []
area_fields (areas.Names directory names) = codes "names" ∷ path_field directory ∷ counted_fields (map text_field names)

-- the program, the directory and the area
abbrev pub head_fields : Request → List (List ℕ)
head_fields request = text_field request.program ∷ path_field request.dir ∷ area_fields request.area

abbrev pub request_fields : Request → List (List ℕ)
request_fields request =
    head_fields request ++ codes "args" ∷ counted_fields (map text_field request.args) ++ codes "env" ∷ pair_fields request.env
    ++ codes "seen" ∷ counted_fields (map path_field request.seen)

abbrev pub root_field : RootName → List ℕ
root_field root_name.Dkms = codes "D"
root_field root_name.Src = codes "S"
root_field root_name.Modules = codes "L"
root_field root_name.Boot = codes "B"

abbrev pub put_fields : RootName → ℕ → Path → List (List ℕ)
put_fields root number target = codes "put" ∷ root_field root ∷ decimal number ∷ path_field target ∷ []

-- ---- lines

abbrev pub change_fields : Change → List (List ℕ)
change_fields (Dir path) = codes "dir" ∷ path_field path ∷ []
change_fields (Put root number target) = put_fields root number target
change_fields (Drop path) = codes "drop" ∷ path_field path ∷ []
change_fields (DropDir path) = codes "dropdir" ∷ path_field path ∷ []
change_fields (Wipe path) = codes "wipe" ∷ path_field path ∷ []
change_fields (Run request) = codes "run" ∷ request_fields request

-- the first field, each other behind a space, and a line feed
abbrev pub line_of_fields : List (List ℕ) → List ℕ
line_of_fields [] = 10 ∷ []
line_of_fields (first ∷ fields) = first ++ flat_map (λ field. 32 ∷ field) fields ++ 10 ∷ []

abbrev pub words_line : List (List ℕ) → List ℕ
words_line words = line_of_fields (codes "words" ∷ map text_field words)

-- the lines of the changes
abbrev pub changes_text : List Change → List ℕ
changes_text changes = flat_map (λ change. line_of_fields (change_fields change)) changes

-- what stands before the digest
abbrev pub intent_body : Intent → List ℕ
intent_body intent = line_of_fields (codes "kmodboot" ∷ codes "intent" ∷ codes "1" ∷ []) ++ words_line intent.words ++ changes_text intent.changes

abbrev pub digest_field : List ℕ → List ℕ
digest_field body = encode_lower (sha256 body)

abbrev pub end_line : List ℕ → List ℕ
end_line body = line_of_fields (codes "end" ∷ digest_field body ∷ [])

unfoldable pub intent_text : Intent → List ℕ
intent_text intent = intent_body intent ++ end_line (intent_body intent)

-- ---- what a value of the program's types holds: texts of UTF-8, paths of names, and numbers and lengths below 2^64

abbrev pub IsTextPath : Path → Type 0
IsTextPath path = IsPath path × IsUtf8 (path_text path)

abbrev pub AreTextPairs : List (List ℕ × List ℕ) → Type 0
AreTextPairs pairs = All (λ pair. IsUtf8 pair.0 × IsUtf8 pair.1) pairs

abbrev pub IsTextArea : Area → Type 0
IsTextArea areas.Nothing = Unit {0}
IsTextArea (areas.Under directory) = IsTextPath directory
IsTextArea (areas.Names directory names) = IsTextPath directory × All IsUtf8 names × (length names < 2 ^ 64)

abbrev pub IsTextHead : Request → Type 0
IsTextHead request = IsUtf8 request.program × IsTextPath request.dir × IsTextArea request.area

pub record IsTextRequest (request : Request) : Type 0 where
  pub head : IsTextHead request
  pub args : All IsUtf8 request.args
  pub args_counted : length request.args < 2 ^ 64
  pub env : AreTextPairs request.env
  pub env_counted : length request.env < 2 ^ 64
  pub seen : All IsTextPath request.seen
  pub seen_counted : length request.seen < 2 ^ 64

abbrev pub IsTextChange : Change → Type 0
IsTextChange (Dir path) = IsTextPath path
IsTextChange (Put _ number target) = (number < 2 ^ 64) × IsTextPath target
IsTextChange (Drop path) = IsTextPath path
IsTextChange (DropDir path) = IsTextPath path
IsTextChange (Wipe path) = IsTextPath path
IsTextChange (Run request) = IsTextRequest request

pub record AreTexts (intent : Intent) : Type 0 where
  pub words : All IsUtf8 intent.words
  pub changes : All IsTextChange intent.changes

-- A journal: the text of a valid intent.
pub record IsJournal (roots : Roots) (text : List ℕ) (intent : Intent) : Type 0 where
  pub texts : AreTexts intent
  pub valid : is_valid roots intent.changes ≡ true
  pub spelled : intent_text intent ≡ text
