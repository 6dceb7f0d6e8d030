-- Which entry a text is. Boot Loader Specification, "Type #1 Boot Loader Specification Entries"; which keys belong to
-- the profile, and that of the others the last value counts, is this project's own.
use Rattle.std.specs.Prelude.{◌≡◌, ℕ, List, [], ◌∷◌, map, filter, nat_eq, Option, Some, None, codes, bytes_eq}
use Rattle.std.specs.List.{slice_split}
use Rattle.std.specs.Str.{IsUtf8}
use Rattle.kb_bls.specs.declared.entry.Entry.{Entry}
use Rattle.kb_bls.specs.Fields.{Field, Say}

abbrev pub LINE_FEED : ℕ
LINE_FEED = 10

-- the lines; the end of the text ends one too
abbrev pub lines_of : List ℕ → List (List ℕ)
lines_of text = slice_split (λ c. nat_eq c LINE_FEED) text

-- the values of a key, in their order
abbrev pub values_of : List ℕ → List Field → List (List ℕ)
values_of key said = map (λ f. f.value) (filter (λ f. bytes_eq f.key key) said)

abbrev pub last_value_of : List (List ℕ) → Option (List ℕ)
last_value_of [] = None
last_value_of (value ∷ []) = Some value
last_value_of (value ∷ next ∷ rest) = last_value_of (next ∷ rest)

-- `options` and `initrd` have all their values, the other keys their last
pub record Has (entry : Entry) (said : List Field) : Type 0 where
  pub title : entry.title ≡ last_value_of (values_of (codes "title") said)
  pub version : entry.version ≡ last_value_of (values_of (codes "version") said)
  pub machine_id : entry.machine_id ≡ last_value_of (values_of (codes "machine-id") said)
  pub sort_key : entry.sort_key ≡ last_value_of (values_of (codes "sort-key") said)
  pub options : entry.options ≡ values_of (codes "options") said
  pub linux : entry.linux ≡ last_value_of (values_of (codes "linux") said)
  pub efi : entry.efi ≡ last_value_of (values_of (codes "efi") said)
  pub initrd : entry.initrd ≡ values_of (codes "initrd") said
  pub devicetree : entry.devicetree ≡ last_value_of (values_of (codes "devicetree") said)
  pub architecture : entry.architecture ≡ last_value_of (values_of (codes "architecture") said)

pub record IsEntryOf (text : List ℕ) (entry : Entry) : Type 0 where
  pub utf8 : IsUtf8 text
  pub said : List Field
  pub lines : Say (lines_of text) said
  pub has : Has entry said
