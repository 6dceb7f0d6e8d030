-- What reading the fields of a journal gives. This project's own.
use Rattle.std.specs.Prelude.{◌≡◌, ℕ, Bool, false, ◌||◌, List, ◌∷◌, ◌++◌, map, nat_eq, bytes_eq, codes, Result, Ok, Err, IsErr}
use Rattle.hex.specs.Hex.{decode_of}
use Rattle.kb_world.specs.Path.{Path}
use Rattle.kb_world.specs.declared.child.Request.{Request}
use Rattle.kb_changes.specs.Text.{counted_fields, pair_fields, path_field, text_field}
use Rattle.kb_changes.specs.declared.change.Change.{Change}
use Rattle.kb_changes.specs.declared.change.Change.TheVariants.{Dir, Put, Drop, DropDir, Wipe, Run}
use Rattle.kb_journal.specs.declared.error.IntentError.{IntentError}
use Rattle.kb_journal.specs.declared.error.IntentError.TheVariants.{NoMemory}

-- a space or a line feed
abbrev pub is_field_end : ℕ → Bool
is_field_end c = nat_eq c 32 || nat_eq c 10

-- the value was read, where there was memory for it
abbrev pub IsValueRead : {T : Type 0} → T → Result T IntentError → Type 0
IsValueRead value (Ok got) = got ≡ value
IsValueRead value (Err error) = error ≡ NoMemory

-- the value was read, and these fields are left
abbrev pub ReadsBack : {T : Type 0} → T → List (List ℕ) → Result T IntentError → List (List ℕ) → Type 0
ReadsBack value more (Ok got) left = (got ≡ value) × (left ≡ more)
ReadsBack value more (Err error) left = error ≡ NoMemory

-- the field is that of no text
abbrev pub IsNoText : List ℕ → Type 0
IsNoText field = (bytes_eq field (codes "-") ≡ false) × IsErr (decode_of field)

-- the fields of a request's lists, and more
abbrev pub list_fields : Request → List (List ℕ) → List (List ℕ)
list_fields request more =
    codes "args" ∷ counted_fields (map text_field request.args)
    ++ (codes "env" ∷ pair_fields request.env ++ (codes "seen" ∷ counted_fields (map path_field request.seen) ++ more))

-- the change of this path that the word names
abbrev pub IsPathChange : List ℕ → Path → Change → Type 0
IsPathChange word path (Dir target) = (word ≡ codes "dir") × (target ≡ path)
IsPathChange word path (Put _ _ _) = ⊥
IsPathChange word path (Drop target) = (word ≡ codes "drop") × (target ≡ path)
IsPathChange word path (DropDir target) = (word ≡ codes "dropdir") × (target ≡ path)
IsPathChange word path (Wipe target) = (word ≡ codes "wipe") × (target ≡ path)
IsPathChange word path (Run _) = ⊥
