-- How an entry is printed. The layout is this project's own; its lines are those of the Boot Loader Specification.
use Rattle.std.specs.Prelude.{ℕ, ◌-◌, Bool, ◌&&◌, not, List, [], ◌∷◌, ◌++◌, length, map, flat_map, replicate, nat_eq, nat_lt, codes}
use Rattle.std.specs.List.{list_all}
use Rattle.std.specs.Option.{option_to_list}
use Rattle.std.specs.Str.{byte}
use Rattle.kb_bls.specs.declared.entry.Entry.{Entry}
use Rattle.kb_bls.specs.Fields.{Field, CARRIAGE_RETURN, is_entry_blank, begins_so, ends_with}
use Rattle.kb_bls.specs.Text.{LINE_FEED}

-- the keys, in the order in which they are printed, each with its values
abbrev pub values_by_key : Entry → List (List ℕ × List (List ℕ))
values_by_key e =
    (codes "title", option_to_list e.title)
    ∷ (codes "version", option_to_list e.version)
    ∷ (codes "machine-id", option_to_list e.machine_id)
    ∷ (codes "sort-key", option_to_list e.sort_key)
    ∷ (codes "options", e.options)
    ∷ (codes "linux", option_to_list e.linux)
    ∷ (codes "efi", option_to_list e.efi)
    ∷ (codes "initrd", e.initrd)
    ∷ (codes "devicetree", option_to_list e.devicetree)
    ∷ (codes "architecture", option_to_list e.architecture)
    ∷ []

-- a field for each value of a key
abbrev pub fields_with : List ℕ → List (List ℕ) → List Field
fields_with name values = map (λ v. record { key = name; value = v }) values

abbrev pub printed_fields : Entry → List Field
printed_fields e = flat_map (λ k. fields_with k.0 k.1) (values_by_key e)

-- the key, filled with spaces to ten places, a space and the value
abbrev pub field_line : Field → List ℕ
field_line f = f.key ++ (replicate (10 - length f.key) (byte " ") ++ (codes " " ++ (f.value ++ LINE_FEED ∷ [])))

abbrev pub entry_text : Entry → List ℕ
entry_text e = flat_map field_line (printed_fields e)

-- what a line can hold as a value: it isn't empty, has no line feed and no carriage return, and no blank at an end
abbrev pub is_value : List ℕ → Bool
is_value text =
    nat_lt 0 (length text)
    && list_all (λ c. not (nat_eq c LINE_FEED) && not (nat_eq CARRIAGE_RETURN c)) text
    && not (begins_so is_entry_blank text) && not (ends_with is_entry_blank text)

abbrev pub can_be_printed : Entry → Bool
can_be_printed e = list_all (λ k. list_all is_value k.1) (values_by_key e)
