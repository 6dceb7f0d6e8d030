-- The order of entries in a boot menu. Boot Loader Specification, "Sorting"; that the last rules compare bases and names
-- is this project's own.
use Rattle.std.specs.Prelude.{ℕ, Bool, List, Option, Some, None, option_map, unwrap_or}
use Rattle.std.specs.declared.cmp.Ordering.{Ordering}
use Rattle.std.specs.declared.cmp.Ordering.TheVariants.{Less, Equal, Greater}
use Rattle.std.specs.Ordering.{nat_cmp, bool_cmp, on, then_cmp, flip_args}
use Rattle.std.specs.Option.{option_cmp}
use Rattle.std.specs.Cmp.Lexicographic.{slice_cmp}
use Rattle.kb_version.specs.Order.{version_order}
use Rattle.kb_bls.specs.declared.entry.Entry.{Entry}
use Rattle.kb_bls.specs.declared.order.Named.{Named}
use Rattle.kb_bls.specs.declared.name.Counter.TheVariants.{Good}
use Rattle.kb_bls.specs.Names.{is_out_of_tries}
use Rattle.kb_bls.specs.Reading.{Reading, name_reading}

abbrev pub bytes_order : List ℕ → List ℕ → Ordering
bytes_order = slice_cmp nat_cmp

-- what is newer stands first
abbrev pub newest_first : List ℕ → List ℕ → Ordering
newest_first = flip_args version_order

-- what isn't there stands last
abbrev pub none_last : {T : Type 0} → (T → T → Ordering) → Option T → Option T → Ordering
none_last order None None = Equal
none_last order None (Some y) = Greater
none_last order (Some x) None = Less
none_last order (Some x) (Some y) = order x y

-- a name that isn't an entry's is its own base and counts no tries
abbrev pub read_as : List ℕ → Reading
read_as name = unwrap_or (name_reading name) (name, Good)

abbrev pub base_of : Named → List ℕ
base_of named = (read_as named.name).0

abbrev pub has_no_try : Named → Bool
has_no_try named = is_out_of_tries (read_as named.name).1

-- what tells entries with a sort key apart
pub record SortFields : Type 0 where
  pub sort_key : List ℕ
  pub machine_id : Option (List ℕ)
  pub version : Option (List ℕ)

abbrev pub sort_fields : Entry → Option SortFields
sort_fields e = option_map (λ key. record { sort_key = key; machine_id = e.machine_id; version = e.version }) e.sort_key

-- by sort key, then by machine with none first, then the newest version first with none last
abbrev pub sort_fields_order : SortFields → SortFields → Ordering
sort_fields_order =
    then_cmp (on (λ f. f.sort_key) bytes_order)
    (then_cmp (on (λ f. f.machine_id) (option_cmp bytes_order)) (on (λ f. f.version) (none_last newest_first)))

-- entries without a try left come last; those with a sort key come before those without; then the newest base comes
-- first; and then names go by bytes
abbrev pub entry_order : Named → Named → Ordering
entry_order =
    then_cmp (on has_no_try bool_cmp)
    (then_cmp (on (λ n. sort_fields n.entry) (none_last sort_fields_order))
    (then_cmp (on base_of newest_first) (on (λ n. n.name) bytes_order)))
