-- The table of assignments: a list, and an index map that says where the last of each name and number stands.
use Rattle.std.specs.Prelude.{◌≡◌, ℕ, ◌<◌, Bool, ◌&&◌, List, Option, Some, map, option_map, option_and_then, length, slice_get, ◌==◌}
use Rattle.std.specs.Borrow.{Bor}
use Rattle.std.specs.Str.{bytes_eq}
use Rattle.std.specs.declared.hash.FoldHasher.{FoldHasher}
use Rattle.std.specs.declared.hash.BuildHasherDefault.{BuildHasherDefault}
use Rattle.indexmap.specs.IndexMap.{IndexMap, get_by}
use Rattle.kb_conf.specs.Assignment.{Assignment, last_value}
use Rattle.kb_conf.specs.declared.table.Assignment as code

abbrev pub view_assignment : code.Assignment → Assignment
view_assignment a = record { name = a.name.now; number = a.number; value = a.value.items }

abbrev pub Key : Type 0
Key = Bor (List ℕ) × ℕ

abbrev pub is_entry_key : List ℕ → ℕ → Key → Bool
is_entry_key name number k = bytes_eq name k.0.now && number == k.1

abbrev pub last_position : IndexMap Key ℕ (BuildHasherDefault FoldHasher) → List ℕ → ℕ → Option ℕ
last_position last name number = get_by (is_entry_key name number) last

abbrev pub value_at : List code.Assignment → ℕ → Option (List ℕ)
value_at list i = option_map (λ (a : code.Assignment). a.value.items) (slice_get list i)

pub record PointsAtLast (list : List code.Assignment) (last : IndexMap Key ℕ (BuildHasherDefault FoldHasher)) : Type 0 where
  pub within : (name : List ℕ) (number i : ℕ) → last_position last name number ≡ Some i → i < length list
  pub points : (name : List ℕ) (number : ℕ) → option_and_then (value_at list) (last_position last name number) ≡ last_value (map view_assignment list) name number
