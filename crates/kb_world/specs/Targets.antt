-- The file `targets` of a build: the places of its modules below the kernel's directory. This project's own.
use Rattle.std.specs.Prelude.{ℕ, ◌-◌, Bool, true, false, ◌&&◌, ◌||◌, not, cond, List, [], ◌∷◌, ◌++◌, length, take, drop, map, flat_map, nat_eq, nat_le, Option, Some, None, codes, bytes_eq}
use Rattle.std.specs.List.{list_all, slice_split, join_with_byte}
use Rattle.std.specs.Str.{byte}
use Rattle.kb_world.specs.Names.{is_word}
use Rattle.kb_world.specs.Path.{Path, are_apart}
use Rattle.kb_world.specs.Refusal.{LINE_FEED}

-- an `is_word` with `.ko` behind it
abbrev pub is_module_file : List ℕ → Bool
is_module_file name = is_word (take (length name - 3) name) && bytes_eq (drop (length name - 3) name) (codes ".ko")

-- words, and last a module's file
abbrev pub leads_to_module : Path → Bool
leads_to_module [] = false
leads_to_module (name ∷ []) = is_module_file name
leads_to_module (name ∷ next ∷ rest) = is_word name && leads_to_module (next ∷ rest)

-- the directories of a kernel that modules are put below
abbrev pub is_area : List ℕ → Bool
is_area name = bytes_eq name (codes "kernel") || bytes_eq name (codes "updates") || bytes_eq name (codes "extra")

-- where a module can be put, by its names below the kernel's directory
abbrev pub is_place : Path → Bool
is_place [] = false
is_place (area ∷ names) = is_area area && leads_to_module names

abbrev pub last_name : Path → List ℕ
last_name [] = []
last_name (name ∷ []) = name
last_name (name ∷ next ∷ rest) = last_name (next ∷ rest)

-- their last names differ, and neither is above the other
abbrev pub can_share : Path → Path → Bool
can_share a b = not (bytes_eq (last_name a) (last_name b)) && are_apart a b

abbrev pub can_all_share : List Path → Bool
can_all_share [] = true
can_all_share (place ∷ places) = list_all (can_share place) places && can_all_share places

-- the places that a build may have
abbrev pub are_targets : List Path → Bool
are_targets places = nat_le 1 (length places) && nat_le (length places) 256 && list_all is_place places && can_all_share places

abbrev pub SLASH : ℕ
SLASH = byte "/"

-- the names with a slash between each two, and a line feed
abbrev pub target_line : Path → List ℕ
target_line place = join_with_byte SLASH place ++ LINE_FEED ∷ []

-- the text of the file: its first line, and one for each place
abbrev pub targets_text : List Path → List ℕ
targets_text places = (codes "kmodboot targets 1" ++ LINE_FEED ∷ []) ++ flat_map target_line places

-- without the first and the last
abbrev pub inner : List (List ℕ) → List (List ℕ)
inner parts = drop 1 (take (length parts - 1) parts)

-- the lines between the first line feed and the last, each cut at its slashes
abbrev pub told_places : List ℕ → List Path
told_places text = map (slice_split (λ c. nat_eq c SLASH)) (inner (slice_split (λ c. nat_eq c LINE_FEED) text))

-- the places of a text that is in the format, which is the text of places that a build may have
unfoldable pub targets_of : List ℕ → Option (List Path)
targets_of text = cond (are_targets (told_places text) && bytes_eq (targets_text (told_places text)) text) (Some (told_places text)) None
