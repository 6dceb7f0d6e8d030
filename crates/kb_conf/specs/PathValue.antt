-- The paths that values of a dkms.conf are. After dkms(8); the rule on their parts is this project's own.
use Rattle.std.specs.Prelude.{ℕ, Bool, false, not, ◌&&◌, ◌||◌, List, [], ◌∷◌, filter, codes, bytes_eq, ◌==◌}
use Rattle.std.specs.List.{slice_split, list_all}
use Rattle.std.specs.Str.{byte}
use Rattle.kb_world.specs.Names.{is_word}
use Rattle.kb_conf.specs.Values.{is_given}

-- a path value is split at `/`; empty parts and `.` are dropped
abbrev pub is_path_part : List ℕ → Bool
is_path_part part = is_given part && not (bytes_eq part (codes "."))

unfoldable pub path_parts : List ℕ → List (List ℕ)
path_parts value = filter is_path_part (slice_split (λ c. c == byte "/") value)

-- no word is `..`
unfoldable pub is_step : List ℕ → Bool
is_step part = is_word part

unfoldable pub are_words : List (List ℕ) → Bool
are_words parts = list_all is_step parts

unfoldable pub is_path : List ℕ → Bool
is_path value = are_words (path_parts value)

abbrev pub begins_with_slash : List ℕ → Bool
begins_with_slash [] = false
begins_with_slash (b ∷ bs) = b == byte "/"

-- where modules of a kernel are installed
abbrev pub is_top : List ℕ → Bool
is_top name = bytes_eq name (codes "kernel") || bytes_eq name (codes "updates") || bytes_eq name (codes "extra")

abbrev pub begins_at_top : List (List ℕ) → Bool
begins_at_top [] = false
begins_at_top (first ∷ rest) = is_top first

-- `/kernel`, `/updates` or `/extra`, or a path below one
unfoldable pub is_destination : List ℕ → Bool
is_destination value = begins_with_slash value && begins_at_top (path_parts value) && are_words (path_parts value)
