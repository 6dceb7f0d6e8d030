-- What a filter wants. After `dkms status` of the tool dkms, and this project's own.
use Rattle.std.specs.Prelude.{ℕ, Bool, true, false, ◌&&◌, ◌||◌, List, [], ◌∷◌, Option, Some, None, bytes_eq}
use Rattle.std.specs.List.{list_any}
use Rattle.kb_world.specs.declared.job.Filter.{Filter}
use Rattle.kb_world.specs.declared.job.Key.{Key}
use Rattle.kb_world.specs.declared.job.Spot.{Spot}

-- a name that is absent wants every text
abbrev pub is_wanted : Option (List ℕ) → List ℕ → Bool
is_wanted None text = true
is_wanted (Some name) text = bytes_eq name text

abbrev pub is_empty : {X : Type 0} → List X → Bool
is_empty [] = true
is_empty (x ∷ xs) = false

-- an empty list wants every text
abbrev pub is_among_texts : List (List ℕ) → List ℕ → Bool
is_among_texts names text = is_empty names || list_any (λ name. bytes_eq name text) names

abbrev pub wants_key : Filter → Key → Bool
wants_key filter key = is_wanted filter.module key.module && is_wanted filter.version key.version

abbrev pub wants_spot : Filter → Spot → Bool
wants_spot filter spot = is_among_texts filter.kernels spot.kernel && is_among_texts filter.arches spot.arch

-- no kernel and no architecture is named
abbrev pub wants_all_spots : Filter → Bool
wants_all_spots filter = is_empty filter.kernels && is_empty filter.arches
