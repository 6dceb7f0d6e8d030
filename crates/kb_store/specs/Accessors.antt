-- What is asked of a store. This project's own.
use Rattle.std.specs.Prelude.{ℕ, Bool, ◌&&◌, not, cond, List, [], map, filter, flat_map, Option, unwrap_or, bytes_eq}
use Rattle.std.specs.Option.{option_map}
use Rattle.std.specs.List.{find, list_all}
use Rattle.std.specs.Ordering.{is_lt, ordering_then, nat_cmp}
use Rattle.std.specs.Cmp.Lexicographic.{slice_cmp}
use Rattle.std.specs.declared.cmp.Ordering.{Ordering}
use Rattle.kb_world.specs.Path.{Path, path_cmp}
use Rattle.kb_world.specs.Store.{same_key, says}
use Rattle.kb_world.specs.Targets.{last_name}
use Rattle.kb_world.specs.declared.job.Key.{Key}
use Rattle.kb_world.specs.declared.job.Spot.{Spot}
use Rattle.kb_store.specs.declared.store.Build.{Build}
use Rattle.kb_store.specs.declared.store.Installation.{Installation}
use Rattle.kb_store.specs.declared.store.Chest.{Chest}
use Rattle.kb_store.specs.declared.store.Claim.{Claim}
use Rattle.kb_store.specs.declared.store.Store.{Store}

-- the added packages
abbrev pub added_in : Store → List Key
added_in store = store.added

-- the builds
abbrev pub builds_in : Store → List Build
builds_in store = store.builds

-- the same kernel and architecture
abbrev pub same_spot : Spot → Spot → Bool
same_spot a b = bytes_eq a.kernel b.kernel && bytes_eq a.arch b.arch

abbrev pub is_installation : List ℕ → Spot → Installation → Bool
is_installation word spot installation = bytes_eq installation.module word && same_spot installation.spot spot

-- the version of the first installation of a module for a spot
abbrev pub installed_in : Store → List ℕ → Spot → Option (List ℕ)
installed_in store word spot = option_map (λ installation. installation.version) (find (is_installation word spot) store.installed)

abbrev pub is_chest : List ℕ → Spot → Chest → Bool
is_chest word spot chest = bytes_eq chest.module word && same_spot chest.spot spot

-- the files of the first chest of a module for a spot, none where there is no chest
abbrev pub kept_in : Store → List ℕ → Spot → List Path
kept_in store word spot = unwrap_or (option_map (λ chest. chest.files) (find (is_chest word spot) store.chests)) []

-- ---- who claims a file

abbrev pub is_build : Key → Spot → Build → Bool
is_build key spot build = same_key build.key key && same_spot build.spot spot

-- the places with this last name, each with the module
abbrev pub claims_at : List ℕ → List ℕ → List Path → List (Path × List ℕ)
claims_at file word places = map (λ place. (place, word)) (filter (λ place. bytes_eq (last_name place) file) places)

-- a build for the kernel, but not of this module for this architecture
abbrev pub is_other : List ℕ → List ℕ → List ℕ → Build → Bool
is_other kernel word arch build = bytes_eq build.spot.kernel kernel && not (bytes_eq build.key.module word && bytes_eq build.spot.arch arch)

-- the build is that of the version that is installed of its module for its spot
abbrev pub is_installed_build : Store → Build → Bool
is_installed_build store build = says build.key.version (installed_in store build.key.module build.spot)

-- what a build claims
abbrev pub claims_of : Store → List ℕ → List ℕ → List ℕ → List ℕ → Build → List (Path × List ℕ)
claims_of store kernel file word arch build =
    cond (is_other kernel word arch build && is_installed_build store build) (claims_at file build.key.module build.targets) []

-- The claims to a file of a kernel by others than this module for this architecture: for each installed build of such,
-- its places that have the file's name.
abbrev pub claims_in : Store → List ℕ → List ℕ → List ℕ → List ℕ → List (Path × List ℕ)
claims_in store kernel file word arch = flat_map (claims_of store kernel file word arch) store.builds

-- by the order of paths of the places, and two at one place by bytes of the module
abbrev pub claim_cmp : Path × List ℕ → Path × List ℕ → Ordering
claim_cmp a b = ordering_then (path_cmp a.0 b.0) (slice_cmp nat_cmp a.1 b.1)

-- the least claim, which is one that none is less than
abbrev pub least_claim : List (Path × List ℕ) → Option (Path × List ℕ)
least_claim claims = find (λ claim. list_all (λ other. not (is_lt (claim_cmp other claim))) claims) claims

-- the claim that comes first
abbrev pub claimant_in : Store → List ℕ → List ℕ → List ℕ → List ℕ → Option (Path × List ℕ)
claimant_in store kernel file word arch = least_claim (claims_in store kernel file word arch)

-- what a claim tells
abbrev pub told_claim : Claim → Path × List ℕ
told_claim claim = (claim.path.now, claim.module.now)

abbrev pub told : Option Claim → Option (Path × List ℕ)
told claim = option_map told_claim claim
