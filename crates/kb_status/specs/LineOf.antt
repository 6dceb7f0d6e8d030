-- Which lines a status has, as a relation. After `dkms status` of the tool dkms.
use Rattle.std.specs.Prelude.{◌≡◌, ◌⊎◌, ◌↔◌, ℕ, false, List, [], Option, Some, None, IfSome}
use Rattle.std.specs.List.{Contains}
use Rattle.kb_world.specs.Path.{Path}
use Rattle.kb_world.specs.declared.job.Filter.{Filter}
use Rattle.kb_world.specs.declared.job.Key.{Key}
use Rattle.kb_store.specs.Accessors.{added_in, builds_in, installed_in, kept_in}
use Rattle.kb_store.specs.declared.store.Build.{Build}
use Rattle.kb_store.specs.declared.store.Store.{Store}
use Rattle.kb_status.specs.declared.line.Line.{Line}
use Rattle.kb_status.specs.declared.line.State.{State}
use Rattle.kb_status.specs.declared.line.State.TheVariants.{Added, Built, Installed}

-- a module or a version that the filter names is this one
pub record WantsKey (filter : Filter) (key : Key) : Type 0 where
  pub word : IfSome filter.module (λ name. name ≡ key.module)
  pub version : IfSome filter.version (λ name. name ≡ key.version)

-- the list is empty, or has the text
abbrev pub IsAmong : List (List ℕ) → List ℕ → Type 0
IsAmong names text = (names ≡ []) ⊎ Contains names text

-- added, no build is of it, and the filter names no kernel and no architecture
pub record IsAddedLine (store : Store) (filter : Filter) (line : Line) : Type 0 where
  pub added : Contains (added_in store) line.key
  pub unbuilt : (build : Build) → Contains (builds_in store) build → build.key ≡ line.key → ⊥
  pub wanted : WantsKey filter line.key
  pub kernels : filter.kernels ≡ []
  pub arches : filter.arches ≡ []
  pub spot : line.spot ≡ None
  pub state : line.state ≡ Added

-- the state of a build, by what is installed of its module for its spot and which files are kept
abbrev pub IsStateBy : Option (List ℕ) → List ℕ → List Path → State → Type 0
IsStateBy installed version files Added = ⊥
IsStateBy installed version files Built = installed ≡ Some version → ⊥
IsStateBy installed version files (Installed kept) = (installed ≡ Some version) × ((kept ≡ false) ↔ (files ≡ []))

abbrev pub IsStateOf : Store → Build → State → Type 0
IsStateOf store build = IsStateBy (installed_in store build.key.module build.spot) build.key.version (kept_in store build.key.module build.spot)

-- that of a build
pub record IsBuildLine (store : Store) (filter : Filter) (line : Line) : Type 0 where
  pub build : Build
  pub built : Contains (builds_in store) build
  pub wanted : WantsKey filter build.key
  pub kernel : IsAmong filter.kernels build.spot.kernel
  pub arch : IsAmong filter.arches build.spot.arch
  pub key : line.key ≡ build.key
  pub spot : line.spot ≡ Some build.spot
  pub state : IsStateOf store build line.state

abbrev pub IsLineOf : Store → Filter → Line → Type 0
IsLineOf store filter line = IsAddedLine store filter line ⊎ IsBuildLine store filter line
