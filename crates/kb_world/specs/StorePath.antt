-- What the paths below the dkms root are for. After the tool dkms, and this project's own.
use Rattle.std.specs.Prelude.{ℕ, Bool, true, false, ◌&&◌, not, cond, List, [], ◌∷◌, ◌++◌, length, drop, nat_eq, Option, Some, None, codes, bytes_eq, option_and_then}
use Rattle.std.specs.List.{starts_with}
use Rattle.std.specs.Option.{option_map}
use Rattle.std.specs.Str.{byte}
use Rattle.kb_world.specs.Names.{is_word, is_version, is_kernel, is_arch}
use Rattle.kb_world.specs.Path.{Path, is_under}
use Rattle.kb_world.specs.declared.roots.Roots.{Roots}
use Rattle.kb_world.specs.declared.job.Key.{Key}
use Rattle.kb_world.specs.declared.job.Spot.{Spot}
use Rattle.kb_world.specs.declared.store_path.StorePath.{StorePath}
use Rattle.kb_world.specs.declared.store_path.StorePath.TheVariants.{SourceLink, InScratch, Targets, InBox, KernelLink, InChest}

-- ---- packages and spots

abbrev pub key_of : List ℕ → List ℕ → Key
key_of word version = record { «module» = word; version = version }

abbrev pub spot_of : List ℕ → List ℕ → Spot
spot_of kernel arch = record { kernel = kernel; arch = arch }

-- a module and a version that keep their rules
abbrev pub is_key : Key → Bool
is_key key = is_word key.module && is_version key.version

-- a kernel and an architecture that keep their rules
abbrev pub is_spot : Spot → Bool
is_spot spot = is_kernel spot.kernel && is_arch spot.arch

-- `kernel-K-A`
abbrev pub kernel_link_name : Spot → List ℕ
kernel_link_name spot = codes "kernel-" ++ spot.kernel ++ codes "-" ++ spot.arch

-- a byte before what is cut at its last dash, or cut there itself
abbrev pub cut_with : ℕ → List ℕ → Option (List ℕ × List ℕ) → Option (List ℕ × List ℕ)
cut_with c rest (Some cut) = Some (c ∷ cut.0, cut.1)
cut_with c rest None = cond (nat_eq c (byte "-")) (Some ([], rest)) None

-- what stands before and after the last dash
abbrev pub cut_at_dash : List ℕ → Option (List ℕ × List ℕ)
cut_at_dash [] = None
cut_at_dash (c ∷ rest) = cut_with c rest (cut_at_dash rest)

-- the kernel and the architecture that the cut gives, where they keep their rules
abbrev pub spot_if : List ℕ × List ℕ → Option Spot
spot_if cut = cond (is_kernel cut.0 && is_arch cut.1) (Some (spot_of cut.0 cut.1)) None

-- the spot whose link would have this name
abbrev pub spot_of_link : List ℕ → Option Spot
spot_of_link name = cond (starts_with nat_eq name (codes "kernel-")) (option_and_then spot_if (cut_at_dash (drop 7 name))) None

-- ---- the map: what a path is for, and the names of its path below the dkms root

-- the file `targets`, by the names below a box
abbrev pub is_targets : Path → Bool
is_targets [] = false
is_targets (name ∷ []) = bytes_eq name (codes "targets")
is_targets (name ∷ next ∷ rest) = false

-- M/V/source; M/V/build and below; M/V/K/A/targets; M/V/K/A and below but for that; M/kernel-K-A; M/original_module/K/A
-- and below
abbrev pub names_of : StorePath → Path
names_of (SourceLink key) = key.module ∷ key.version ∷ codes "source" ∷ []
names_of (InScratch key rest) = key.module ∷ key.version ∷ codes "build" ∷ rest
names_of (Targets key spot) = key.module ∷ key.version ∷ spot.kernel ∷ spot.arch ∷ codes "targets" ∷ []
names_of (InBox key spot rest) = key.module ∷ key.version ∷ spot.kernel ∷ spot.arch ∷ rest
names_of (KernelLink word spot) = word ∷ kernel_link_name spot ∷ []
names_of (InChest word spot rest) = word ∷ codes "original_module" ∷ spot.kernel ∷ spot.arch ∷ rest

-- modules, versions, kernels and architectures keep their rules, and what is in a box beside `targets` isn't that
abbrev pub is_ruled : StorePath → Bool
is_ruled (SourceLink key) = is_key key
is_ruled (InScratch key rest) = is_key key
is_ruled (Targets key spot) = is_key key && is_spot spot
is_ruled (InBox key spot rest) = is_key key && is_spot spot && not (is_targets rest)
is_ruled (KernelLink word spot) = is_word word && is_spot spot
is_ruled (InChest word spot rest) = is_word word && is_spot spot

-- a box, and names below it
abbrev pub box_path : Key → Path → Spot → StorePath
box_path key rest spot = cond (is_targets rest) (Targets key spot) (InBox key spot rest)

-- what stands directly in a version, or below an entry of it that is named as a kernel
abbrev pub box_entry : Key → List ℕ → Path → Option StorePath
box_entry key name [] = cond (bytes_eq name (codes "source")) (Some (SourceLink key)) None
box_entry key name (next ∷ rest) = option_map (box_path key rest) (spot_if (name, next))

-- an entry of a version, and the names behind it
abbrev pub version_entry : Key → List ℕ → Path → Option StorePath
version_entry key name rest = cond (bytes_eq name (codes "build")) (Some (InScratch key rest)) (box_entry key name rest)

-- an entry of a module's kept files, and the names behind it
abbrev pub original_entry : List ℕ → List ℕ → Path → Option StorePath
original_entry word name [] = None
original_entry word name (next ∷ rest) = option_map (λ spot. InChest word spot rest) (spot_if (name, next))

-- a directory of a module, an entry of it, and the names behind that
abbrev pub module_entry : List ℕ → List ℕ → List ℕ → Path → Option StorePath
module_entry word directory name rest =
    cond (is_version directory) (version_entry (key_of word directory) name rest) (cond (bytes_eq directory (codes "original_module")) (original_entry word name rest) None)

-- an entry of a module that stands beside its versions
abbrev pub link_entry : List ℕ → List ℕ → Option StorePath
link_entry word name = option_map (KernelLink word) (spot_of_link name)

-- what the path with these names below the dkms root is for
abbrev pub told_by : Path → Option StorePath
told_by [] = None
told_by (word ∷ []) = None
told_by (word ∷ name ∷ []) = cond (is_word word) (link_entry word name) None
told_by (word ∷ directory ∷ name ∷ rest) = cond (is_word word) (module_entry word directory name rest) None

-- what a path is for, where it is below the dkms root
abbrev pub store_path : Roots → Path → Option StorePath
store_path roots path = cond (is_under path roots.dkms) (told_by (drop (length roots.dkms) path)) None

abbrev pub path_of : Roots → StorePath → Path
path_of roots place = roots.dkms ++ names_of place

-- what a scratch tree has is the tool's own
abbrev pub is_in_scratch : Option StorePath → Bool
is_in_scratch (Some (InScratch key rest)) = true
is_in_scratch other = false
