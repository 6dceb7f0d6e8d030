-- What a path below the dkms root is for, and its path, tell one another.
use Rattle.std.proofs.Common.{◌≡◌, ℕ, ◌<◌, ◌≤◌, Bool, true, false, cond, ◌&&◌, not, List, [], ◌∷◌, ◌++◌, length, drop, get_or, Option, Some, None, codes, refl, sym, ap, ◌∙◌, subst, arith}
use Rattle.std.specs.Prelude.{bytes_eq, Result, Ok, Err, IfOk, IfSome}
use Rattle.std.specs.Option.{option_map}
use Rattle.std.specs.Cmp.{first_so, second_so}
use Rattle.std.specs.Cmp.Derive.{both_true}
use Rattle.std.specs.Cmp.Lexicographic.{bytes_decides}
use Rattle.kb_world.specs.Names.{is_word, is_version, is_kernel, is_arch}
use Rattle.kb_world.specs.Path.{Path, is_under}
use Rattle.kb_world.specs.StorePath.{key_of, spot_of, is_key, is_spot, kernel_link_name, spot_if, spot_of_link, is_targets, names_of, is_ruled, box_path, box_entry, version_entry, original_entry, module_entry, link_entry, told_by, store_path, path_of, is_in_scratch}
use Rattle.kb_world.specs.declared.roots.Roots.{Roots}
use Rattle.kb_world.specs.declared.job.Key.{Key}
use Rattle.kb_world.specs.declared.job.Spot.{Spot}
use Rattle.kb_world.specs.declared.store_path.StorePath.{StorePath}
use Rattle.kb_world.specs.declared.store_path.StorePath.TheVariants.{SourceLink, InScratch, Targets, InBox, KernelLink, InChest}
use Rattle.kb_world.proofs.PathLaws.{under-append, drop-front, under-split}
use Rattle.kb_world.proofs.SpotLaws.{link_read, link_named, link_spotted, kernel_no_build, not_true}

-- ---- what a test that holds tells

-- a value behind a test
pub open_some : {A : Type 0} (test : Bool) (o : Option A) (x : A) → cond test o None ≡ Some x → (test ≡ true) × (o ≡ Some x)
open_some true o x h = (refl, h)
open_some false o x h = let impossible : None ≡ Some x = h in absurd (cc)

pub mapped_from : {A B : Type 0} (f : A → B) (o : Option A) (y : B) → option_map f o ≡ Some y → (x : A) × (o ≡ Some x) × (f x ≡ y)
mapped_from f None y h = let impossible : None ≡ Some y = h in absurd (cc)
mapped_from f (Some x) y h = (x, refl, cc)

-- ---- a path that is for something is the path of that

pub record IsTold (place : StorePath) (names : Path) : Type 0 where
  pub ruled : is_ruled place ≡ true
  pub named : names_of place ≡ names

is_told : (made place : StorePath) (names : Path) → Some made ≡ Some place → is_ruled made ≡ true → names_of made ≡ names → IsTold place names
is_told made place names e ruled named =
    let is : made ≡ place = cc in
    subst (λ p. IsTold p names) is (record { ruled = ruled; named = named })

pub spot_kept : (kernel arch : List ℕ) (spot : Spot) → spot_if (kernel, arch) ≡ Some spot → (is_spot spot ≡ true) × (spot_of kernel arch ≡ spot)
spot_kept kernel arch spot e =
    let kept = open_some (is_kernel kernel && is_arch arch) (Some (spot_of kernel arch)) spot e in
    let some : Some (spot_of kernel arch) ≡ Some spot = kept.1 in
    let is : spot_of kernel arch ≡ spot = cc in
    (ap is_spot (sym is) ∙ kept.0, is)

targets_are : (rest : Path) → is_targets rest ≡ true → rest ≡ codes "targets" ∷ []
targets_are [] h = let impossible : true ≡ false = sym h in absurd (cc)
targets_are (name ∷ []) h = ap (λ n. n ∷ []) ((bytes_decides name (codes "targets")).0 h)
targets_are (name ∷ next ∷ rest) h = let impossible : true ≡ false = sym h in absurd (cc)

box_told : (key : Key) (spot : Spot) (rest : Path) → is_key key ≡ true → is_spot spot ≡ true
    → IsTold (box_path key rest spot) (key.module ∷ key.version ∷ spot.kernel ∷ spot.arch ∷ rest)
box_told key spot rest keyed spotted = by (is_targets rest) refl
  where
    by : (b : Bool) → is_targets rest ≡ b → IsTold (cond b (Targets key spot) (InBox key spot rest)) (key.module ∷ key.version ∷ spot.kernel ∷ spot.arch ∷ rest)
    by true e = record { ruled = both_true keyed spotted; named = ap (λ r. key.module ∷ key.version ∷ spot.kernel ∷ spot.arch ∷ r) (sym (targets_are rest e)) }
    by false e = record { ruled = both_true (both_true keyed spotted) (ap not e); named = refl }

box_entry_told : (key : Key) (name : List ℕ) (rest : Path) (place : StorePath) → is_key key ≡ true → box_entry key name rest ≡ Some place → IsTold place (key.module ∷ key.version ∷ name ∷ rest)
box_entry_told key name [] place keyed e =
    let source = open_some (bytes_eq name (codes "source")) (Some (SourceLink key)) place e in
    is_told (SourceLink key) place _ source.1 keyed (ap (λ n. key.module ∷ key.version ∷ n ∷ []) (sym ((bytes_decides name (codes "source")).0 source.0)))
box_entry_told key name (next ∷ rest) place keyed e =
    let found = mapped_from (box_path key rest) (spot_if (name, next)) place e in
    let kept = spot_kept name next found.0 found.1 in
    let told = box_told key found.0 rest keyed kept.0 in
    is_told (box_path key rest found.0) place _ (ap Some found.2) told.ruled (told.named ∙ ap (λ (s : Spot). key.module ∷ key.version ∷ s.kernel ∷ s.arch ∷ rest) (sym kept.1))

version_told : (key : Key) (name : List ℕ) (rest : Path) (place : StorePath) → is_key key ≡ true → version_entry key name rest ≡ Some place → IsTold place (key.module ∷ key.version ∷ name ∷ rest)
version_told key name rest place keyed e = by (bytes_eq name (codes "build")) refl
  where
    by : (b : Bool) → bytes_eq name (codes "build") ≡ b → IsTold place (key.module ∷ key.version ∷ name ∷ rest)
    by true h =
        is_told (InScratch key rest) place _ (sym (ap (λ b. cond b (Some (InScratch key rest)) (box_entry key name rest)) h) ∙ e) keyed
        (ap (λ n. key.module ∷ key.version ∷ n ∷ rest) (sym ((bytes_decides name (codes "build")).0 h)))
    by false h = box_entry_told key name rest place keyed (sym (ap (λ b. cond b (Some (InScratch key rest)) (box_entry key name rest)) h) ∙ e)

original_told : (word name : List ℕ) (rest : Path) (place : StorePath) → is_word word ≡ true → original_entry word name rest ≡ Some place → IsTold place (word ∷ codes "original_module" ∷ name ∷ rest)
original_told word name [] place worded e = let impossible : None ≡ Some place = e in absurd (cc)
original_told word name (next ∷ rest) place worded e =
    let found = mapped_from (λ spot. InChest word spot rest) (spot_if (name, next)) place e in
    let kept = spot_kept name next found.0 found.1 in
    is_told (InChest word found.0 rest) place _ (ap Some found.2) (both_true worded kept.0) (ap (λ (s : Spot). word ∷ codes "original_module" ∷ s.kernel ∷ s.arch ∷ rest) (sym kept.1))

module_told : (word directory name : List ℕ) (rest : Path) (place : StorePath) → is_word word ≡ true → module_entry word directory name rest ≡ Some place → IsTold place (word ∷ directory ∷ name ∷ rest)
module_told word directory name rest place worded e = by (is_version directory) refl
  where
    originals : Option StorePath
    originals = cond (bytes_eq directory (codes "original_module")) (original_entry word name rest) None

    by : (b : Bool) → is_version directory ≡ b → IsTold place (word ∷ directory ∷ name ∷ rest)
    by true h = version_told (key_of word directory) name rest place (both_true worded h) (sym (ap (λ b. cond b (version_entry (key_of word directory) name rest) originals) h) ∙ e)
    by false h =
        let kept = open_some (bytes_eq directory (codes "original_module")) (original_entry word name rest) place (sym (ap (λ b. cond b (version_entry (key_of word directory) name rest) originals) h) ∙ e) in
        let told = original_told word name rest place worded kept.1 in
        record { ruled = told.ruled; named = told.named ∙ ap (λ d. word ∷ d ∷ name ∷ rest) (sym ((bytes_decides directory (codes "original_module")).0 kept.0)) }

pub told_back : (names : Path) (place : StorePath) → told_by names ≡ Some place → IsTold place names
told_back [] place e = let impossible : None ≡ Some place = e in absurd (cc)
told_back (word ∷ []) place e = let impossible : None ≡ Some place = e in absurd (cc)
told_back (word ∷ name ∷ []) place e =
    let worded = open_some (is_word word) (link_entry word name) place e in
    let found = mapped_from (KernelLink word) (spot_of_link name) place worded.1 in
    is_told (KernelLink word found.0) place _ (ap Some found.2) (both_true worded.0 (link_spotted name found.0 found.1)) (ap (λ n. word ∷ n ∷ []) (sym (link_named name found.0 found.1)))
told_back (word ∷ directory ∷ name ∷ rest) place e =
    let worded = open_some (is_word word) (module_entry word directory name rest) place e in
    module_told word directory name rest place worded.0 worded.1

-- ---- and the path of that is for it

pub told_there : (place : StorePath) → is_ruled place ≡ true → told_by (names_of place) ≡ Some place
told_there (SourceLink key) h =
    let worded = first_so (is_word key.module) (is_version key.version) h in
    let versioned = second_so (is_word key.module) (is_version key.version) h in
    rw (worded, versioned) refl
told_there (InScratch key rest) h =
    let worded = first_so (is_word key.module) (is_version key.version) h in
    let versioned = second_so (is_word key.module) (is_version key.version) h in
    rw (worded, versioned) refl
told_there (Targets key spot) h =
    let keyed = first_so (is_key key) (is_spot spot) h in
    let worded = first_so (is_word key.module) (is_version key.version) keyed in
    let versioned = second_so (is_word key.module) (is_version key.version) keyed in
    let spotted = second_so (is_key key) (is_spot spot) h in
    let no_build = kernel_no_build spot.kernel (first_so (is_kernel spot.kernel) (is_arch spot.arch) spotted) in
    rw (worded, versioned, spotted, no_build) refl
told_there (InBox key spot rest) h =
    let front = first_so (is_key key && is_spot spot) (not (is_targets rest)) h in
    let other = not_true (is_targets rest) (second_so (is_key key && is_spot spot) (not (is_targets rest)) h) in
    let keyed = first_so (is_key key) (is_spot spot) front in
    let worded = first_so (is_word key.module) (is_version key.version) keyed in
    let versioned = second_so (is_word key.module) (is_version key.version) keyed in
    let spotted = second_so (is_key key) (is_spot spot) front in
    let no_build = kernel_no_build spot.kernel (first_so (is_kernel spot.kernel) (is_arch spot.arch) spotted) in
    rw (worded, versioned, spotted, no_build, other) refl
told_there (KernelLink word spot) h =
    let worded = first_so (is_word word) (is_spot spot) h in
    let spotted = second_so (is_word word) (is_spot spot) h in
    let read = link_read spot.kernel spot.arch (first_so (is_kernel spot.kernel) (is_arch spot.arch) spotted) (second_so (is_kernel spot.kernel) (is_arch spot.arch) spotted) in
    ap (λ b. cond b (link_entry word (kernel_link_name spot)) None) worded ∙ ap (option_map (KernelLink word)) read
told_there (InChest word spot rest) h =
    let worded = first_so (is_word word) (is_spot spot) h in
    let spotted = second_so (is_word word) (is_spot spot) h in
    rw (worded, spotted) refl

-- ---- the same of whole paths

pub place_below : (roots : Roots) (names : Path) → store_path roots (roots.dkms ++ names) ≡ told_by names
place_below roots names = ap (λ b. cond b (told_by (drop (length roots.dkms) (roots.dkms ++ names))) None) (under-append roots.dkms names) ∙ ap told_by (drop-front roots.dkms names)

pub place_there : (roots : Roots) (place : StorePath) → is_ruled place ≡ true → store_path roots (path_of roots place) ≡ Some place
place_there roots place ruled = place_below roots (names_of place) ∙ told_there place ruled

pub record IsPathOf (roots : Roots) (place : StorePath) (path : Path) : Type 0 where
  pub ruled : is_ruled place ≡ true
  pub is : path ≡ path_of roots place

pub place_back : (roots : Roots) (path : Path) (place : StorePath) → store_path roots path ≡ Some place → IsPathOf roots place path
place_back roots path place e =
    let under = open_some (is_under path roots.dkms) (told_by (drop (length roots.dkms) path)) place e in
    let told = told_back (drop (length roots.dkms) path) place under.1 in
    record { ruled = told.ruled; is = under-split path roots.dkms under.0 ∙ ap (λ n. roots.dkms ++ n) (sym told.named) }

-- the law of the map
pub told_both : (roots : Roots) (path : Path) (place : StorePath) → store_path roots path ≡ Some place → (is_ruled place ≡ true) × (path_of roots place ≡ path)
told_both roots path place e = let is = place_back roots path place e in (is.ruled, sym is.is)

-- what is read of names keeps its rules
pub told_ruled : {E : Type 0} (result : Result (Option StorePath) E) (names : Path) → IfOk result (λ told. told ≡ told_by names) → IfOk result (λ told. IfSome told (λ place. is_ruled place ≡ true))
told_ruled (Ok (Some place)) names is = (told_back names place (sym is)).ruled
told_ruled (Ok None) names is = tt
told_ruled (Err error) names is = tt

-- ---- which names are those of a scratch tree

pub scratch_by : (word directory name : List ℕ) (rest : Path) → is_in_scratch (told_by (word ∷ directory ∷ name ∷ rest)) ≡ (is_word word && is_version directory && bytes_eq name (codes "build"))
scratch_by word directory name rest = by (is_word word) (is_version directory) refl
  where
    no_box : (made : Option Spot) (rest : Path) → is_in_scratch (option_map (box_path (key_of word directory) rest) made) ≡ false
    no_box None rest = refl
    no_box (Some spot) rest = at (is_targets rest)
      where
        at : (b : Bool) → is_in_scratch (Some (cond b (Targets (key_of word directory) spot) (InBox (key_of word directory) spot rest))) ≡ false
        at true = refl
        at false = refl

    no_chest : (made : Option Spot) (rest : Path) → is_in_scratch (option_map (λ spot. InChest word spot rest) made) ≡ false
    no_chest None rest = refl
    no_chest (Some spot) rest = refl

    no_source : (b : Bool) → is_in_scratch (cond b (Some (SourceLink (key_of word directory))) None) ≡ false
    no_source true = refl
    no_source false = refl

    in_box : (rest : Path) → is_in_scratch (box_entry (key_of word directory) name rest) ≡ false
    in_box [] = no_source (bytes_eq name (codes "source"))
    in_box (next ∷ rest) = no_box (spot_if (name, next)) rest

    in_originals : (rest : Path) → is_in_scratch (original_entry word name rest) ≡ false
    in_originals [] = refl
    in_originals (next ∷ rest) = no_chest (spot_if (name, next)) rest

    originals : (b : Bool) → is_in_scratch (cond b (original_entry word name rest) None) ≡ false
    originals true = in_originals rest
    originals false = refl

    version : (b : Bool) → is_in_scratch (cond b (Some (InScratch (key_of word directory) rest)) (box_entry (key_of word directory) name rest)) ≡ b
    version true = refl
    version false = in_box rest

    by : (a b : Bool) → is_version directory ≡ b → is_in_scratch (cond a (cond b (version_entry (key_of word directory) name rest) (cond (bytes_eq directory (codes "original_module")) (original_entry word name rest) None)) None) ≡ (a && b && bytes_eq name (codes "build"))
    by false b e = refl
    by true false e = originals (bytes_eq directory (codes "original_module"))
    by true true e = version (bytes_eq name (codes "build"))

pub link_no_scratch : (word name : List ℕ) → is_in_scratch (told_by (word ∷ name ∷ [])) ≡ false
link_no_scratch word name = by (is_word word) (spot_of_link name)
  where
    by : (b : Bool) (made : Option Spot) → is_in_scratch (cond b (option_map (KernelLink word) made) None) ≡ false
    by false made = refl
    by true None = refl
    by true (Some spot) = refl

-- by the first three names
pub scratch_at : (names : Path) (a b c : List ℕ) → a ≡ get_or names 0 a → b ≡ get_or names 1 b → c ≡ get_or names 2 c → 3 ≤ length names
    → (is_word a && is_version b && bytes_eq c (codes "build")) ≡ is_in_scratch (told_by names)
scratch_at [] a b c x y z h = absurd (omega arith)
scratch_at (word ∷ []) a b c x y z h = absurd (omega arith)
scratch_at (word ∷ directory ∷ []) a b c x y z h = absurd (omega arith)
scratch_at (word ∷ directory ∷ name ∷ rest) a b c x y z h = (λ i. is_word (x i) && is_version (y i) && bytes_eq (z i) (codes "build")) ∙ sym (scratch_by word directory name rest)

pub short_no_scratch : (names : Path) → length names < 3 → is_in_scratch (told_by names) ≡ false
short_no_scratch [] h = refl
short_no_scratch (word ∷ []) h = refl
short_no_scratch (word ∷ name ∷ []) h = link_no_scratch word name
short_no_scratch (word ∷ directory ∷ name ∷ rest) h = absurd (omega arith)
