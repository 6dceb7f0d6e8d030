-- Only the paths below the dkms root that aren't private tell anything of a store, and what is told is alike where it is
-- alike at paths that keep the rules.
use Rattle.std.proofs.Common.{◌≡◌, ℕ, Bool, true, false, cond, not, List, [], ◌∷◌, ◌++◌, Option, Some, None, refl, sym, ap, ◌∙◌}
use Rattle.std.specs.Prelude.{filter, filter_map, flat_map, option_and_then}
use Rattle.std.specs.List.{cons_option}
use Rattle.std.specs.Option.{option_map}
use Rattle.std.specs.FinMap.{keys}
use Rattle.std.specs.Cmp.{first_so, second_so}
use Rattle.kb_world.specs.Names.{is_word}
use Rattle.kb_world.specs.Path.{Path}
use Rattle.kb_world.specs.Roots.{AreApart, is_below}
use Rattle.kb_world.specs.StorePath.{is_key, is_spot, is_ruled, store_path, path_of, is_in_scratch}
use Rattle.kb_world.specs.Tree.{Tree}
use Rattle.kb_world.specs.Public.{is_private, is_loose}
use Rattle.kb_world.specs.Damage.{harm_of, harm_at}
use Rattle.kb_world.specs.declared.roots.Roots.{Roots}
use Rattle.kb_world.specs.declared.job.Key.{Key}
use Rattle.kb_world.specs.declared.job.Spot.{Spot}
use Rattle.kb_world.specs.declared.store_path.StorePath.{StorePath}
use Rattle.kb_world.specs.declared.store_path.StorePath.TheVariants.{SourceLink, InScratch, Targets, InBox, KernelLink, InChest}
use Rattle.kb_world.proofs.PublicPlaces.{public_place}
use Rattle.kb_world.proofs.SpotLaws.{not_true}
use Rattle.kb_world.proofs.StorePathLaws.{place_back}
use Rattle.kb_store.specs.Contents.{at_place, build_of, build_by, installation_of, installation_by, chest_of, chest_by}
use Rattle.kb_store.specs.Read.{store_entries}
use Rattle.kb_walk.specs.Walking.{paths_below}
use Rattle.kb_walk.proofs.OrderLaws.{untrue}
use Rattle.kb_walk.proofs.WalkLaws.{below_more}

-- ---- lists

-- what gives nothing needn't be asked
filter_map-passed : {A : Type 0} (test : Path → Bool) (f : Path → Option A) → ((path : Path) → test path ≡ false → f path ≡ None) → (paths : List Path) → filter_map f paths ≡ filter_map f (filter test paths)
filter_map-passed test f none [] = refl
filter_map-passed {A} test f none (path ∷ paths) = by (test path) refl (filter_map-passed test f none paths)
  where
    by : (b : Bool) → test path ≡ b → filter_map f paths ≡ filter_map f (filter test paths) → cons_option (f path) (filter_map f paths) ≡ filter_map f (cond (test path) (path ∷ filter test paths) (filter test paths))
    by true e later = ap (cons_option (f path)) later ∙ sym (ap (λ b. filter_map f (cond b (path ∷ filter test paths) (filter test paths))) e)
    by false e later = ap (λ o. cons_option o (filter_map f paths)) (none path e) ∙ later ∙ sym (ap (λ b. filter_map f (cond b (path ∷ filter test paths) (filter test paths))) e)

-- the same of what gives lists
flat_map-passed : (test : Path → Bool) (f : Path → List Path) → ((path : Path) → test path ≡ false → f path ≡ []) → (paths : List Path) → flat_map f paths ≡ flat_map f (filter test paths)
flat_map-passed test f none [] = refl
flat_map-passed test f none (path ∷ paths) = by (test path) refl (flat_map-passed test f none paths)
  where
    by : (b : Bool) → test path ≡ b → flat_map f paths ≡ flat_map f (filter test paths) → f path ++ flat_map f paths ≡ flat_map f (cond (test path) (path ∷ filter test paths) (filter test paths))
    by true e later = ap (λ l. f path ++ l) later ∙ sym (ap (λ b. flat_map f (cond b (path ∷ filter test paths) (filter test paths))) e)
    by false e later = ap (λ l. l ++ flat_map f paths) (none path e) ∙ later ∙ sym (ap (λ b. flat_map f (cond b (path ∷ filter test paths) (filter test paths))) e)

-- ---- paths that tell nothing

-- what is for something, and not in a scratch tree, isn't private
pub open_place : (roots : Roots) → AreApart roots → (place : StorePath) → is_ruled place ≡ true → is_in_scratch (Some place) ≡ false → is_private roots (path_of roots place) ≡ false
open_place roots apart place ruled open_to =
    let path = path_of roots place in
    not_true (is_private roots path) (second_so _ (not (is_private roots path)) (first_so _ (not (is_loose roots path None)) (public_place roots apart place ruled open_to None)))

-- what is for something lies below the dkms root
pub below_place : (roots : Roots) (place : StorePath) → is_below (path_of roots place) roots.dkms ≡ true
below_place roots (SourceLink key) = below_more roots.dkms key.module _
below_place roots (InScratch key rest) = below_more roots.dkms key.module _
below_place roots (Targets key spot) = below_more roots.dkms key.module _
below_place roots (InBox key spot rest) = below_more roots.dkms key.module _
below_place roots (KernelLink word spot) = below_more roots.dkms word _
below_place roots (InChest word spot rest) = below_more roots.dkms word _

-- what tells nothing of scratch trees tells nothing of paths that are private or not below the dkms root
module _ (roots : Roots) (apart : AreApart roots) {A : Type 0} (f : Option StorePath → A) (silent : (key : Key) (rest : Path) → f (Some (InScratch key rest)) ≡ f None) where
  silent_private : (path : Path) → not (is_private roots path) ≡ false → f (store_path roots path) ≡ f None
  silent_private path h = by (store_path roots path) refl
    where
      hidden : (place : StorePath) → store_path roots path ≡ Some place → is_in_scratch (Some place) ≡ false → ⊥
      hidden place e open_to =
          let is = place_back roots path place e in
          untrue (sym h ∙ ap (λ p. not (is_private roots p)) is.is ∙ ap not (open_place roots apart place is.ruled open_to))

      by : (told : Option StorePath) → store_path roots path ≡ told → f (store_path roots path) ≡ f None
      by None e = ap f e
      by (Some (InScratch key rest)) e = ap f e ∙ silent key rest
      by (Some place) e = absurd (hidden place e refl)

  silent_beside : (path : Path) → is_below path roots.dkms ≡ false → f (store_path roots path) ≡ f None
  silent_beside path h = by (store_path roots path) refl
    where
      by : (told : Option StorePath) → store_path roots path ≡ told → f (store_path roots path) ≡ f None
      by None e = ap f e
      by (Some place) e = absurd (untrue (sym h ∙ ap (λ p. is_below p roots.dkms) (place_back roots path place e).is ∙ below_place roots place))

-- only the entries of the dkms root are asked
pub told_by_entries : {A : Type 0} (roots : Roots) → AreApart roots → (f : StorePath → Option A) → ((key : Key) (rest : Path) → f (InScratch key rest) ≡ None) → (tree : Tree)
    → filter_map (at_place roots f) (keys tree) ≡ filter_map (at_place roots f) (store_entries roots tree)
told_by_entries roots apart f silent tree =
    filter_map-passed (λ path. is_below path roots.dkms) (at_place roots f) (silent_beside roots apart (option_and_then f) silent) (keys tree)
    ∙ filter_map-passed (λ path. not (is_private roots path)) (at_place roots f) (silent_private roots apart (option_and_then f) silent) (paths_below tree roots.dkms)

-- the same of damaged paths
pub harms_told : (roots : Roots) → AreApart roots → (tree : Tree) → flat_map (harm_at roots tree) (keys tree) ≡ flat_map (harm_at roots tree) (store_entries roots tree)
harms_told roots apart tree =
    flat_map-passed (λ path. is_below path roots.dkms) (harm_at roots tree) (silent_beside roots apart (harm_of roots tree) (λ key rest. refl)) (keys tree)
    ∙ flat_map-passed (λ path. not (is_private roots path)) (harm_at roots tree) (silent_private roots apart (harm_of roots tree) (λ key rest. refl)) (paths_below tree roots.dkms)

-- ---- what is asked alike where names keep their rules, is told alike

-- two steps that go on alike from what is told
pub then_same : {A B : Type 0} (f g : A → Option B) (told : Option A) → ((x : A) → told ≡ Some x → f x ≡ g x) → option_and_then f told ≡ option_and_then g told
then_same f g None same = refl
then_same f g (Some x) same = same x refl

abbrev pub AreAlike : {A : Type 0} → (StorePath → A) → (StorePath → A) → Type 0
AreAlike f g = (place : StorePath) → is_ruled place ≡ true → f place ≡ g place

pub place_same : {A : Type 0} (roots : Roots) (f g : StorePath → Option A) → AreAlike f g → (path : Path) → at_place roots f path ≡ at_place roots g path
place_same roots f g same path = then_same f g (store_path roots path) (λ place e. same place (place_back roots path place e).ruled)

pub build_same : (p q : Key → Spot → Option (List Path)) → ((key : Key) (spot : Spot) → is_key key ≡ true → is_spot spot ≡ true → p key spot ≡ q key spot) → AreAlike (build_by p) (build_by q)
build_same p q same (Targets key spot) ruled = ap (option_map (build_of key spot)) (same key spot (first_so (is_key key) (is_spot spot) ruled) (second_so (is_key key) (is_spot spot) ruled))
build_same p q same other ruled = refl

pub installation_same : (f g : List ℕ → Spot → Option (List ℕ)) → ((word : List ℕ) (spot : Spot) → is_word word ≡ true → is_spot spot ≡ true → f word spot ≡ g word spot) → AreAlike (installation_by f) (installation_by g)
installation_same f g same (KernelLink word spot) ruled = ap (option_map (installation_of word spot)) (same word spot (first_so (is_word word) (is_spot spot) ruled) (second_so (is_word word) (is_spot spot) ruled))
installation_same f g same other ruled = refl

pub chest_same : (f g : List ℕ → Spot → Option (List Path)) → ((word : List ℕ) (spot : Spot) → is_word word ≡ true → is_spot spot ≡ true → f word spot ≡ g word spot) → AreAlike (chest_by f) (chest_by g)
chest_same f g same (InChest word spot []) ruled = ap (option_map (chest_of word spot)) (same word spot (first_so (is_word word) (is_spot spot) ruled) (second_so (is_word word) (is_spot spot) ruled))
chest_same f g same other ruled = refl
