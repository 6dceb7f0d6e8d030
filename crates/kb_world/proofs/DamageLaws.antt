-- A store has no damaged path exactly where each of its links and builds is sound.
use Rattle.std.proofs.Common.{◌≡◌, ℕ, Bool, true, false, cond, ◌&&◌, ◌||◌, not, List, [], ◌∷◌, ◌++◌, map, Option, Some, None, is_some, refl, sym, ap, ◌∙◌}
use Rattle.std.specs.Prelude.{filter, flat_map}
use Rattle.std.specs.List.{list_all, list_any}
use Rattle.std.specs.FinMap.{keys, contains_key-keys}
use Rattle.std.specs.Cmp.{first_so, second_so}
use Rattle.std.specs.Cmp.Derive.{both_true}
use Rattle.kb_world.specs.Names.{is_word, is_kernel, is_arch}
use Rattle.kb_world.specs.Path.{Path}
use Rattle.kb_world.specs.StorePath.{is_ruled, store_path, path_of}
use Rattle.kb_world.specs.Tree.{Tree, node_at, is_file}
use Rattle.kb_world.specs.TreeLaws.{same_path, same_path-true, same_path-refl}
use Rattle.kb_world.specs.Store.{is_key, is_added, link_path}
use Rattle.kb_world.specs.Boxes.{is_spot, targets_path, module_file, places_at, has_files, kernel_link_name, kernel_link_path, spot_of_link, linked_at, key_of}
use Rattle.kb_world.specs.Damage.{unless_sound, files_harm, box_harm, harm_by, harm_of, harm_at, least, harms, hurt}
use Rattle.kb_world.specs.declared.roots.Roots.{Roots}
use Rattle.kb_world.specs.declared.job.Key.{Key}
use Rattle.kb_world.specs.declared.job.Spot.{Spot}
use Rattle.kb_world.specs.declared.store_path.StorePath.{StorePath}
use Rattle.kb_world.specs.declared.store_path.StorePath.TheVariants.{SourceLink, InScratch, Targets, InBox, KernelLink, InChest}
use Rattle.kb_world.proofs.SpotLaws.{link_read, link_named, link_spotted}
use Rattle.kb_world.proofs.StorePathLaws.{place_there, place_back}
pub use Rattle.kb_world.specs.StorePath.{spot_of}
pub use Rattle.kb_world.proofs.PathLaws.{under-split}

-- what stands at a build's `targets` is one, with its files, below a version that has a link
pub record IsSoundBox (roots : Roots) (store : Tree) (key : Key) (spot : Spot) : Type 0 where
  pub stands : is_some (node_at store (link_path roots key)) ≡ true
  pub places : List Path
  pub told : places_at roots store key spot ≡ Some places
  pub files : has_files roots store key spot places ≡ true

abbrev pub AreSourcesSound : Roots → Tree → Type 0
AreSourcesSound roots store = (word version : List ℕ) → is_key (key_of word version) ≡ true → is_some (node_at store (link_path roots (key_of word version))) ≡ true → is_added roots (key_of word version) store ≡ true

abbrev pub AreBoxesSound : Roots → Tree → Type 0
AreBoxesSound roots store = (word version kernel arch : List ℕ) → is_key (key_of word version) ≡ true → is_spot (spot_of kernel arch) ≡ true
    → is_some (node_at store (targets_path roots (key_of word version) (spot_of kernel arch))) ≡ true → IsSoundBox roots store (key_of word version) (spot_of kernel arch)

abbrev pub AreLinksSound : Roots → Tree → Type 0
AreLinksSound roots store = (word name : List ℕ) (spot : Spot) → is_word word ≡ true → spot_of_link name ≡ Some spot
    → is_some (node_at store (roots.dkms ++ word ∷ name ∷ [])) ≡ true → is_some (linked_at roots store (roots.dkms ++ word ∷ name ∷ []) word spot) ≡ true

pub record IsSound (roots : Roots) (store : Tree) : Type 0 where
  pub sources : AreSourcesSound roots store
  pub boxes : AreBoxesSound roots store
  pub links : AreLinksSound roots store

-- ---- lists of damaged paths that are empty

sound-of : (sound : Bool) (path : Path) → unless_sound sound path ≡ [] → sound ≡ true
sound-of true path e = refl
sound-of false path e = cc

unless-sound : (sound : Bool) (path : Path) → sound ≡ true → unless_sound sound path ≡ []
unless-sound sound path e = ap (λ b. cond b [] (path ∷ [])) e

front_empty : (a b : List Path) → a ++ b ≡ [] → a ≡ []
front_empty [] b e = refl
front_empty (x ∷ a) b e = cc

back_empty : (a b : List Path) → a ++ b ≡ [] → b ≡ []
back_empty [] b e = e
back_empty (x ∷ a) b e = cc

both_empty : (a b : List Path) → a ≡ [] → b ≡ [] → a ++ b ≡ []
both_empty a b e f = ap (λ x. x ++ b) e ∙ f

passes-all : (test : Path → Bool) (name : Path → Path) (xs : List Path) → filter (λ x. not (test x)) (map name xs) ≡ [] → list_all (λ x. test (name x)) xs ≡ true
passes-all test name [] e = refl
passes-all test name (x ∷ xs) e = by (test (name x)) refl (λ later. passes-all test name xs later)
  where
    by : (b : Bool) → test (name x) ≡ b → (filter (λ x. not (test x)) (map name xs) ≡ [] → list_all (λ x. test (name x)) xs ≡ true) → (test (name x) && list_all (λ x. test (name x)) xs) ≡ true
    by true h rest = both_true h (rest (sym (ap (λ b. cond (not b) (name x ∷ filter (λ x. not (test x)) (map name xs)) (filter (λ x. not (test x)) (map name xs))) h) ∙ e))
    by false h rest =
        let impossible : name x ∷ filter (λ x. not (test x)) (map name xs) ≡ [] = sym (ap (λ b. cond (not b) (name x ∷ filter (λ x. not (test x)) (map name xs)) (filter (λ x. not (test x)) (map name xs))) h) ∙ e in cc

none-fails : (test : Path → Bool) (name : Path → Path) (xs : List Path) → list_all (λ x. test (name x)) xs ≡ true → filter (λ x. not (test x)) (map name xs) ≡ []
none-fails test name [] e = refl
none-fails test name (x ∷ xs) e =
    ap (λ b. cond (not b) (name x ∷ filter (λ x. not (test x)) (map name xs)) (filter (λ x. not (test x)) (map name xs))) (first_so (test (name x)) (list_all (λ x. test (name x)) xs) e)
    ∙ none-fails test name xs (second_so (test (name x)) (list_all (λ x. test (name x)) xs) e)

no-least : (paths : List Path) → least paths ≡ None → paths ≡ []
no-least [] e = refl
no-least (path ∷ paths) e = cc

none_in : (f : Path → List Path) (xs : List Path) (q : Path) → flat_map f xs ≡ [] → list_any (same_path q) xs ≡ true → f q ≡ []
none_in f [] q e h = let impossible : true ≡ false = sym h in cc
none_in f (x ∷ xs) q e h = by (same_path q x) refl (λ later. none_in f xs q (back_empty (f x) (flat_map f xs) e) later)
  where
    by : (b : Bool) → same_path q x ≡ b → (list_any (same_path q) xs ≡ true → f q ≡ []) → f q ≡ []
    by true same rest = ap f (same_path-true q x same) ∙ front_empty (f x) (flat_map f xs) e
    by false apart rest = rest (sym (ap (λ b. b || list_any (same_path q) xs) apart) ∙ h)

all_none : (f : Path → List Path) (xs : List Path) → ((q : Path) → list_any (same_path q) xs ≡ true → f q ≡ []) → flat_map f xs ≡ []
all_none f [] h = refl
all_none f (x ∷ xs) h =
    both_empty (f x) (flat_map f xs) (h x (ap (λ b. b || list_any (same_path x) xs) (same_path-refl x)))
    (all_none f xs (λ q later. h q (or_right (same_path q x) (list_any (same_path q) xs) later)))
  where
    or_right : (a b : Bool) → b ≡ true → (a || b) ≡ true
    or_right true b e = refl
    or_right false b e = e

-- ---- from no damage to sound parts

-- what stands at a path is among the paths
standing : (store : Tree) (q : Path) → is_some (node_at store q) ≡ list_any (same_path q) (keys store)
standing store q = contains_key-keys store q

pub harm-there : (roots : Roots) (store : Tree) (place : StorePath) → is_ruled place ≡ true → harm_at roots store (path_of roots place) ≡ harm_by roots store place
harm-there roots store place ruled = ap (harm_of roots store) (place_there roots place ruled)

harmless : (roots : Roots) (store : Tree) → hurt roots store ≡ None → (place : StorePath) → is_ruled place ≡ true → is_some (node_at store (path_of roots place)) ≡ true → harm_by roots store place ≡ []
unfolding hurt
harmless roots store e place ruled stands =
    sym (harm-there roots store place ruled) ∙ none_in (harm_at roots store) (keys store) (path_of roots place) (no-least (harms roots store) e) (sym (standing store (path_of roots place)) ∙ stands)

files_of : (roots : Roots) (store : Tree) (key : Key) (spot : Spot) (told : Option (List Path)) → places_at roots store key spot ≡ told → files_harm roots store key spot told ≡ [] → is_some (node_at store (link_path roots key)) ≡ true
    → IsSoundBox roots store key spot
files_of roots store key spot None told e stands = absurd (none_empty (targets_path roots key spot) e)
  where
    none_empty : (path : Path) → path ∷ [] ≡ [] → ⊥
    none_empty path e = cc
files_of roots store key spot (Some places) told e stands = record {
  stands = stands;
  places = places;
  told = told;
  files = passes-all (λ file. is_file (node_at store file)) (module_file roots key spot) places e;
}

pub sound_from : (roots : Roots) (store : Tree) → hurt roots store ≡ None → IsSound roots store
sound_from roots store e = record {
  sources = λ word version named stands.
      let key = key_of word version in
      sound-of (is_added roots key store) (link_path roots key) (harmless roots store e (SourceLink key) named stands);
  boxes = λ word version kernel arch named spotted stands.
      let key = key_of word version in
      let spot = spot_of kernel arch in
      let none = harmless roots store e (Targets key spot) (both_true named spotted) stands in
      files_of roots store key spot (places_at roots store key spot) refl (back_empty (unless_sound (is_some (node_at store (link_path roots key))) (link_path roots key)) _ none)
      (sound-of (is_some (node_at store (link_path roots key))) (link_path roots key) (front_empty _ (files_harm roots store key spot (places_at roots store key spot)) none));
  links = λ word name spot named told stands.
      let here : kernel_link_path roots word spot ≡ roots.dkms ++ word ∷ name ∷ [] = ap (λ n. roots.dkms ++ word ∷ n ∷ []) (sym (link_named name spot told)) in
      ap (λ p. is_some (linked_at roots store p word spot)) (sym here)
      ∙ sound-of (is_some (linked_at roots store (kernel_link_path roots word spot) word spot)) (kernel_link_path roots word spot)
      (harmless roots store e (KernelLink word spot) (both_true named (link_spotted name spot told)) (ap (λ p. is_some (node_at store p)) here ∙ stands));
}

-- ---- and back

box_none : (roots : Roots) (store : Tree) (key : Key) (spot : Spot) → IsSoundBox roots store key spot → box_harm roots store key spot ≡ []
box_none roots store key spot b =
    both_empty (unless_sound (is_some (node_at store (link_path roots key))) (link_path roots key)) (files_harm roots store key spot (places_at roots store key spot))
    (unless-sound (is_some (node_at store (link_path roots key))) (link_path roots key) b.stands)
    (ap (files_harm roots store key spot) b.told ∙ none-fails (λ file. is_file (node_at store file)) (module_file roots key spot) b.places b.files)

none_by : (roots : Roots) (store : Tree) → IsSound roots store → (place : StorePath) → is_ruled place ≡ true → is_some (node_at store (path_of roots place)) ≡ true → harm_by roots store place ≡ []
none_by roots store s (SourceLink key) ruled stands = unless-sound (is_added roots key store) (link_path roots key) (s.sources key.module key.version ruled stands)
none_by roots store s (Targets key spot) ruled stands =
    box_none roots store key spot (s.boxes key.module key.version spot.kernel spot.arch (first_so (is_key key) (is_spot spot) ruled) (second_so (is_key key) (is_spot spot) ruled) stands)
none_by roots store s (KernelLink word spot) ruled stands =
    let spotted = second_so (is_word word) (is_spot spot) ruled in
    unless-sound (is_some (linked_at roots store (kernel_link_path roots word spot) word spot)) (kernel_link_path roots word spot)
    (s.links word (kernel_link_name spot) spot (first_so (is_word word) (is_spot spot) ruled)
    (link_read spot.kernel spot.arch (first_so (is_kernel spot.kernel) (is_arch spot.arch) spotted) (second_so (is_kernel spot.kernel) (is_arch spot.arch) spotted)) stands)
none_by roots store s (InScratch key rest) ruled stands = refl
none_by roots store s (InBox key spot rest) ruled stands = refl
none_by roots store s (InChest word spot rest) ruled stands = refl

pub sound_to : (roots : Roots) (store : Tree) → IsSound roots store → hurt roots store ≡ None
unfolding hurt
sound_to roots store s = ap least (all_none (harm_at roots store) (keys store) (λ q here. by q here (store_path roots q) refl))
  where
    by : (q : Path) → list_any (same_path q) (keys store) ≡ true → (told : Option StorePath) → store_path roots q ≡ told → harm_at roots store q ≡ []
    by q here None e = ap (harm_of roots store) e
    by q here (Some place) e =
        let is = place_back roots q place e in
        ap (harm_of roots store) e ∙ none_by roots store s place is.ruled (ap (λ p. is_some (node_at store p)) (sym is.is) ∙ standing store q ∙ here)
