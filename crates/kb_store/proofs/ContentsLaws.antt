-- The lists that a store holds are told part by part by what stands in its tree.
use Rattle.std.proofs.Common.{◌≡◌, ℕ, Bool, true, false, cond, ◌&&◌, List, [], map, Option, Some, None, is_some, codes, refl, sym, ap, ◌∙◌}
use Rattle.std.specs.Prelude.{bytes_eq, filter, filter_map, option_and_then, unwrap_or}
use Rattle.std.specs.List.{find, list_any}
use Rattle.std.specs.Option.{option_map}
use Rattle.std.specs.FinMap.{keys}
use Rattle.std.specs.Cmp.{first_so, second_so}
use Rattle.std.specs.Cmp.Derive.{both_true}
use Rattle.std.specs.Cmp.Lexicographic.{bytes_decides}
use Rattle.kb_world.specs.Names.{is_word, is_version}
use Rattle.kb_world.specs.Path.{Path}
use Rattle.kb_world.specs.Roots.{is_below}
use Rattle.kb_world.specs.StorePath.{store_path, path_of, told_by, names_of}
use Rattle.kb_world.specs.Tree.{Tree, node_at, is_dir, is_file, link_text, file_bytes}
use Rattle.kb_world.specs.Store.{is_key, is_added, added_by, same_key, link_path, source_text, says}
use Rattle.kb_world.specs.Targets.{targets_of}
use Rattle.kb_world.specs.Boxes.{is_spot, boxed, places_at, has_files, is_built, installed, linked_at, version_of, kernel_link_path, targets_path, chest_path, key_of}
use Rattle.kb_world.specs.Steps.{below, kept_files}
use Rattle.kb_world.specs.declared.roots.Roots.{Roots}
use Rattle.kb_world.specs.declared.job.Key.{Key}
use Rattle.kb_world.specs.declared.job.Spot.{Spot}
use Rattle.kb_world.specs.declared.store_path.StorePath.{StorePath}
use Rattle.kb_world.specs.declared.store_path.StorePath.TheVariants.{SourceLink, Targets, KernelLink, InChest}
use Rattle.kb_world.specs.declared.tree.Node.{Node}
use Rattle.kb_world.proofs.StorePathLaws.{place_below}
use Rattle.kb_store.specs.Contents.{at_place, build_of, build_by, installation_of, installation_by, chest_of, chest_by, chest_files, kept_paths, store_of}
use Rattle.kb_walk.specs.Walking.{rises}
use Rattle.kb_store.specs.Accessors.{added_in, builds_in, installed_in, kept_in, is_build, is_installation, is_chest, same_spot}
use Rattle.kb_store.specs.declared.store.Build.{Build}
use Rattle.kb_store.specs.declared.store.Installation.{Installation}
use Rattle.kb_store.specs.declared.store.Chest.{Chest}
use Rattle.kb_store.proofs.EntryLaws.{picked, cond_none, any_found, found_path, found_at, entries_rise, added_tells, build_place, build_tells, installation_place, installation_tells, chest_place, chest_tells}

-- ---- the same keys and spots

own_text : (a : List ℕ) → bytes_eq a a ≡ true
own_text a = (bytes_decides a a).1 refl

pub key_is : (a b : Key) → same_key a b ≡ true → a ≡ b
key_is a b h =
    let modules = (bytes_decides a.module b.module).0 (first_so (bytes_eq a.module b.module) (bytes_eq a.version b.version) h) in
    let versions = (bytes_decides a.version b.version).0 (second_so (bytes_eq a.module b.module) (bytes_eq a.version b.version) h) in
    λ i. key_of (modules i) (versions i)

own_key : (key : Key) → same_key key key ≡ true
own_key key = both_true (own_text key.module) (own_text key.version)

pub spot_is : (a b : Spot) → same_spot a b ≡ true → a ≡ b
spot_is a b h =
    let kernels = (bytes_decides a.kernel b.kernel).0 (first_so (bytes_eq a.kernel b.kernel) (bytes_eq a.arch b.arch) h) in
    let archs = (bytes_decides a.arch b.arch).0 (second_so (bytes_eq a.kernel b.kernel) (bytes_eq a.arch b.arch) h) in
    λ i. record { kernel = kernels i; arch = archs i }

own_spot : (spot : Spot) → same_spot spot spot ≡ true
own_spot spot = both_true (own_text spot.kernel) (own_text spot.arch)

-- what is made passes the test, so it is picked where it is there
all_picked : {X Y : Type 0} (test : Y → Bool) (make : X → Y) (back : Y → X) → ((x : X) → test (make x) ≡ true) → ((x : X) → back (make x) ≡ x) → (o : Option X)
    → option_map back (picked test (option_map make o)) ≡ o
all_picked test make back passes told None = refl
all_picked test make back passes told (Some x) = ap (λ b. option_map back (cond b (Some (make x)) None)) (passes x) ∙ ap Some (told x)

-- the names of a package's link, where they break their rules, are for nothing
unruled_link : (roots : Roots) (key : Key) → is_key key ≡ false → store_path roots (link_path roots key) ≡ None
unruled_link roots key h = place_below roots (names_of (SourceLink key)) ∙ by (is_word key.module) (is_version key.version) refl refl
  where
    no_original : (b : Bool) → let none : Option StorePath = None in cond b none none ≡ none
    no_original true = refl
    no_original false = refl

    by : (a b : Bool) → is_word key.module ≡ a → is_version key.version ≡ b → told_by (names_of (SourceLink key)) ≡ None
    by false b e f = rw e refl
    by true false e f = rw (e, f) (no_original (bytes_eq key.version (codes "original_module")))
    by true true e f = let impossible : true ≡ false = sym (both_true e f) ∙ h in absurd (cc)

module _ (roots : Roots) (tree : Tree) where
  -- ---- added packages

  -- a package is in the list exactly where it keeps its rules and is added
  pub added_is : (key : Key) → list_any (same_key key) (added_in (store_of roots tree)) ≡ (is_key key && is_added roots key tree)
  unfolding store_of
  added_is key = any_found (same_key key) (filter_map (at_place roots (added_by roots tree)) (keys tree)) ∙ ap is_some (by (is_key key) refl) ∙ is_some_cond (is_key key && is_added roots key tree)
    where
      is_some_cond : (b : Bool) → is_some (cond b (Some key) None) ≡ b
      is_some_cond true = refl
      is_some_cond false = refl

      names : (x : Key) → same_key key x ≡ true → SourceLink x ≡ SourceLink key
      names x same = ap SourceLink (sym (key_is key x same))

      own : (added : Bool) → picked (same_key key) (cond added (Some key) None) ≡ cond added (Some key) None
      own true = ap (λ b. cond b (Some key) None) (own_key key)
      own false = refl

      absent : node_at tree (link_path roots key) ≡ None → picked (same_key key) (cond (is_added roots key tree) (Some key) None) ≡ None
      absent e = ap (λ at. picked (same_key key) (cond (says (source_text roots key) (link_text at)) (Some key) None)) e

      by : (named : Bool) → is_key key ≡ named → find (same_key key) (filter_map (at_place roots (added_by roots tree)) (keys tree)) ≡ cond (is_key key && is_added roots key tree) (Some key) None
      by true e =
          found_at roots tree (added_by roots tree) SourceLink (added_tells roots tree) (same_key key) (SourceLink key) e names absent
          ∙ own (is_added roots key tree) ∙ sym (ap (λ b. cond (b && is_added roots key tree) (Some key) None) e)
      by false e =
          found_path roots tree (added_by roots tree) SourceLink (added_tells roots tree) (same_key key) (link_path roots key) (λ x same. ap (path_of roots) (names x same))
          ∙ ap (λ o. cond (is_some (node_at tree (link_path roots key))) (picked (same_key key) (option_and_then (added_by roots tree) o)) None) (unruled_link roots key e)
          ∙ cond_none (is_some (node_at tree (link_path roots key))) ∙ sym (ap (λ b. cond (b && is_added roots key tree) (Some key) None) e)

  -- the packages stand in the order of their links
  pub added_rise : rises (map (link_path roots) (added_in (store_of roots tree))) ≡ true
  unfolding store_of
  added_rise = entries_rise roots tree (added_by roots tree) SourceLink (added_tells roots tree)

  -- ---- builds

  -- the build in the list is the one that is there
  pub builds_are : (key : Key) (spot : Spot) → is_key key ≡ true → is_spot spot ≡ true → option_map (λ build. build.targets) (find (is_build key spot) (builds_in (store_of roots tree))) ≡ boxed roots tree key spot
  unfolding store_of
  builds_are key spot named spotted =
      ap (option_map (λ (build : Build). build.targets))
      (found_at roots tree (build_by (boxed roots tree)) build_place (build_tells (boxed roots tree)) (is_build key spot) (Targets key spot) (both_true named spotted) names absent)
      ∙ all_picked (is_build key spot) (build_of key spot) (λ build. build.targets) (λ places. both_true (own_key key) (own_spot spot)) (λ places. refl) (boxed roots tree key spot)
    where
      names : (x : Build) → is_build key spot x ≡ true → build_place x ≡ Targets key spot
      names x same =
          let keys_are = key_is x.key key (first_so (same_key x.key key) (same_spot x.spot spot) same) in
          let spots_are = spot_is x.spot spot (second_so (same_key x.key key) (same_spot x.spot spot) same) in
          λ i. Targets (keys_are i) (spots_are i)

      absent : node_at tree (targets_path roots key spot) ≡ None → picked (is_build key spot) (option_map (build_of key spot) (boxed roots tree key spot)) ≡ None
      absent e =
          let none : places_at roots tree key spot ≡ None = ap (λ at. option_and_then targets_of (file_bytes at)) e in
          ap (λ told. picked (is_build key spot) (option_map (build_of key spot) (cond (is_added roots key tree) (option_and_then (λ places. cond (has_files roots tree key spot places) (Some places) None) told) None))) none
          ∙ ap (λ o. picked (is_build key spot) (option_map (build_of key spot) o)) (cond_none (is_added roots key tree))

  -- the builds stand in the order of their files `targets`
  pub builds_rise : rises (map (λ build. targets_path roots build.key build.spot) (builds_in (store_of roots tree))) ≡ true
  unfolding store_of
  builds_rise = entries_rise roots tree (build_by (boxed roots tree)) build_place (build_tells (boxed roots tree))

  -- ---- installed versions

  -- the version in the list is the one that is installed
  pub installed_is : (word : List ℕ) (spot : Spot) → is_word word ≡ true → is_spot spot ≡ true → installed_in (store_of roots tree) word spot ≡ installed roots tree word spot
  unfolding store_of
  installed_is word spot worded spotted =
      ap (option_map (λ (installation : Installation). installation.version))
      (found_at roots tree (installation_by (installed roots tree)) installation_place (installation_tells (installed roots tree)) (is_installation word spot) (KernelLink word spot) (both_true worded spotted) names absent)
      ∙ all_picked (is_installation word spot) (installation_of word spot) (λ installation. installation.version) (λ version. both_true (own_text word) (own_spot spot)) (λ version. refl) (installed roots tree word spot)
    where
      names : (x : Installation) → is_installation word spot x ≡ true → installation_place x ≡ KernelLink word spot
      names x same =
          let words = (bytes_decides x.module word).0 (first_so (bytes_eq x.module word) (same_spot x.spot spot) same) in
          let spots = spot_is x.spot spot (second_so (bytes_eq x.module word) (same_spot x.spot spot) same) in
          λ i. KernelLink (words i) (spots i)

      absent : node_at tree (kernel_link_path roots word spot) ≡ None → picked (is_installation word spot) (option_map (installation_of word spot) (installed roots tree word spot)) ≡ None
      absent e =
          let none : linked_at roots tree (kernel_link_path roots word spot) word spot ≡ None =
          ap (λ at. option_and_then (λ version. cond (is_built roots tree (key_of word version) spot) (Some version) None) (option_and_then (version_of spot) (link_text at))) e in
          ap (λ o. picked (is_installation word spot) (option_map (installation_of word spot) (option_and_then (λ version. cond (is_some (boxed roots tree (key_of word version) spot)) (Some version) None) o))) none

  -- the installations stand in the order of their links
  pub installed_rise : rises (map (λ installation. kernel_link_path roots installation.module installation.spot) (store_of roots tree).installed) ≡ true
  unfolding store_of
  installed_rise = entries_rise roots tree (installation_by (installed roots tree)) installation_place (installation_tells (installed roots tree))

  -- ---- kept files

  -- the chests stand in the order of their directories
  pub chests_rise : rises (map (λ chest. chest_path roots chest.module chest.spot) (store_of roots tree).chests) ≡ true
  unfolding store_of
  chests_rise = entries_rise roots tree (chest_by (chest_files roots tree)) chest_place (chest_tells (chest_files roots tree))

  -- the files of the chest in the list are those that are kept
  pub kept_are : (word : List ℕ) (spot : Spot) → is_word word ≡ true → is_spot spot ≡ true → kept_in (store_of roots tree) word spot ≡ map (λ item. item.0) (kept_files roots tree word spot)
  unfolding store_of
  kept_are word spot worded spotted =
      ap (λ o. unwrap_or o [])
      (ap (option_map (λ (c : Chest). c.files))
      (found_at roots tree (chest_by (chest_files roots tree)) chest_place (chest_tells (chest_files roots tree)) (is_chest word spot) (InChest word spot []) (both_true worded spotted) names absent)
      ∙ all_picked (is_chest word spot) (chest_of word spot) (λ c. c.files) (λ files. both_true (own_text word) (own_spot spot)) (λ files. refl) (chest_files roots tree word spot))
      ∙ at_chest (is_dir (node_at tree (chest_path roots word spot))) refl
    where
      names : (x : Chest) → is_chest word spot x ≡ true → chest_place x ≡ InChest word spot []
      names x same =
          let words = (bytes_decides x.module word).0 (first_so (bytes_eq x.module word) (same_spot x.spot spot) same) in
          let spots = spot_is x.spot spot (second_so (bytes_eq x.module word) (same_spot x.spot spot) same) in
          λ i. InChest (words i) (spots i) []

      absent : node_at tree (chest_path roots word spot) ≡ None → picked (is_chest word spot) (option_map (chest_of word spot) (chest_files roots tree word spot)) ≡ None
      absent e = ap (λ at. picked (is_chest word spot) (option_map (chest_of word spot) (cond (is_dir at) (Some (kept_paths roots tree word spot)) None))) e

      files : List Path
      files = filter (λ path. is_below path (chest_path roots word spot) && is_file (node_at tree path)) (keys tree)

      at_chest : (b : Bool) → is_dir (node_at tree (chest_path roots word spot)) ≡ b → unwrap_or (chest_files roots tree word spot) [] ≡ kept_paths roots tree word spot
      at_chest true e = ap (λ b. unwrap_or (cond b (Some (kept_paths roots tree word spot)) None) []) e
      at_chest false e =
          ap (λ b. unwrap_or (cond b (Some (kept_paths roots tree word spot)) None) []) e
          ∙ sym (ap (λ b. map (λ (item : Path × Node). item.0) (cond b (below tree (chest_path roots word spot) files) [])) e)
