-- What a store's paths tell is all in the public tree.
use Rattle.std.proofs.Common.{◌≡◌, ℕ, ◌+◌, nat_eq, Bool, true, false, cond, ◌&&◌, ◌||◌, not, List, [], ◌∷◌, ◌++◌, length, drop, map, Option, Some, None, is_some, codes, refl, sym, ap, ◌∙◌, append_assoc}
use Rattle.std.specs.Prelude.{filter, filter_map, flat_map, nat_lt, slice_get, option_and_then}
use Rattle.std.specs.List.{find, list_all, list_any}
use Rattle.std.specs.Option.{unwrap_or}
use Rattle.std.specs.FinMap.{keys}
use Rattle.std.specs.Cmp.{first_so, second_so}
use Rattle.std.specs.Cmp.Derive.{both_true}
use Rattle.kb_world.specs.Names.{is_word}
use Rattle.kb_world.specs.Path.{Path, is_under}
use Rattle.kb_world.specs.Roots.{AreApart, is_below}
use Rattle.kb_world.specs.StorePath.{is_ruled, store_path, path_of, is_in_scratch}
use Rattle.kb_world.specs.Tree.{Tree, node_at, is_dir, is_file, link_text, file_bytes}
use Rattle.kb_world.specs.TreeLaws.{same_path}
use Rattle.kb_world.specs.Public.{is_private, public_tree}
use Rattle.kb_world.specs.Store.{is_key, is_added, added_by, link_path, source_text, says}
use Rattle.kb_world.specs.Targets.{last_name, targets_of}
use Rattle.kb_world.specs.Boxes.{is_spot, key_of, boxed, is_built, has_files, places_at, module_file, installed, linked_at, kernel_link_path, version_of, chest_path}
use Rattle.kb_world.specs.Steps.{kept_files}
use Rattle.kb_world.specs.Steps as steps
use Rattle.kb_world.specs.Damage.{least, hurt, harm_by, harm_of, harm_at, files_harm, unless_sound}
use Rattle.kb_world.specs.declared.roots.Roots.{Roots}
use Rattle.kb_world.specs.declared.job.Key.{Key}
use Rattle.kb_world.specs.declared.job.Spot.{Spot}
use Rattle.kb_world.specs.declared.store_path.StorePath.{StorePath}
use Rattle.kb_world.specs.declared.store_path.StorePath.TheVariants.{SourceLink, InScratch, Targets, InBox, KernelLink, InChest}
use Rattle.kb_world.specs.declared.tree.Node.TheVariants as node
use Rattle.kb_world.proofs.PathLaws.{elsewhere, under-split}
use Rattle.kb_world.proofs.PublicLaws.{shown, written_apart, IsAlwaysPublic}
use Rattle.kb_world.proofs.PublicPlaces.{public_place}
use Rattle.kb_world.proofs.SoundLaws.{told-version}
use Rattle.kb_world.proofs.SpotLaws.{not_true}
use Rattle.kb_world.proofs.StorePathLaws.{place_back}
use Rattle.kb_store.specs.Contents.{at_place, build_by, installation_by, chest_by, chest_files, store_of}
use Rattle.kb_store.specs.Notes.{linked, first_of_two}
use Rattle.kb_store.specs.Read.{store_entries, is_too_deep, read_of, over, first_refusal, store_unless}
use Rattle.kb_walk.proofs.OrderLaws.{in_front, is_in, in_more}
use Rattle.kb_walk.proofs.MemberLaws.{in_filter, in_entries, entries_rise, rises_filter, map_same, same_members}
use Rattle.kb_store.proofs.ToldByEntries.{AreAlike, then_same, place_same, build_same, installation_same, chest_same, told_by_entries, harms_told}
use Rattle.kb_store.proofs.ToldIsThere.{linked_version}
use Rattle.kb_walk.proofs.WalkLaws.{rises_keys, standing}

-- whatever stands below the dkms root at a path that isn't private is public
open_below : (roots : Roots) → AreApart roots → (path : Path) → is_private roots path ≡ false → is_below path roots.dkms ≡ true → IsAlwaysPublic roots path
open_below roots apart path plain h at =
    let under = first_so (is_under path roots.dkms) (not (is_under roots.dkms path)) h in
    let no_boot = elsewhere path roots.dkms roots.boot ((written_apart roots apart).dkms_boot) under in
    λ i. (under i || list_any (is_under path) (roots.src ∷ roots.modules ∷ roots.boot ∷ [])) && not (plain i) && not (no_boot i && nat_eq (length path) (length roots.boot + 1) && not (is_dir at))

-- two tests that differ only behind what isn't passed
guarded : (a b x y : Bool) → (a ≡ true → b ≡ true → x ≡ y) → (a && (b && x)) ≡ (a && (b && y))
guarded true true x y same = same refl refl
guarded true false x y same = refl
guarded false b x y same = refl

-- the same is found first of paths at which tests are the same
find_same : (f g : Path → Bool) (paths : List Path) → ((path : Path) → is_in path paths → f path ≡ g path) → find f paths ≡ find g paths
find_same f g [] same = refl
find_same f g (path ∷ paths) same =
    let here = same path (in_front path paths) in
    let later = find_same f g paths (λ q h. same q (in_more q path paths h)) in
    λ i. cond (here i) (Some path) (later i)

-- a list of what fails a test, among what is named
fails_same : (f g : Path → Bool) (name : Path → Path) (xs : List Path) → ((x : Path) → f (name x) ≡ g (name x)) → filter (λ x. not (f x)) (map name xs) ≡ filter (λ x. not (g x)) (map name xs)
fails_same f g name [] same = refl
fails_same f g name (x ∷ xs) same =
    let later = fails_same f g name xs same in
    let here = same x in
    λ i. cond (not (here i)) (name x ∷ later i) (later i)

-- the same of a test that all others stand behind
first_guarded : (a x y u v : Bool) → (a ≡ true → x ≡ y) → (a ≡ true → u ≡ v) → ((a && x) && u) ≡ ((a && y) && v)
first_guarded true x y u v same and_same = let e = same refl in let f = and_same refl in λ i. e i && f i
first_guarded false x y u v same and_same = refl

module _ (roots : Roots) (apart : AreApart roots) (tree : Tree) where
  -- below the dkms root the public tree has what the tree has, where it isn't private
  pub shown_below : (path : Path) → is_private roots path ≡ false → is_below path roots.dkms ≡ true → node_at (public_tree roots tree) path ≡ node_at tree path
  shown_below path plain h = shown roots tree path (open_below roots apart path plain h)

  -- so its entries are the same
  pub entries_public : store_entries roots (public_tree roots tree) ≡ store_entries roots tree
  entries_public = same_members (store_entries roots (public_tree roots tree)) (store_entries roots tree) (entries_rise (public_tree roots tree) (is_private roots) roots.dkms) (entries_rise tree (is_private roots) roots.dkms) (λ path.
      members (public_tree roots tree) path
      ∙ guarded (not (is_private roots path)) (is_below path roots.dkms) _ _ (λ plain h. ap is_some (shown_below path (not_true (is_private roots path) plain) h))
      ∙ sym (members tree path))
    where
      members : (t : Tree) (path : Path) → list_any (same_path path) (store_entries roots t) ≡ (not (is_private roots path) && (is_below path roots.dkms && is_some (node_at t path)))
      members t path = in_entries t (is_private roots) roots.dkms path ∙ ap (λ b. not (is_private roots path) && (is_below path roots.dkms && b)) (sym (standing t path))

  -- and the same stands at them
  pub entry_shown : (path : Path) → is_in path (store_entries roots tree) → node_at (public_tree roots tree) path ≡ node_at tree path
  entry_shown path h =
      let here = sym (in_entries tree (is_private roots) roots.dkms path) ∙ h in
      shown_below path (not_true (is_private roots path) (first_so (not (is_private roots path)) _ here)) (first_so (is_below path roots.dkms) _ (second_so (not (is_private roots path)) _ here))

  -- so the same passes a limit
  pub over_public : over roots (public_tree roots tree) ≡ over roots tree
  over_public =
      (λ i. first_of_two (slice_get (entries_public i) 65536) (find (is_too_deep roots (public_tree roots tree)) (entries_public i)))
      ∙ ap (first_of_two (slice_get (store_entries roots tree) 65536))
      (find_same (is_too_deep roots (public_tree roots tree)) (is_too_deep roots tree) (store_entries roots tree)
      (λ path h. ap (λ at. nat_lt (length roots.dkms + 64) (length path) && is_dir at) (entry_shown path h)))

  -- ---- what stands at the stated paths

  place_shown : (place : StorePath) → is_ruled place ≡ true → is_in_scratch (Some place) ≡ false → node_at (public_tree roots tree) (path_of roots place) ≡ node_at tree (path_of roots place)
  place_shown place ruled open_to = shown roots tree (path_of roots place) (public_place roots apart place ruled open_to)

  -- ---- versions and builds

  added_same : (key : Key) → is_key key ≡ true → is_added roots key (public_tree roots tree) ≡ is_added roots key tree
  added_same key named = ap (λ at. says (source_text roots key) (link_text at)) (place_shown (SourceLink key) named refl)

  places_same : (key : Key) (spot : Spot) → is_key key ≡ true → is_spot spot ≡ true → places_at roots (public_tree roots tree) key spot ≡ places_at roots tree key spot
  places_same key spot named spotted = ap (λ at. option_and_then targets_of (file_bytes at)) (place_shown (Targets key spot) (both_true named spotted) refl)

  file_same : (key : Key) (spot : Spot) → is_key key ≡ true → is_spot spot ≡ true → (place : Path) → is_file (node_at (public_tree roots tree) (module_file roots key spot place)) ≡ is_file (node_at tree (module_file roots key spot place))
  file_same key spot named spotted place = ap is_file (place_shown (InBox key spot (codes "module" ∷ last_name place ∷ [])) (both_true (both_true named spotted) refl) refl)

  files_same : (key : Key) (spot : Spot) → is_key key ≡ true → is_spot spot ≡ true → (places : List Path) → has_files roots (public_tree roots tree) key spot places ≡ has_files roots tree key spot places
  files_same key spot named spotted places = ap (λ test. list_all test places) (λ i place. file_same key spot named spotted place i)

  boxed_same : (key : Key) (spot : Spot) → is_key key ≡ true → is_spot spot ≡ true → boxed roots (public_tree roots tree) key spot ≡ boxed roots tree key spot
  boxed_same key spot named spotted =
      let is = added_same key named in
      let told = places_same key spot named spotted in
      λ i. cond (is i) (option_and_then (λ places. cond (files_same key spot named spotted places i) (Some places) None) (told i)) None

  -- ---- links of spots

  linked_same : (word : List ℕ) (spot : Spot) → is_word word ≡ true → is_spot spot ≡ true → linked roots (public_tree roots tree) word spot ≡ linked roots tree word spot
  linked_same word spot named spotted =
      let path : Path = kernel_link_path roots word spot in
      let stands = place_shown (KernelLink word spot) (both_true named spotted) refl in
      ap (λ at. option_and_then (λ version. cond (is_built roots (public_tree roots tree) (key_of word version) spot) (Some version) None) (option_and_then (version_of spot) (link_text at))) stands
      ∙ then_same (λ version. cond (is_built roots (public_tree roots tree) (key_of word version) spot) (Some version) None) (λ version. cond (is_built roots tree (key_of word version) spot) (Some version) None)
      (option_and_then (version_of spot) (link_text (node_at tree path)))
      (λ version e. ap (λ told. cond (is_some told) (Some version) None) (places_same (key_of word version) spot (both_true named (told-version spot (link_text (node_at tree path)) version e)) spotted))

  installed_same : (word : List ℕ) (spot : Spot) → is_word word ≡ true → is_spot spot ≡ true → installed roots (public_tree roots tree) word spot ≡ installed roots tree word spot
  installed_same word spot named spotted =
      let path : Path = kernel_link_path roots word spot in
      let said = option_and_then (version_of spot) (link_text (node_at tree path)) in
      ap (option_and_then (λ version. cond (is_some (boxed roots (public_tree roots tree) (key_of word version) spot)) (Some version) None)) (linked_same word spot named spotted)
      ∙ then_same (λ version. cond (is_some (boxed roots (public_tree roots tree) (key_of word version) spot)) (Some version) None) (λ version. cond (is_some (boxed roots tree (key_of word version) spot)) (Some version) None)
      (linked_at roots tree path word spot)
      (λ version e. ap (λ told. cond (is_some told) (Some version) None)
      (boxed_same (key_of word version) spot (both_true named (told-version spot (link_text (node_at tree path)) version (linked_version (λ v. is_built roots tree (key_of word v) spot) said version e).0)) spotted))

  -- ---- kept files

  -- at a chest and below it
  below_chest : (word : List ℕ) (spot : Spot) → (is_word word && is_spot spot) ≡ true → (path : Path) → is_below path (chest_path roots word spot) ≡ true → node_at (public_tree roots tree) path ≡ node_at tree path
  below_chest word spot ruled path h =
      let chest = chest_path roots word spot in
      let rest = drop (length chest) path in
      let split : path ≡ path_of roots (InChest word spot rest) =
      under-split path chest (first_so (is_under path chest) (not (is_under chest path)) h) ∙ append_assoc roots.dkms (word ∷ codes "original_module" ∷ spot.kernel ∷ spot.arch ∷ []) rest in
      ap (node_at (public_tree roots tree)) split ∙ place_shown (InChest word spot rest) ruled refl ∙ sym (ap (node_at tree) split)

  -- the same files are kept
  kept_same : (word : List ℕ) (spot : Spot) → (is_word word && is_spot spot) ≡ true → kept_files roots (public_tree roots tree) word spot ≡ kept_files roots tree word spot
  kept_same word spot ruled = let stands = place_shown (InChest word spot []) ruled refl in λ i. cond (is_dir (stands i)) (listed i) []
    where
      chest : Path
      chest = chest_path roots word spot

      files : Tree → List Path
      files t = filter (λ q. is_below q chest && is_file (node_at t q)) (keys t)

      members : (t : Tree) (path : Path) → list_any (same_path path) (files t) ≡ ((is_below path chest && is_file (node_at t path)) && is_some (node_at t path))
      members t path = in_filter (λ q. is_below q chest && is_file (node_at t q)) (keys t) path ∙ ap (λ b. (is_below path chest && is_file (node_at t path)) && b) (sym (standing t path))

      same_paths : files (public_tree roots tree) ≡ files tree
      same_paths = same_members (files (public_tree roots tree)) (files tree) (rises_filter (λ q. is_below q chest && is_file (node_at (public_tree roots tree) q)) (keys (public_tree roots tree)) (rises_keys (public_tree roots tree)))
          (rises_filter (λ q. is_below q chest && is_file (node_at tree q)) (keys tree) (rises_keys tree)) (λ path.
          members (public_tree roots tree) path
          ∙ first_guarded (is_below path chest) _ _ _ _ (λ h. ap is_file (below_chest word spot ruled path h)) (λ h. ap is_some (below_chest word spot ruled path h))
          ∙ sym (members tree path))

      listed : steps.below (public_tree roots tree) chest (files (public_tree roots tree)) ≡ steps.below tree chest (files tree)
      listed =
          ap (map (λ path. (drop (length chest) path, unwrap_or (node_at (public_tree roots tree) path) node.Dir))) same_paths
          ∙ map_same (λ path. (drop (length chest) path, unwrap_or (node_at (public_tree roots tree) path) node.Dir)) (λ path. (drop (length chest) path, unwrap_or (node_at tree path) node.Dir)) (files tree)
          (λ path h.
          let here = sym (in_filter (λ q. is_below q chest && is_file (node_at tree q)) (keys tree) path) ∙ h in
          let stands = below_chest word spot ruled path (first_so (is_below path chest) (is_file (node_at tree path)) (first_so (is_below path chest && is_file (node_at tree path)) _ here)) in
          λ i. (drop (length chest) path, unwrap_or (stands i) node.Dir))

  chest_files_same : (word : List ℕ) (spot : Spot) → is_word word ≡ true → is_spot spot ≡ true → chest_files roots (public_tree roots tree) word spot ≡ chest_files roots tree word spot
  chest_files_same word spot named spotted =
      let stands = place_shown (InChest word spot []) (both_true named spotted) refl in
      let kept = kept_same word spot (both_true named spotted) in
      λ i. cond (is_dir (stands i)) (Some (map (λ item. item.0) (kept i))) None

  -- ---- damage

  files_harm_same : (key : Key) (spot : Spot) → is_key key ≡ true → is_spot spot ≡ true → (told : Option (List Path)) → files_harm roots (public_tree roots tree) key spot told ≡ files_harm roots tree key spot told
  files_harm_same key spot named spotted None = refl
  files_harm_same key spot named spotted (Some places) =
      fails_same (λ file. is_file (node_at (public_tree roots tree) file)) (λ file. is_file (node_at tree file)) (module_file roots key spot) places (file_same key spot named spotted)

  harm_same : AreAlike (harm_by roots (public_tree roots tree)) (harm_by roots tree)
  harm_same (SourceLink key) ruled = ap (λ b. unless_sound b (link_path roots key)) (added_same key ruled)
  harm_same (Targets key spot) ruled =
      let named = first_so (is_key key) (is_spot spot) ruled in
      let spotted = second_so (is_key key) (is_spot spot) ruled in
      let stands = place_shown (SourceLink key) named refl in
      let told = ap (files_harm roots (public_tree roots tree) key spot) (places_same key spot named spotted) ∙ files_harm_same key spot named spotted (places_at roots tree key spot) in
      λ i. unless_sound (is_some (stands i)) (link_path roots key) ++ told i
  harm_same (KernelLink word spot) ruled =
      ap (λ o. unless_sound (is_some o) (kernel_link_path roots word spot)) (linked_same word spot (first_so (is_word word) (is_spot spot) ruled) (second_so (is_word word) (is_spot spot) ruled))
  harm_same other ruled = refl

  harm_public : (path : Path) → harm_at roots (public_tree roots tree) path ≡ harm_at roots tree path
  harm_public path = by (store_path roots path) (λ place e. (place_back roots path place e).ruled)
    where
      by : (told : Option StorePath) → ((place : StorePath) → told ≡ Some place → is_ruled place ≡ true) → harm_of roots (public_tree roots tree) told ≡ harm_of roots tree told
      by None ruled = refl
      by (Some place) ruled = harm_same place (ruled place refl)

  -- ---- what each path tells

  added_alike : AreAlike (added_by roots (public_tree roots tree)) (added_by roots tree)
  added_alike (SourceLink key) ruled = ap (λ b. cond b (Some key) None) (added_same key ruled)
  added_alike other ruled = refl

  -- ---- and so what the store holds

  -- over all paths
  pub all_public : {A : Type 0} (f g : StorePath → Option A) → AreAlike f g → ((key : Key) (rest : Path) → f (InScratch key rest) ≡ None) → ((key : Key) (rest : Path) → g (InScratch key rest) ≡ None)
      → filter_map (at_place roots f) (keys (public_tree roots tree)) ≡ filter_map (at_place roots g) (keys tree)
  all_public f g alike f_silent g_silent =
      told_by_entries roots apart f f_silent (public_tree roots tree) ∙ (λ i. filter_map (λ path. place_same roots f g alike path i) (entries_public i)) ∙ sym (told_by_entries roots apart g g_silent tree)

  -- the public tree holds the same store
  pub store_public : store_of roots (public_tree roots tree) ≡ store_of roots tree
  unfolding store_of
  store_public =
      let shown_tree = public_tree roots tree in
      let added = all_public (added_by roots shown_tree) (added_by roots tree) added_alike (λ key rest. refl) (λ key rest. refl) in
      let builds = all_public (build_by (boxed roots shown_tree)) (build_by (boxed roots tree)) (build_same (boxed roots shown_tree) (boxed roots tree) boxed_same) (λ key rest. refl) (λ key rest. refl) in
      let installed = all_public (installation_by (installed roots shown_tree)) (installation_by (installed roots tree)) (installation_same (installed roots shown_tree) (installed roots tree) installed_same) (λ key rest. refl) (λ key rest. refl) in
      let chests = all_public (chest_by (chest_files roots shown_tree)) (chest_by (chest_files roots tree)) (chest_same (chest_files roots shown_tree) (chest_files roots tree) chest_files_same) (λ key rest. refl) (λ key rest. refl) in
      λ i. record { added = added i; builds = builds i; installed = installed i; chests = chests i }

  -- its first damaged path is the same
  pub hurt_public : hurt roots (public_tree roots tree) ≡ hurt roots tree
  unfolding hurt
  hurt_public = ap least (harms_told roots apart (public_tree roots tree) ∙ (λ i. flat_map (λ path. harm_public path i) (entries_public i)) ∙ sym (harms_told roots apart tree))

  -- and so is what a reading answers
  pub read_public : read_of roots (public_tree roots tree) ≡ read_of roots tree
  unfolding read_of
  read_public =
      let hurts = hurt_public in
      let walks = over_public in
      let stores = store_public in
      λ i. store_unless (first_refusal (hurts i) (walks i)) (stores i)
