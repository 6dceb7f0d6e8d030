-- No step damages a store: each patch spares the entries that tell, but for those that its step is about.
use Rattle.std.proofs.Common.{◌≡◌, ℕ, Bool, true, false, cond, ◌&&◌, ◌||◌, not, List, [], ◌∷◌, ◌++◌, length, drop, map, Option, Some, None, is_some, codes, refl, sym, ap, ◌∙◌, subst}
use Rattle.std.proofs.lemmas.List.Sums.{fold-append}
use Rattle.std.specs.Prelude.{bytes_eq, option_and_then, filter, unwrap_or}
use Rattle.std.specs.List.{list_any, AllByRecursion}
use Rattle.std.specs.FinMap.{keys}
use Rattle.std.specs.Cmp.{second_so}
use Rattle.std.specs.Cmp.Derive.{both_true}
use Rattle.std.specs.Cmp.Lexicographic.{bytes_decides}
use Rattle.kb_world.specs.Names.{is_word, is_version, is_kernel}
use Rattle.kb_world.specs.Path.{Path, is_under, are_apart}
use Rattle.kb_world.specs.Tree.{Tree, node_at, with_node, is_dir, is_file, is_leaf, link_text, file_bytes}
use Rattle.kb_world.specs.TreeLaws.{with_node-here}
use Rattle.kb_world.specs.Roots.{AreApart, is_below}
use Rattle.kb_world.specs.Store.{is_key, is_added, link_path, source_path, source_text, says}
use Rattle.kb_world.specs.Targets.{last_name, are_targets, targets_of, targets_text}
use Rattle.kb_world.specs.View.{is_index}
use Rattle.kb_world.specs.Boxes.{is_spot, in_box, log_path, targets_path, module_file, places_at, is_built, has_files, boxed, kernel_link_name, kernel_link_path, kernel_link_text, linked_at, installed, key_of, version_of, spot_of_link, chest_path}
use Rattle.kb_world.specs.Patch.{Patch, patched, wiped, all_wiped, dropped, all_dropped, with_nodes}
use Rattle.kb_world.specs.Steps.{add_step, source_copy, add_tree_patch, add_tree_step, Module, build_patch, build_step, in_kernel, installed_places, is_displaced, displaced_paths, displaced, build_places, copies, modules_at_places, install_patch, install_step, kept_files, put_back, chest_there, uninstall_patch, is_installed, drop_patch, uninstall_step, unbuild_step, unadd_patch, unadd_step, add_patch, below}
use Rattle.kb_world.specs.declared.roots.Roots.{Roots}
use Rattle.kb_world.specs.declared.job.Key.{Key}
use Rattle.kb_world.specs.declared.job.Spot.{Spot}
use Rattle.kb_world.specs.declared.tree.Node.{Node}
use Rattle.kb_world.specs.declared.tree.Node.TheVariants as node
use Rattle.kb_world.proofs.PathLaws.{under-append, under-beside, under-above, elsewhere-below, apart-back, by_test}
use Rattle.kb_world.proofs.PublicLaws.{written_apart}
use Rattle.kb_world.proofs.DamageLaws.{spot_of, IsSound, IsSoundBox, under-split}
use Rattle.kb_world.proofs.SoundLaws.{tells, kept-file, file-firm, sound_kept, added-kept, built-kept}
use Rattle.kb_world.proofs.AboveLaws.{fronts, AreAll, all-append, all-filter, all-passing, all-map, all-all}
use Rattle.kb_world.proofs.SoundEdits.{IsAside, IsBeside, IsClear, IsSpared, ComesBeside, aside-of, beside-of, clear-aside, clear-beside, node_aside, wiped_clear, file_put, drops_aside, puts_aside, patched_spared}
use Rattle.kb_world.proofs.SoundPuts.{source_put, targets_put, link_put}
use Rattle.kb_world.proofs.SoundTakes.{HasNoBuilds, source_dropped, link_dropped, IsLinkless, dropped_linkless, still_linkless, IsUnlinked, linkless-unlinked, box_gone}
use Rattle.kb_world.proofs.SpotLaws.{version_no_link, kernel_no_source}

pub untrue : false ≡ true → ⊥
untrue e = cc

and_false : (a : Bool) → (a && false) ≡ false
and_false true = refl
and_false false = refl

spared_sound : (roots : Roots) → IsSpared roots (IsSound roots)
spared_sound roots old new kept s = sound_kept roots old new kept s

with_nodes-append : (a b : List (Path × Node)) (tree : Tree) → with_nodes (a ++ b) tree ≡ with_nodes b (with_nodes a tree)
with_nodes-append a b tree = fold-append (λ t put. with_node put.0 put.1 t) tree a b

-- ---- paths below other roots

-- a path under a root that is apart from the dkms root has no entry that tells above it
under_clear : (roots : Roots) (root : Path) → are_apart root roots.dkms ≡ true → (path : Path) → is_under path root ≡ true → IsClear roots path
under_clear roots root apart path under names h = elsewhere-below path root roots.dkms names apart under

module _ (roots : Roots) (apart : AreApart roots) where
  modules_clear : (kernel : List ℕ) (place : Path) → IsClear roots (in_kernel roots kernel place)
  modules_clear kernel place = under_clear roots roots.modules (apart-back roots.dkms roots.modules (written_apart roots apart).dkms_modules) (in_kernel roots kernel place) (under-append roots.modules (kernel ∷ place))

  displaced_clear : (store : Tree) (kernel : List ℕ) (places : List Path) (path : Path) → is_displaced roots store kernel places path ≡ true → IsClear roots path
  displaced_clear store kernel places path h =
      under_clear roots roots.modules (apart-back roots.dkms roots.modules (written_apart roots apart).dkms_modules) path
      (under-above path roots.modules (kernel ∷ []) (first_of _ _ _ _ _ (is_under path (in_kernel roots kernel [])) h))
    where
      first_of : (b c d e f a : Bool) → (a && b && c && d && e && f) ≡ true → a ≡ true
      first_of b c d e f true e1 = refl
      first_of b c d e f false e1 = e1

  places_aside : (store : Tree) (word : List ℕ) (spot : Spot) → AllByRecursion (IsAside roots) (installed_places roots store word spot)
  places_aside store word spot =
      all-map (IsAside roots) (in_kernel roots spot.kernel) places (all-all (λ place. IsAside roots (in_kernel roots spot.kernel place)) (λ place. clear-aside roots (in_kernel roots spot.kernel place) (modules_clear spot.kernel place)) places)
    where
      places : List Path
      places = unwrap_or (option_and_then (λ version. boxed roots store (key_of word version) spot) (installed roots store word spot)) []

  modules_are_clear : (key : Key) (spot : Spot) (store : Tree) → AllByRecursion (λ (put : Path × Node). IsClear roots put.0) (modules_at_places roots key spot store)
  modules_are_clear key spot store =
      all-map (λ (put : Path × Node). IsClear roots put.0) (λ place. (in_kernel roots spot.kernel place, node.File (unwrap_or (file_bytes (node_at store (module_file roots key spot place))) []) false)) (build_places roots key spot store)
      (all-all (λ place. IsClear roots (in_kernel roots spot.kernel place)) (modules_clear spot.kernel) (build_places roots key spot store))

  source_clear : (key : Key) (names : Path) → IsClear roots (source_path roots key ++ names)
  source_clear key names =
      under_clear roots roots.src (apart-back roots.dkms roots.src (written_apart roots apart).dkms_src) (source_path roots key ++ names)
      (under-above (source_path roots key ++ names) roots.src ((key.module ++ codes "-" ++ key.version) ∷ []) (under-append (source_path roots key) names))

-- ---- Add

source_beside : (roots : Roots) (key : Key) → is_version key.version ≡ true → IsBeside roots (link_path roots key)
source_beside roots key named = beside-of roots (key.module ∷ key.version ∷ codes "source" ∷ []) (ap (λ b. b || false) (version_no_link key.version named))

pub add_sound : (roots : Roots) (key : Key) (store : Tree) → is_key key ≡ true → IsSound roots store → IsSound roots (add_step roots key store)
unfolding add_step
add_sound roots key store named s =
    patched_spared roots (IsSound roots) (IsSound roots) (spared_sound roots) (spared_sound roots) (add_patch roots key) store
    (record { dirs = tt; puts = (source_beside roots key (second_so (is_word key.module) (is_version key.version) named), tt) }) s
    (λ tree sound. source_put roots tree key.module key.version sound)

pub add_tree_sound : (roots : Roots) → AreApart roots → (key : Key) (from : Path) (whole store : Tree) → is_key key ≡ true → IsSound roots store → IsSound roots (add_tree_step roots key from whole store)
unfolding add_tree_step
add_tree_sound roots apart key from whole store named s =
    patched_spared roots (IsSound roots) (IsSound roots) (spared_sound roots) (spared_sound roots) (add_tree_patch roots key from whole) store
    (record {
      dirs = (
        subst (IsClear roots) (append-nil-path (source_path roots key)) (source_clear roots apart key []),
        all-map (IsClear roots) (λ item. item.0) (filter (λ item. is_dir (Some item.1)) (source_copy roots key from whole)) (all-filter (λ (item : Path × Node). IsClear roots item.0) (λ item. is_dir (Some item.1)) (source_copy roots key from whole) clear),
      );
      puts = all-append (λ (put : Path × Node). IsBeside roots put.0) leaves ((link_path roots key, node.Link (source_text roots key)) ∷ [])
          (AreAll (λ (item : Path × Node). IsClear roots item.0) (λ (item : Path × Node). IsBeside roots item.0) (λ item. clear-beside roots item.0) leaves leaves_clear)
          (source_beside roots key (second_so (is_word key.module) (is_version key.version) named), tt);
    }) s
    (λ tree sound. subst (IsSound roots) (sym (with_nodes-append leaves ((link_path roots key, node.Link (source_text roots key)) ∷ []) tree))
    (source_put roots (with_nodes leaves tree) key.module key.version
    (puts_aside roots (IsSound roots) (spared_sound roots) leaves tree (AreAll (λ (item : Path × Node). IsClear roots item.0) (λ (item : Path × Node). IsAside roots item.0) (λ item. clear-aside roots item.0) leaves leaves_clear) sound)))
  where
    clear : AllByRecursion (λ (item : Path × Node). IsClear roots item.0) (source_copy roots key from whole)
    clear = all-map (λ (item : Path × Node). IsClear roots item.0) (λ (item : Path × Node). (source_path roots key ++ item.0, item.1)) (below whole from (filter (λ path. is_below path from) (keys whole)))
        (all-all (λ (item : Path × Node). IsClear roots (source_path roots key ++ item.0)) (λ item. source_clear roots apart key item.0) (below whole from (filter (λ path. is_below path from) (keys whole))))

    leaves : List (Path × Node)
    leaves = filter (λ item. is_leaf (Some item.1)) (source_copy roots key from whole)

    leaves_clear : AllByRecursion (λ (item : Path × Node). IsClear roots item.0) leaves
    leaves_clear = all-filter (λ (item : Path × Node). IsClear roots item.0) (λ item. is_leaf (Some item.1)) (source_copy roots key from whole) clear

    append-nil-path : (path : Path) → path ++ [] ≡ path
    append-nil-path [] = refl
    append-nil-path (name ∷ path) = ap (λ p. name ∷ p) (append-nil-path path)

-- ---- Build

module _ (roots : Roots) (key : Key) (spot : Spot) (named : is_version key.version ≡ true) where
  -- what stands above a name in a box
  abbrev over_box : List ℕ → Path → List Path
  over_box name rest = map (λ front. key.module ∷ front) (map (λ front. key.version ∷ front) (map (λ front. spot.kernel ∷ front) (map (λ front. spot.arch ∷ front) (map (λ front. name ∷ front) (fronts rest)))))

  -- a put in a box lies beside the entries that tell
  in_box_beside : (name : List ℕ) (rest : Path) → is_kernel spot.kernel ≡ true → list_any tells (over_box name rest) ≡ false → IsBeside roots (in_box roots key spot (name ∷ rest))
  in_box_beside name rest kernel none = beside-of roots (key.module ∷ key.version ∷ spot.kernel ∷ spot.arch ∷ name ∷ rest) over
    where
      over : list_any tells (fronts (key.module ∷ key.version ∷ spot.kernel ∷ spot.arch ∷ name ∷ rest)) ≡ false
      over =
          ap (λ b. b || (is_version key.version && bytes_eq spot.kernel (codes "source") || list_any tells (over_box name rest))) (version_no_link key.version named)
          ∙ ap (λ b. is_version key.version && b || list_any tells (over_box name rest)) (kernel_no_source spot.kernel kernel)
          ∙ ap (λ b. b || list_any tells (over_box name rest)) (and_false (is_version key.version))
          ∙ none

  abbrev module_put : Module → Path × Node
  module_put built = (module_file roots key spot built.0, node.File built.1 false)

  abbrev and_file : (Tree → Type 0) → Path → Tree → Type 0
  and_file P place tree = P tree × (is_file (node_at tree (module_file roots key spot place)) ≡ true)

  spared_file : (P : Tree → Type 0) → IsSpared roots P → (place : Path) → IsSpared roots (and_file P place)
  spared_file P spared place old new kept (p, file) = (
    spared old new kept p,
    kept-file (key.module ∷ key.version ∷ spot.kernel ∷ spot.arch ∷ codes "module" ∷ last_name place ∷ []) _ _ (file-firm (node_at old (module_file roots key spot place)) file) file
        (kept (key.module ∷ key.version ∷ spot.kernel ∷ spot.arch ∷ codes "module" ∷ last_name place ∷ []) (both_true named refl)),
  )

  -- each module's file is there once all are put
  modules_put : (P : Tree → Type 0) → IsSpared roots P → (modules : List Module) (tree : Tree) → P tree
      → P (with_nodes (map module_put modules) tree) × (has_files roots (with_nodes (map module_put modules) tree) key spot (map (λ built. built.0) modules) ≡ true)
  modules_put P spared [] tree p = (p, refl)
  modules_put P spared (built ∷ others) tree p =
      let path = module_file roots key spot built.0 in
      let next = with_node path (node.File built.1 false) tree in
      let once : P next = file_put roots P spared key.module key.version spot.kernel spot.arch (last_name built.0) built.1 false tree p in
      let there : is_file (node_at next path) ≡ true = ap is_file (with_node-here tree path (node.File built.1 false)) in
      let all = modules_put (and_file P built.0) (spared_file P spared built.0) others next (once, there) in
      (all.0.0, both_true all.0.1 all.1)

  abbrev is_firm : Tree → Type 0
  is_firm tree = IsSound roots tree × (is_added roots key tree ≡ true)

  spared_firm : IsSpared roots is_firm
  spared_firm old new kept (s, added) = (
    sound_kept roots old new kept s,
    ap (λ n. says (source_text roots key) (link_text n)) (added-kept roots old new kept key.module key.version named added) ∙ added,
  )

  pub build_sound : is_kernel spot.kernel ≡ true → (modules : List Module) (log : List ℕ) (store : Tree) → is_added roots key store ≡ true → are_targets (map (λ built. built.0) modules) ≡ true → IsSound roots store
      → IsSound roots (build_step roots key spot modules log store)
  unfolding build_step
  build_sound kernel modules log store added fit s =
      patched_spared roots is_firm (IsSound roots) spared_firm (spared_sound roots) (build_patch roots key spot modules log) store beside (s, added) put
    where
      targets : List (Path × Node)
      targets = (targets_path roots key spot, node.File (targets_text (map (λ built. built.0) modules)) false) ∷ []

      beside : ComesBeside roots (build_patch roots key spot modules log)
      beside = record {
        dirs = tt;
        puts = (
          in_box_beside (codes "log") (codes "make.log" ∷ []) kernel (ap (λ b. b || false) (and_false (is_version key.version))),
          all-append (λ (put : Path × Node). IsBeside roots put.0) (map module_put modules) targets
              (all-map (λ (put : Path × Node). IsBeside roots put.0) module_put modules
              (all-all (λ (built : Module). IsBeside roots (module_file roots key spot built.0)) (λ built. in_box_beside (codes "module") (last_name built.0 ∷ []) kernel (ap (λ b. b || false) (and_false (is_version key.version)))) modules))
              (in_box_beside (codes "targets") [] kernel refl, tt),
        );
      }

      put : (tree : Tree) → is_firm tree → IsSound roots (with_nodes (map module_put modules ++ targets) (with_node (log_path roots key spot) (node.File log false) tree))
      put tree firm =
          let logged = with_node (log_path roots key spot) (node.File log false) tree in
          let first = node_aside roots is_firm spared_firm (log_path roots key spot) (node.File log false) tree (aside-of roots (key.module ∷ key.version ∷ spot.kernel ∷ spot.arch ∷ codes "log" ∷ codes "make.log" ∷ []) (and_false (is_version key.version))) firm in
          let all = modules_put is_firm spared_firm modules logged first in
          subst (IsSound roots) (sym (with_nodes-append (map module_put modules) targets logged))
          (targets_put roots (with_nodes (map module_put modules) logged) key.module key.version spot (map (λ built. built.0) modules) all.0.1 fit all.1 all.0.0)

-- ---- Install

tells_kept : (word : List ℕ) (more : Path) → tells (word ∷ codes "original_module" ∷ more) ≡ false
tells_kept word [] = refl
tells_kept word (a ∷ []) = refl
tells_kept word (a ∷ b ∷ []) = refl
tells_kept word (a ∷ b ∷ c ∷ []) = refl
tells_kept word (a ∷ b ∷ c ∷ d ∷ []) = refl
tells_kept word (a ∷ b ∷ c ∷ d ∷ e ∷ more) = refl

chest_beside : (roots : Roots) (word : List ℕ) (more : Path) → IsBeside roots (roots.dkms ++ word ∷ codes "original_module" ∷ more)
chest_beside roots word more = beside-of roots (word ∷ codes "original_module" ∷ more) (all_kept (fronts more))
  where
    all_kept : (paths : List Path) → list_any tells (map (λ front. word ∷ front) (map (λ front. codes "original_module" ∷ front) paths)) ≡ false
    all_kept [] = refl
    all_kept (path ∷ paths) = ap (λ b. b || list_any tells (map (λ front. word ∷ front) (map (λ front. codes "original_module" ∷ front) paths))) (tells_kept word path) ∙ all_kept paths

link_beside : (roots : Roots) (word : List ℕ) (spot : Spot) → IsBeside roots (kernel_link_path roots word spot)
link_beside roots word spot = beside-of roots (word ∷ kernel_link_name spot ∷ []) refl

pub install_sound : (roots : Roots) → AreApart roots → (word version kernel arch : List ℕ) (store : Tree) → is_version version ≡ true → is_spot (spot_of kernel arch) ≡ true → is_built roots store (key_of word version) (spot_of kernel arch) ≡ true
    → IsSound roots store → IsSound roots (install_step roots (key_of word version) (spot_of kernel arch) store)
unfolding install_step
install_sound roots apart word version kernel arch store named spotted built s =
    patched_spared roots is_ready (IsSound roots) spared_ready (spared_sound roots) (install_patch roots key spot store) store beside
    (drops_aside roots is_ready spared_ready (installed_places roots store word spot ++ displaced_paths roots store kernel places) store gone (s, built)) put
  where
    key : Key
    key = key_of word version

    spot : Spot
    spot = spot_of kernel arch

    places : List Path
    places = build_places roots key spot store

    kept : List (Path × Node)
    kept = copies roots key spot store

    modules : List (Path × Node)
    modules = modules_at_places roots key spot store

    link : List (Path × Node)
    link = (kernel_link_path roots word spot, node.Link (kernel_link_text version spot)) ∷ []

    is_ready : Tree → Type 0
    is_ready tree = IsSound roots tree × (is_built roots tree key spot ≡ true)

    spared_ready : IsSpared roots is_ready
    spared_ready old new kept (s, built) =
        (sound_kept roots old new kept s, ap (λ n. is_some (option_and_then targets_of (file_bytes n))) (built-kept roots old new kept word version spot named built) ∙ built)

    gone : AllByRecursion (IsAside roots) (installed_places roots store word spot ++ displaced_paths roots store kernel places)
    gone = all-append (IsAside roots) (installed_places roots store word spot) (displaced_paths roots store kernel places)
        (places_aside roots apart store word spot)
        (all-passing (IsAside roots) (is_displaced roots store kernel places) (λ path h. clear-aside roots path (displaced_clear roots apart store kernel places path h)) (keys store))

    at_chest : Path × Node → Path × Node
    at_chest item = (roots.dkms ++ word ∷ codes "original_module" ∷ kernel ∷ arch ∷ item.0, item.1)

    beside : ComesBeside roots (install_patch roots key spot store)
    beside = record {
      dirs = tt;
      puts = all-append (λ (put : Path × Node). IsBeside roots put.0) kept (modules ++ link)
          (all-map (λ (put : Path × Node). IsBeside roots put.0) at_chest (displaced roots store kernel places)
          (all-all (λ (item : Path × Node). IsBeside roots (at_chest item).0) (λ item. chest_beside roots word (kernel ∷ arch ∷ item.0)) (displaced roots store kernel places)))
          (all-append (λ (put : Path × Node). IsBeside roots put.0) modules link
          (AreAll (λ (put : Path × Node). IsClear roots put.0) (λ (put : Path × Node). IsBeside roots put.0) (λ put. clear-beside roots put.0) modules (modules_are_clear roots apart key spot store)) (link_beside roots word spot, tt));
    }

    put : (tree : Tree) → is_ready tree → IsSound roots (with_nodes (kept ++ (modules ++ link)) tree)
    put tree ready =
        let chested = puts_aside roots is_ready spared_ready kept tree
        (all-map (λ (put : Path × Node). IsAside roots put.0) at_chest (displaced roots store kernel places)
        (all-all (λ (item : Path × Node). IsAside roots (at_chest item).0) (λ item. aside-of roots (word ∷ codes "original_module" ∷ kernel ∷ arch ∷ item.0) (tells_kept word (kernel ∷ arch ∷ item.0))) (displaced roots store kernel places))) ready in
        let placed = puts_aside roots is_ready spared_ready modules (with_nodes kept tree)
        (AreAll (λ (put : Path × Node). IsClear roots put.0) (λ (put : Path × Node). IsAside roots put.0) (λ put. clear-aside roots put.0) modules (modules_are_clear roots apart key spot store)) chested in
        subst (IsSound roots) (sym (with_nodes-append kept (modules ++ link) tree ∙ with_nodes-append modules link (with_nodes kept tree)))
        (link_put roots (with_nodes modules (with_nodes kept tree)) word version kernel arch named spotted placed.1 placed.0)

-- ---- Drop

-- a link to a sound build says that its version is installed
says-so : (roots : Roots) (word version kernel arch : List ℕ) (store : Tree) → is_word word ≡ true → is_version version ≡ true → is_spot (spot_of kernel arch) ≡ true → IsSound roots store
    → linked_at roots store (kernel_link_path roots word (spot_of kernel arch)) word (spot_of kernel arch) ≡ Some version → says version (installed roots store word (spot_of kernel arch)) ≡ true
says-so roots word version kernel arch store is_module is_one spotted s linked =
    ap (λ o. says version (option_and_then (λ v. cond (is_some (boxed roots store (key_of word v) spot)) (Some v) None) o)) linked
    ∙ ap (λ b. says version (cond b (Some version) None)) whole ∙ (bytes_decides version version).1 refl
  where
    spot : Spot
    spot = spot_of kernel arch

    key : Key
    key = key_of word version

    built_by : (told : Option (List ℕ)) → option_and_then (λ v. cond (is_built roots store (key_of word v) spot) (Some v) None) told ≡ Some version → is_built roots store key spot ≡ true
    built_by None e = let none : None ≡ Some version = e in absurd (cc)
    built_by (Some v) e = by (is_built roots store (key_of word v) spot) refl
      where
        by : (b : Bool) → is_built roots store (key_of word v) spot ≡ b → is_built roots store key spot ≡ true
        by true h =
            let some : Some v ≡ Some version = sym (ap (λ b. cond b (Some v) None) h) ∙ e in
            let is : version ≡ v = cc in
            ap (λ x. is_built roots store (key_of word x) spot) is ∙ h
        by false h = let none : None ≡ Some version = sym (ap (λ b. cond b (Some v) None) h) ∙ e in absurd (cc)

    targets_stand : (at : Option Node) → is_some (option_and_then targets_of (file_bytes at)) ≡ true → is_some at ≡ true
    targets_stand None e = e
    targets_stand (Some at) e = refl

    built : is_built roots store key spot ≡ true
    built = built_by (option_and_then (version_of spot) (link_text (node_at store (kernel_link_path roots word spot)))) linked

    b : IsSoundBox roots store key spot
    b = s.boxes word version kernel arch (both_true is_module is_one) spotted (targets_stand (node_at store (targets_path roots key spot)) built)

    whole : is_some (boxed roots store key spot) ≡ true
    whole =
        ap (λ x. is_some (cond x (option_and_then (λ places. cond (has_files roots store key spot places) (Some places) None) (places_at roots store key spot)) None)) (s.sources word version (both_true is_module is_one) b.stands)
        ∙ ap (λ o. is_some (option_and_then (λ places. cond (has_files roots store key spot places) (Some places) None) o)) b.told
        ∙ ap (λ x. is_some (cond x (Some b.places) None)) b.files

-- a chest has nothing that tells
chest_gone : (roots : Roots) (P : Tree → Type 0) → IsSpared roots P → (word : List ℕ) (spot : Spot) (tree : Tree) → P tree → P (wiped (chest_path roots word spot) tree)
chest_gone roots P spared word spot tree s =
    wiped_clear roots P spared (chest_path roots word spot) tree (λ names h. under-beside roots.dkms names chest ∙ by_test (is_under names chest) (λ under.
    untrue (sym (ap tells (under-split names chest under) ∙ tells_kept word (spot.kernel ∷ spot.arch ∷ drop (length chest) names)) ∙ h))) s
  where
    chest : Path
    chest = word ∷ codes "original_module" ∷ spot.kernel ∷ spot.arch ∷ []

module _ (roots : Roots) (apart : AreApart roots) (word version kernel arch : List ℕ) (store : Tree) (linkable : is_some (spot_of_link (kernel_link_name (spot_of kernel arch))) ≡ true) (s : IsSound roots store) where
  abbrev spot : Spot
  spot = spot_of kernel arch

  abbrev key : Key
  key = key_of word version

  abbrev there : Bool
  there = is_dir (node_at store (in_kernel roots kernel []))

  -- sound, and without the spot's link
  abbrev is_free : Tree → Type 0
  is_free tree = IsSound roots tree × IsLinkless roots word spot tree

  spared_free : IsSpared roots is_free
  spared_free old new kept (s, none) =
      (sound_kept roots old new kept s, still_linkless word (kernel_link_name spot) (node_at old (kernel_link_path roots word spot)) (node_at new (kernel_link_path roots word spot)) none (kept (word ∷ kernel_link_name spot ∷ []) linkable))

  dropped_free : is_free (all_dropped (kernel_link_path roots word spot ∷ cond there (installed_places roots store word spot) []) store)
  dropped_free =
      drops_aside roots is_free spared_free (cond there (installed_places roots store word spot) []) (dropped (kernel_link_path roots word spot) store) (by there)
      (sound_kept roots store (dropped (kernel_link_path roots word spot) store) (link_dropped roots word spot store) s, dropped_linkless roots word spot store)
    where
      by : (b : Bool) → AllByRecursion (IsAside roots) (cond b (installed_places roots store word spot) [])
      by true = places_aside roots apart store word spot
      by false = tt

  chest_free : (tree : Tree) → is_free tree → is_free (all_wiped (chest_there roots word spot store) tree)
  chest_free tree free = by (is_dir (node_at store (chest_path roots word spot)))
    where
      by : (b : Bool) → is_free (all_wiped (cond b (chest_path roots word spot ∷ []) []) tree)
      by true = chest_gone roots is_free spared_free word spot tree free
      by false = free

  -- the build goes, where it goes too: no link says it then
  box_too : (build_too : Bool) (tree : Tree) → IsUnlinked roots tree word version spot → IsSound roots tree → IsSound roots (all_wiped (cond build_too (in_box roots key spot [] ∷ []) []) tree)
  box_too true tree unlinked sound = box_gone roots word version kernel arch tree unlinked sound
  box_too false tree unlinked sound = sound

  back_clear : (b : Bool) → AllByRecursion (λ (put : Path × Node). IsClear roots put.0) (cond b (put_back roots word spot store) [])
  back_clear true =
      all-filter (λ (put : Path × Node). IsClear roots put.0) (λ put. not (is_index roots put.0)) (map (λ (item : Path × Node). (in_kernel roots kernel item.0, item.1)) (kept_files roots store word spot))
      (all-map (λ (put : Path × Node). IsClear roots put.0) (λ (item : Path × Node). (in_kernel roots kernel item.0, item.1)) (kept_files roots store word spot)
      (all-all (λ (item : Path × Node). IsClear roots (in_kernel roots kernel item.0)) (λ item. modules_clear roots apart kernel item.0) (kept_files roots store word spot)))
  back_clear false = tt

  drop_sound : (build_too : Bool) → is_word word ≡ true → is_version version ≡ true → is_spot (spot_of kernel arch) ≡ true → IsSound roots (patched roots (drop_patch roots key spot build_too store) store)
  drop_sound build_too is_module is_one spotted = by (is_installed roots key spot store) refl
    where
      box : List Path
      box = cond build_too (in_box roots key spot [] ∷ []) []

      patch_by : Bool → Patch
      patch_by b = let installed_too : Patch = cond b (uninstall_patch roots key spot store) (record { drops = []; wipes = []; dirs = []; puts = [] }) in
          record { drops = installed_too.drops; wipes = installed_too.wipes ++ box; dirs = installed_too.dirs; puts = installed_too.puts }

      back : List (Path × Node)
      back = cond there (put_back roots word spot store) []

      left : Tree
      left = all_dropped (kernel_link_path roots word spot ∷ cond there (installed_places roots store word spot) []) store

      by : (b : Bool) → is_installed roots key spot store ≡ b → IsSound roots (patched roots (patch_by b) store)
      by true e =
          let free = chest_free left dropped_free in
          patched_spared roots (IsSound roots) (IsSound roots) (spared_sound roots) (spared_sound roots) (patch_by true) store
          (record { dirs = tt; puts = AreAll (λ (put : Path × Node). IsClear roots put.0) (λ (put : Path × Node). IsBeside roots put.0) (λ put. clear-beside roots put.0) back (back_clear there) })
          (subst (IsSound roots) (sym (fold-append (λ t path. wiped path t) left (chest_there roots word spot store) box))
          (box_too build_too (all_wiped (chest_there roots word spot store) left) (linkless-unlinked roots (all_wiped (chest_there roots word spot store) left) word version spot free.1) free.0))
          (λ tree sound. puts_aside roots (IsSound roots) (spared_sound roots) back tree (AreAll (λ (put : Path × Node). IsClear roots put.0) (λ (put : Path × Node). IsAside roots put.0) (λ put. clear-aside roots put.0) back (back_clear there)) sound)
      by false e =
          patched_spared roots (IsSound roots) (IsSound roots) (spared_sound roots) (spared_sound roots) (patch_by false) store (record { dirs = tt; puts = tt })
          (box_too build_too store (λ linked. untrue (sym e ∙ says-so roots word version kernel arch store is_module is_one spotted s linked)) s)
          (λ tree sound. sound)

  pub uninstall_sound : is_word word ≡ true → is_version version ≡ true → is_spot (spot_of kernel arch) ≡ true → IsSound roots (uninstall_step roots (key_of word version) (spot_of kernel arch) store)
  unfolding uninstall_step
  uninstall_sound = drop_sound false

  pub unbuild_sound : is_word word ≡ true → is_version version ≡ true → is_spot (spot_of kernel arch) ≡ true → IsSound roots (unbuild_step roots (key_of word version) (spot_of kernel arch) store)
  unfolding unbuild_step
  unbuild_sound = drop_sound true

-- ---- Unadd

pub unadd_sound : (roots : Roots) (word version : List ℕ) (store : Tree) → HasNoBuilds roots store word version → IsSound roots store → IsSound roots (unadd_step roots (key_of word version) store)
unfolding unadd_step
unadd_sound roots word version store unbuilt s =
    patched_spared roots (IsSound roots) (IsSound roots) (spared_sound roots) (spared_sound roots) (unadd_patch roots (key_of word version)) store (record { dirs = tt; puts = tt })
    (source_dropped roots word version store unbuilt s) (λ tree sound. sound)
