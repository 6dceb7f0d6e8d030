-- The patch of `dkms add` of a directory may stand, and fits a tree in which its places are free.
use Rattle.std.proofs.Common.{◌≡◌, ◌⊎◌, ℕ, suc, ◌<◌, ◌≤◌, ◌^◌, Bool, true, false, cond, ◌&&◌, ◌||◌, not, List, [], ◌∷◌, ◌++◌, length, drop, map, Option, Some, None, is_some, codes, refl, sym, ap, ◌∙◌, subst, inl, inr, append_assoc, append-nil, arith, length-append}
use Rattle.std.proofs.lemmas.List.{append_cancel_left, length-map}
use Rattle.std.specs.Prelude.{filter, flat_map}
use Rattle.std.specs.List.{list_any, AllByRecursion}
use Rattle.std.specs.FinMap.{keys}
use Rattle.std.specs.Cmp.{first_so, second_so}
use Rattle.std.specs.Cmp.Derive.{both_true}
use Rattle.kb_world.specs.Names.{is_word, is_version, begins_alphanumeric}
use Rattle.kb_world.specs.Path.{Path, is_under}
use Rattle.kb_world.specs.Patch.{Patch, above, directories_to, dirs_of, emptied_of, in_order, is_listed, patched}
use Rattle.kb_world.specs.Public.{IsAlwaysPublic, public_tree}
use Rattle.kb_world.specs.Roots.{AreApart, is_below}
use Rattle.kb_world.specs.Steps.{add_blocked, add_tree_patch}
use Rattle.kb_world.specs.Store.{is_key, link_path, source_path}
use Rattle.kb_world.specs.Tree.{Tree, node_at, is_dir, is_leaf, IsFormed}
use Rattle.kb_world.specs.TreeLaws.{same_path, same_path-true, same_path-refl}
use Rattle.kb_world.specs.declared.job.Key.{Key}
use Rattle.kb_world.specs.declared.roots.Roots.{Roots}
use Rattle.kb_world.specs.declared.tree.Node.{Node}
use Rattle.kb_world.proofs.AboveLaws.{above-src, above-below, AreAll, all-append, all-map, each-listed}
use Rattle.kb_world.proofs.FormedLaws.{dir_above}
use Rattle.kb_world.proofs.ListedLaws.{listed-append, listed-reverse, listed-in_order}
use Rattle.kb_world.proofs.NameLaws.{known, begins-append}
use Rattle.kb_world.proofs.OrderLaws.{tree_rises, any-found}
use Rattle.kb_world.proofs.PathLaws.{under-append, under-self, under-split, elsewhere, by_test}
use Rattle.kb_world.proofs.PublicLaws.{written_apart, in_src}
use Rattle.kb_changes.specs.Fit.{IsInOwnRoot, IsPlacedPath, IsFitPut, IsFit, MayStand, coming_paths, is_rooted}
use Rattle.kb_changes.specs.Valid.{all_differ, is_initrd}
use Rattle.kb_changes.proofs.PatchParents.{not_true, or_right, either, behind, below-append, directories-over, found-flat_map, dir_from}
use Rattle.kb_changes.proofs.PatchPlaces.{under-trans, found-filter}
use Rattle.kb_changes.proofs.PatchOwn.{own_placed, own_no_initrd, dirs_own}
use Rattle.kb_changes.proofs.PatchDone.{all_listed, dir_made}
use Rattle.kb_changes.proofs.PatchValid.{all_of}
use Rattle.kb_changes.proofs.PatchMet.{link_below, link_own, IsAboveLink, above_link, link_longer, unblocked_leafless}
use Rattle.kb_changes.proofs.TreePatch.{rising-filter, differ-map, differ-more, found-map, some_is, copied_paths, copied_dirs, copied_leaves, copy_path, copy_at, link_put, copied_stands, IsCopied, dirs_are, puts_are, targets_are, copied, copied_once}

untrue : false ≡ true → ⊥
untrue e = cc

filter-most : {X : Type 0} (test : X → Bool) (xs : List X) → length (filter test xs) ≤ length xs
filter-most test [] = omega arith
filter-most {X} test (x ∷ xs) = by (test x) (filter-most test xs)
  where
    by : (b : Bool) → length (filter test xs) ≤ length xs → length (cond b (x ∷ filter test xs) (filter test xs)) ≤ length (x ∷ xs)
    by true later = omega arith
    by false later = omega arith

leaf_no_dir : (at : Option Node) → is_leaf at ≡ true → is_dir at ≡ true → ⊥
leaf_no_dir at leaf dir = untrue (sym (not_true (is_dir at) (second_so (is_some at) (not (is_dir at)) leaf)) ∙ dir)

-- the roots dkms and src are there, nothing stands at a version's source or its link, and nothing is in the way of the
-- link's directories
pub record HasRoomForCopy (roots : Roots) (key : Key) (tree : Tree) : Type 0 where
  pub formed : IsFormed tree
  pub dkms : is_dir (node_at tree roots.dkms) ≡ true
  pub src : is_dir (node_at tree roots.src) ≡ true
  pub unblocked : add_blocked roots key tree ≡ None
  pub no_link : node_at tree (link_path roots key) ≡ None
  pub no_source : node_at tree (source_path roots key) ≡ None

-- below a path at which nothing stands nothing does either
nothing_below : (tree : Tree) → IsFormed tree → (directory : Path) → node_at tree directory ≡ None → (q : Path) → is_under q directory ≡ true → node_at tree q ≡ None
nothing_below tree formed directory none q under = by (drop (length directory) q) (under-split q directory under) (node_at tree q) refl
  where
    by : (rest : Path) → q ≡ directory ++ rest → (at : Option Node) → node_at tree q ≡ at → node_at tree q ≡ None
    by rest is None e = e
    by [] is (Some at) e = ap (node_at tree) (is ∙ append-nil directory) ∙ none
    by (name ∷ rest) is (Some at) e = absurd (untrue (sym (ap is_dir none) ∙ dir_above tree formed directory name rest (ap (λ p. is_some (node_at tree p)) (sym is) ∙ ap is_some e)))

module _ (roots : Roots) (apart : AreApart roots) (key : Key) (named : is_key key ≡ true) where
  -- ---- below the version's source

  abbrev source : Path
  source = source_path roots key

  abbrev source_name : List ℕ
  source_name = key.module ++ codes "-" ++ key.version

  source_begins : begins_alphanumeric source_name ≡ true
  source_begins = begins-append (key.module ++ codes "-") key.version (begins-append key.module (codes "-") (known key.module (first_so (is_word key.module) (is_version key.version) named)).begins)

  split : (rest : Path) → source ++ rest ≡ roots.src ++ source_name ∷ rest
  split rest = append_assoc roots.src (source_name ∷ []) rest

  below_src : (rest : Path) → is_below (source ++ rest) roots.src ≡ true
  below_src rest = ap (λ p. is_below p roots.src) (split rest) ∙ below-append roots.src source_name rest

  -- what is at or below it is public, whatever stands there
  source_own : (q : Path) → is_under q source ≡ true → IsInOwnRoot roots q
  source_own q under = subst (IsInOwnRoot roots) (sym (under-split q source under)) (record {
    opens = subst (IsAlwaysPublic roots) (sym (split rest)) (in_src roots apart (source_name ∷ rest) source_begins);
    placed = or_right (is_below (source ++ rest) roots.dkms) _ (ap (λ b. b || list_any (is_below (source ++ rest)) (roots.modules ∷ [])) (below_src rest));
  })
    where
      rest : Path
      rest = drop (length source) q

  -- the link isn't below the root of sources
  link_elsewhere : is_under (link_path roots key) roots.src ≡ false
  link_elsewhere = elsewhere (link_path roots key) roots.dkms roots.src (written_apart roots apart).dkms_src (first_so (is_under (link_path roots key) roots.dkms) _ (link_below roots apart key named))

  -- the directories between that root and what is at or below the source are the source and those below it
  above_source : (p q : Path) → is_under p source ≡ true → is_listed q (above roots p) ≡ true → is_under q source ≡ true
  above_source p q under listed = by (drop (length source) p) (sym (ap (is_listed q) (ap (above roots) (under-split p source under ∙ split (drop (length source) p)) ∙ above-src roots (written_apart roots apart).dkms_src (source_name ∷ drop (length source) p))) ∙ listed)
    where
      by : (rest : Path) → is_listed q (directories_to roots.src (source_name ∷ rest)) ≡ true → is_under q source ≡ true
      by [] e = absurd (untrue e)
      by (name ∷ rest) e = elim (either (same_path q source) (is_listed q (directories_to source (name ∷ rest))) e) [
        | inl s ↦ ap (λ p. is_under p source) (same_path-true q source s) ∙ under-self source
        | inr later ↦ first_so (is_under q source) _ (directories-over source (name ∷ rest) q later)
      ]

  module _ (from : Path) (whole : Tree) where
    abbrev patch : Patch
    patch = add_tree_patch roots key from whole

    abbrev targets : List Path
    targets = map (λ (put : Path × Node). put.0) patch.puts

    abbrev copy : Path → Path
    copy = copy_path roots key from

    abbrev paths : List Path
    paths = copied_paths from whole

    abbrev leaves : List Path
    leaves = copied_leaves from whole

    -- ---- what comes

    is_under_source : (o : Path) → is_under (copy o) source ≡ true
    is_under_source o = under-append source (drop (length from) o)

    among_paths : (test : Option Node → Bool) (o : Path) → is_listed o (filter (λ path. test (node_at whole path)) paths) ≡ true → (test (node_at whole o) ≡ true) × (is_listed o paths ≡ true)
    among_paths test o listed = found-filter roots apart (λ path. test (node_at whole path)) paths o listed

    -- the copy of one of these paths
    record IsCopyOf (origins : List Path) (p : Path) : Type 0 where
      origin : Path
      listed : is_listed origin origins ≡ true
      is : p ≡ copy origin

    copy_of : (origins : List Path) (p : Path) → is_listed p (map copy origins) ≡ true → IsCopyOf origins p
    copy_of origins p listed = let found = found-map copy origins p listed in record { origin = found.0; listed = found.1; is = found.2 }

    dir_comes : (p : Path) → is_listed p patch.dirs ≡ true → (p ≡ source) ⊎ IsCopyOf (copied_dirs from whole) p
    dir_comes p listed = elim (either (same_path p source) (is_listed p (map copy (copied_dirs from whole))) (sym (ap (is_listed p) (dirs_are roots key from whole)) ∙ listed)) [
      | inl s ↦ inl (same_path-true p source s)
      | inr later ↦ inr (copy_of (copied_dirs from whole) p later)
    ]

    target_comes : (p : Path) → is_listed p targets ≡ true → IsCopyOf leaves p ⊎ (p ≡ link_path roots key)
    target_comes p listed = by (either (is_listed p (map copy leaves)) (is_listed p (link_path roots key ∷ [])) (sym (ap (is_listed p) (targets_are roots key from whole) ∙ listed-append p (map copy leaves) (link_path roots key ∷ [])) ∙ listed))
      where
        by : (is_listed p (map copy leaves) ≡ true) ⊎ (is_listed p (link_path roots key ∷ []) ≡ true) → IsCopyOf leaves p ⊎ (p ≡ link_path roots key)
        by (inl e) = inl (copy_of leaves p e)
        by (inr e) = elim (either (same_path p (link_path roots key)) false e) [ inl s ↦ inr (same_path-true p (link_path roots key) s) | inr none ↦ absurd (untrue none) ]

    -- a path that comes is the source, a copy, or the link
    data ComesAs (p : Path) : Type 0 where
      as_source : p ≡ source → ComesAs p
      as_copy : IsCopyOf paths p → ComesAs p
      as_link : p ≡ link_path roots key → ComesAs p

    comes_as : (p : Path) → is_listed p (coming_paths patch) ≡ true → ComesAs p
    comes_as p listed = by (either (is_listed p patch.dirs) (is_listed p targets) (sym (listed-append p patch.dirs targets) ∙ listed))
      where
        by : (is_listed p patch.dirs ≡ true) ⊎ (is_listed p targets ≡ true) → ComesAs p
        by (inl e) = elim (dir_comes p e) [
          | inl is ↦ as_source is
          | inr c ↦ as_copy (record { origin = c.origin; listed = (among_paths is_dir c.origin c.listed).1; is = c.is })
        ]
        by (inr e) = elim (target_comes p e) [
          | inl c ↦ as_copy (record { origin = c.origin; listed = (among_paths is_leaf c.origin c.listed).1; is = c.is })
          | inr is ↦ as_link is
        ]

    source_or_link : (p : Path) → ComesAs p → (is_under p source ≡ true) ⊎ (p ≡ link_path roots key)
    source_or_link p (as_source is) = inl (ap (λ x. is_under x source) is ∙ under-self source)
    source_or_link p (as_copy c) = inl (ap (λ x. is_under x source) c.is ∙ is_under_source c.origin)
    source_or_link p (as_link is) = inr is

    comes_own : (p : Path) → ComesAs p → IsInOwnRoot roots p
    comes_own p comes = elim (source_or_link p comes) [
      | inl under ↦ source_own p under
      | inr is ↦ subst (IsInOwnRoot roots) (sym is) (link_own roots apart key named)
    ]

    all_own : AllByRecursion (IsInOwnRoot roots) (coming_paths patch)
    all_own = all_listed (IsInOwnRoot roots) (coming_paths patch) (λ p listed. comes_own p (comes_as p listed))

    -- ---- it may stand

    copies_differ : all_differ (map copy leaves) ≡ true
    copies_differ =
        differ-map copy leaves (rising-filter (λ path. is_leaf (node_at whole path)) paths (rising-filter (λ path. is_below path from) (keys whole) (tree_rises whole)))
        (λ p q lp lq same. copied_once roots key from whole p q (among_paths is_leaf p lp).1 (among_paths is_leaf q lq).1 same)

    link_no_copy : is_listed (link_path roots key) (map copy leaves) ≡ false
    link_no_copy = by_test (is_listed (link_path roots key) (map copy leaves)) (λ e.
        let c = copy_of leaves (link_path roots key) e in
        untrue (sym link_elsewhere ∙ ap (λ p. is_under p roots.src) c.is ∙ first_so (is_under (copy c.origin) roots.src) _ (below_src (drop (length from) c.origin))))

    puts_counted : suc (length (copied_paths from whole)) < 2 ^ 64 → length patch.puts < 2 ^ 64
    puts_counted few =
        let copies = map (copy_at roots key from whole) leaves in
        omega (arith, ap length (puts_are roots key from whole), length-append copies (link_put roots key ∷ []), length-map leaves (copy_at roots key from whole), filter-most (λ path. is_leaf (node_at whole path)) paths)

    pub add_tree_stands : suc (length (copied_paths from whole)) < 2 ^ 64 → MayStand roots (add_tree_patch roots key from whole)
    add_tree_stands few = record {
      drops = tt;
      wipes = tt;
      comes = AreAll (IsInOwnRoot roots) (IsPlacedPath roots) (own_placed roots apart) (coming_paths patch) all_own;
      dirs = by_test (list_any (is_initrd roots) (dirs_of roots patch)) (λ e.
          let found = any-found (is_initrd roots) (dirs_of roots patch) e in
          untrue (sym (own_no_initrd roots apart found.0 (dirs_own roots apart patch all_own found.0 found.2)) ∙ found.1));
      unwiped = all_of (λ path. not (list_any (is_under path) [])) (coming_paths patch) (λ q listed. refl);
      differ = ap all_differ (targets_are roots key from whole) ∙ differ-more (map copy leaves) (link_path roots key) copies_differ link_no_copy;
      kept = all_of (λ path. not (is_listed path (emptied_of roots patch))) targets (λ q listed. ap not (listed-reverse q (in_order []) ∙ listed-in_order q []));
      counted = puts_counted few;
    }

    -- ---- the directories that are made

    -- each is the source or below it, or above the link
    made_where : (q : Path) → is_listed q (dirs_of roots patch) ≡ true → (is_under q source ≡ true) ⊎ IsAboveLink roots apart key named q
    made_where q listed = by (dir_from roots patch q listed)
      where
        above_it : (p : Path) → is_listed q (above roots p) ≡ true → (is_under p source ≡ true) ⊎ (p ≡ link_path roots key) → (is_under q source ≡ true) ⊎ IsAboveLink roots apart key named q
        above_it p e (inl under) = inl (above_source p q under e)
        above_it p e (inr is) = inr (above_link roots apart key named q (sym (ap (λ x. is_listed q (above roots x)) is) ∙ e))

        by : (is_listed q (flat_map (above roots) (coming_paths patch)) ≡ true) ⊎ (is_listed q patch.dirs ≡ true) → (is_under q source ≡ true) ⊎ IsAboveLink roots apart key named q
        by (inl made) = let found = found-flat_map (above roots) (coming_paths patch) q made in above_it found.0 found.2 (source_or_link found.0 (comes_as found.0 found.1))
        by (inr own) = elim (dir_comes q own) [
          | inl is ↦ inl (ap (λ x. is_under x source) is ∙ under-self source)
          | inr c ↦ inl (ap (λ x. is_under x source) c.is ∙ is_under_source c.origin)
        ]

    link_unmade : is_listed (link_path roots key) (dirs_of roots patch) ≡ false
    link_unmade = by_test (is_listed (link_path roots key) (dirs_of roots patch)) (λ listed. elim (made_where (link_path roots key) listed) [
      | inl under ↦ untrue (sym link_elsewhere ∙ under-trans (link_path roots key) source roots.src under (under-append roots.src (source_name ∷ [])))
      | inr over ↦ link_longer roots apart key named over
    ])

    -- where the whole tree is formed, a copy is made as a directory only of one
    copy_made : IsFormed whole → (o : Path) → is_listed o paths ≡ true → is_listed (copy o) (dirs_of roots patch) ≡ true → is_dir (node_at whole o) ≡ true
    copy_made formed o there listed = by (dir_from roots patch (copy o) listed)
      where
        c : IsCopied roots key from o
        c = copied roots key from whole o there

        below_source : is_below (copy o) source ≡ true
        below_source = ap (λ p. is_below p source) c.copy ∙ below-append source c.name c.rest

        above_it : (p : Path) → is_below p (copy o) ≡ true → ComesAs p → is_dir (node_at whole o) ≡ true
        above_it p over (as_source is) = absurd (untrue (sym (not_true (is_under source (copy o)) (second_so (is_under (copy o) source) _ below_source)) ∙ ap (λ x. is_under x (copy o)) (sym is) ∙ first_so (is_under p (copy o)) _ over))
        above_it p over (as_link is) = absurd (untrue (sym link_elsewhere ∙ ap (λ x. is_under x roots.src) (sym is)
            ∙ under-trans p (copy o) roots.src (first_so (is_under p (copy o)) _ over) (first_so (is_under (copy o) roots.src) _ (below_src (drop (length from) o)))))
        above_it p over (as_copy d) =
            let e = copied roots key from whole d.origin d.listed in
            let b = behind p (copy o) over in
            let names : e.name ∷ e.rest ≡ (c.name ∷ c.rest) ++ b.name ∷ b.rest =
            append_cancel_left source (e.name ∷ e.rest) ((c.name ∷ c.rest) ++ b.name ∷ b.rest) (sym e.copy ∙ sym d.is ∙ b.is ∙ ap (λ x. x ++ b.name ∷ b.rest) c.copy ∙ append_assoc source (c.name ∷ c.rest) (b.name ∷ b.rest)) in
            let is : d.origin ≡ o ++ b.name ∷ b.rest = e.is ∙ ap (λ x. from ++ x) names ∙ sym (append_assoc from (c.name ∷ c.rest) (b.name ∷ b.rest)) ∙ ap (λ x. x ++ b.name ∷ b.rest) (sym c.is) in
            dir_above whole formed o b.name b.rest (ap (λ x. is_some (node_at whole x)) (sym is) ∙ each-listed (λ x. is_some (node_at whole x) ≡ true) paths (copied_stands roots key from whole) d.origin d.listed)

        by : (is_listed (copy o) (flat_map (above roots) (coming_paths patch)) ≡ true) ⊎ (is_listed (copy o) patch.dirs ≡ true) → is_dir (node_at whole o) ≡ true
        by (inl made) = let found = found-flat_map (above roots) (coming_paths patch) (copy o) made in above_it found.0 (above-below roots found.0 (copy o) found.2) (comes_as found.0 found.1)
        by (inr own) = elim (dir_comes (copy o) own) [
          | inl is ↦ absurd (untrue (sym (not_true (is_under source (copy o)) (second_so (is_under (copy o) source) _ below_source)) ∙ ap (is_under source) is ∙ under-self source))
          | inr d ↦ (let dir = among_paths is_dir d.origin d.listed in ap (λ x. is_dir (node_at whole x)) (copied_once roots key from whole o d.origin there dir.1 d.is) ∙ dir.0)
        ]

    -- ---- it fits

    module _ (formed : IsFormed whole) (tree : Tree) (room : HasRoomForCopy roots key tree) where
      free_source : (q : Path) → is_under q source ≡ true → node_at tree q ≡ None
      free_source q under = nothing_below tree room.formed source room.no_source q under

      copy_fits : (o : Path) → is_listed o leaves ≡ true → IsFitPut roots patch tree (copy_at roots key from whole o)
      copy_fits o listed =
          let leaf = among_paths is_leaf o listed in
          record {
            opens = (source_own (copy o) (is_under_source o)).opens;
            leaf = ap is_leaf (some_is (node_at whole o) (first_so (is_some (node_at whole o)) _ leaf.0)) ∙ leaf.0;
            free = ap is_dir (free_source (copy o) (is_under_source o));
            no_dir = by_test (is_listed (copy o) (dirs_of roots patch)) (λ made. leaf_no_dir (node_at whole o) leaf.0 (copy_made formed o leaf.1 made));
          }

      link_fits : IsFitPut roots patch tree (link_put roots key)
      link_fits = record { opens = (link_own roots apart key named).opens; leaf = refl; free = ap is_dir room.no_link; no_dir = link_unmade }

      source_rooted : (p : Path) → is_under p source ≡ true → is_rooted roots tree p ≡ true
      source_rooted p under =
          or_right (is_below p roots.dkms && is_dir (node_at tree roots.dkms)) _
          (ap (λ b. b || list_any (λ root. is_below p root && is_dir (node_at tree root)) (roots.modules ∷ roots.boot ∷ []))
          (both_true (ap (λ x. is_below x roots.src) (under-split p source under) ∙ below_src (drop (length source) p)) room.src))

      rooted : (p : Path) → (is_under p source ≡ true) ⊎ (p ≡ link_path roots key) → is_rooted roots tree p ≡ true
      rooted p (inl under) = source_rooted p under
      rooted p (inr is) =
          ap (λ b. b || list_any (λ root. is_below p root && is_dir (node_at tree root)) (roots.src ∷ roots.modules ∷ roots.boot ∷ []))
          (both_true (ap (λ x. is_below x roots.dkms) is ∙ link_below roots apart key named) room.dkms)

      pub add_tree_fits : suc (length (copied_paths from whole)) < 2 ^ 64 → IsFit roots (add_tree_patch roots key from whole) tree
      add_tree_fits few = record {
        formed = room.formed;
        drops = tt;
        wipes = tt;
        dirs = λ q listed. record {
          opens = (dirs_own roots apart patch all_own q listed).opens;
          free = elim (made_where q listed) [
            | inl under ↦ ap is_leaf (free_source q under)
            | inr over ↦ unblocked_leafless roots apart key named tree room.unblocked q over
          ];
        };
        puts = subst (AllByRecursion (IsFitPut roots patch tree)) (sym (puts_are roots key from whole))
            (all-append (IsFitPut roots patch tree) (map (copy_at roots key from whole) leaves) (link_put roots key ∷ [])
            (all-map (IsFitPut roots patch tree) (copy_at roots key from whole) leaves (all_listed (λ o. IsFitPut roots patch tree (copy_at roots key from whole o)) leaves copy_fits)) (link_fits, tt));
        rooted = all_listed (λ p. is_rooted roots tree p ≡ true) (coming_paths patch) (λ p listed. rooted p (source_or_link p (comes_as p listed)));
        counted = puts_counted few;
      }

    -- ---- what it makes

    -- once it is done the version's source is a directory
    pub source_made : (tree : Tree) → IsFit roots (add_tree_patch roots key from whole) tree → is_dir (node_at (patched roots (add_tree_patch roots key from whole) (public_tree roots tree)) (source_path roots key)) ≡ true
    source_made tree fit = dir_made roots patch tree fit source made (listed-reverse source (in_order []) ∙ listed-in_order source [])
      where
        made : is_listed source (dirs_of roots patch) ≡ true
        made =
            listed-in_order source (flat_map (above roots) (coming_paths patch) ++ patch.dirs) ∙ listed-append source (flat_map (above roots) (coming_paths patch)) patch.dirs
            ∙ or_right (is_listed source (flat_map (above roots) (coming_paths patch))) (is_listed source patch.dirs)
            (ap (is_listed source) (dirs_are roots key from whole) ∙ ap (λ b. b || is_listed source (map copy (copied_dirs from whole))) (same_path-refl source))
