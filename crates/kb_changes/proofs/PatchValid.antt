-- The changes of a patch are valid by facts of its lists.
use Rattle.std.proofs.Common.{◌≡◌, ◌⊎◌, ℕ, ◌<◌, ◌^◌, Bool, true, false, cond, ◌&&◌, ◌||◌, not, List, [], ◌∷◌, ◌++◌, length, drop, map, filter_map, Option, Some, None, is_some, codes, refl, sym, ap, ◌∙◌, inl, inr, append_assoc, arith, length-append}
use Rattle.std.proofs.lemmas.List.Folds.{list_any-append, list_all-append}
use Rattle.std.specs.Prelude.{bytes_eq, filter, flat_map}
use Rattle.std.specs.List.{list_all, list_any, AllByRecursion}
use Rattle.std.specs.Option.{option_or}
use Rattle.std.specs.Cmp.{first_so, second_so}
use Rattle.std.specs.Cmp.Derive.{both_true}
use Rattle.std.specs.Cmp.Lexicographic.{pointwise}
use Rattle.std.specs.declared.cmp.Ordering.TheVariants.{Less}
use Rattle.kb_world.specs.Index.{depmod_request}
use Rattle.kb_world.specs.Names.{is_kernel}
use Rattle.kb_world.specs.Path.{Path, path_cmp, child, is_under}
use Rattle.kb_world.specs.Patch.{Patch, above, dirs_of, emptied_of, in_order, is_listed, put_at}
use Rattle.kb_world.specs.Roots.{AreApart, is_below}
use Rattle.kb_world.specs.Targets.{last_name}
use Rattle.kb_world.specs.Tree.{sole, name_in}
use Rattle.kb_world.specs.TreeLaws.{same_path, same_path-true, same_path-refl, same_path-false}
use Rattle.kb_world.specs.View.{index_names}
use Rattle.kb_world.specs.declared.child.Request.{Request}
use Rattle.kb_world.specs.declared.roots.Roots.{Roots}
use Rattle.kb_world.specs.declared.tree.Node.{Node}
use Rattle.kb_world.proofs.PathLaws.{under-append, under-self, under-split, elsewhere, drop-front, by_test}
use Rattle.kb_world.proofs.PublicLaws.{written_apart}
use Rattle.kb_world.proofs.AboveLaws.{above-below, above-dkms, AreAll, all-append, each-listed}
use Rattle.kb_world.proofs.ListedLaws.{listed-append, listed-reverse, listed-in_order, neither}
use Rattle.kb_world.proofs.OrderLaws.{IsRising, IsFalling, in_order_rises, reverse-falls, below-rises, less-once, any-found, any-of}
use Rattle.kb_changes.specs.Change.{root_path, staged_path}
use Rattle.kb_changes.specs.Changes.{root_of, nodes_below, numbered_puts, drops_of, scratches, changes_of}
use Rattle.kb_changes.specs.Fit.{IsPlacedPath, MayStand, IsFitRequest, idle, indexing}
use Rattle.kb_changes.specs.Groups.{staged_of, drops_in, wipes_in, drop_dirs_in, first_drop_dirs, second_drop_dirs, dirs_in, targets_in, runs_in}
use Rattle.kb_changes.specs.Valid.{deepest_first, deepest_last, is_among_paths, none_among, none_under, none_below, all_differ, is_version_dir, is_scratch_wiped, written_roots, new_intent_path, kept_out_paths, is_kept_out, is_initrd_name, is_initrd, is_changeable, is_well_placed, is_kernel_name, same_paths, is_fit_area, is_fit_run, are_ordered, are_targets_kept, are_dirs_kept, are_well_placed, are_fit_runs, is_valid}
use Rattle.kb_changes.specs.declared.change.Change.{Change}
use Rattle.kb_changes.specs.declared.change.Change.TheVariants.{Dir, Put, Drop, DropDir, Wipe, Run}
use Rattle.kb_changes.specs.declared.change.RootName.{RootName}
use Rattle.kb_changes.proofs.PatchGroups.{grouped, groups_in_order, drops_are, wipes_are, dirs_are, targets_are, staged_are, drop_dirs_are, runs_are, one_group}
use Rattle.kb_changes.proofs.PatchParents.{or_right, either, not_true, found-flat_map, dir_from, nth_listed, rooted_at, directories-over, below-append, below-trans}
use Rattle.kb_changes.proofs.PatchPuts.{root-under, staged_apart, open_no_private, count-most, count-grows, own_node, below-append-nodes}
use Rattle.kb_changes.proofs.PatchDone.{self_listed, drops_listed}
use Rattle.kb_changes.proofs.PatchPlaces.{any_scratch, scratch_from, under-trans, child-under, scratch_private, listed_root, found-filter}

untrue : false ≡ true → ⊥
untrue e = cc

-- ---- tests of lists

pub all_of : (test : Path → Bool) (paths : List Path) → ((q : Path) → is_listed q paths ≡ true → test q ≡ true) → list_all test paths ≡ true
all_of test [] each = refl
all_of test (path ∷ paths) each =
    both_true (each path (ap (λ b. b || is_listed path paths) (same_path-refl path))) (all_of test paths (λ q listed. each q (or_right (same_path q path) (is_listed q paths) listed)))

of_all : (test : Path → Bool) (paths : List Path) (q : Path) → list_all test paths ≡ true → is_listed q paths ≡ true → test q ≡ true
of_all test [] q h e = absurd (untrue e)
of_all test (path ∷ paths) q h e = by (either (same_path q path) (is_listed q paths) e) (λ later. of_all test paths q (second_so (test path) (list_all test paths) h) later)
  where
    by : (same_path q path ≡ true) ⊎ (is_listed q paths ≡ true) → (is_listed q paths ≡ true → test q ≡ true) → test q ≡ true
    by (inl s) more = ap test (same_path-true q path s) ∙ first_so (test path) (list_all test paths) h
    by (inr later) more = more later

-- ---- order

falling-first : (paths : List Path) → IsFalling paths → deepest_first paths ≡ true
falling-first [] f = refl
falling-first (path ∷ paths) f =
    both_true (all_of (λ later. not (is_below later path)) paths (λ q listed. ap not (by_test (is_below q path) (λ below.
    less-once q path (each-listed (λ later. path_cmp later path ≡ Less) paths f.0 q listed) (below-rises q path below))))) (falling-first paths f.1)

rising-last : (paths : List Path) → IsRising paths → deepest_last paths ≡ true
rising-last [] r = refl
rising-last (path ∷ paths) r =
    both_true (all_of (λ later. not (is_below path later)) paths (λ q listed. ap not (by_test (is_below path q) (λ below.
    less-once path q (each-listed (λ later. path_cmp path later ≡ Less) paths r.0 q listed) (below-rises path q below))))) (rising-last paths r.1)

-- ---- targets

target_put : (puts : List (Path × Node)) (q : Path) → is_listed q (map (λ (put : Path × Node). put.0) puts) ≡ true → is_some (put_at q puts) ≡ true
target_put [] q e = absurd (untrue e)
target_put (put ∷ puts) q e = by (put_at q puts) refl (either (same_path q put.0) (is_listed q (map (λ (p : Path × Node). p.0) puts)) e) (λ later. target_put puts q later)
  where
    by : (o : Option Node) → put_at q puts ≡ o → (same_path q put.0 ≡ true) ⊎ (is_listed q (map (λ (p : Path × Node). p.0) puts) ≡ true) → (is_listed q (map (λ (p : Path × Node). p.0) puts) ≡ true → is_some (put_at q puts) ≡ true)
        → is_some (option_or (put_at q puts) (cond (same_path q put.0) (Some put.1) None)) ≡ true
    by (Some at) o e more = ap (λ x. is_some (option_or x (cond (same_path q put.0) (Some put.1) None))) o
    by None o (inl s) more = ap (λ x. is_some (option_or x (cond (same_path q put.0) (Some put.1) None))) o ∙ ap (λ b. is_some (cond b (Some put.1) None)) s
    by None o (inr later) more = absurd (untrue (sym (ap is_some o) ∙ more later))

module _ (roots : Roots) (apart : AreApart roots) where
  -- the staged places of later puts are others
  later_differ : (root : RootName) (number : ℕ) (earlier puts : List (Path × Node)) → number < length (nodes_below roots root earlier) → length (earlier ++ puts) < 2 ^ 64
      → is_among_paths (filter_map (staged_of roots) (numbered_puts roots earlier puts)) (staged_path roots root number) ≡ false
  later_differ root number earlier [] behind few = refl
  later_differ root number earlier (put ∷ puts) behind few =
      neither (same_path (staged_path roots root number) (staged_path roots own place)) _
      (same_path-false (staged_path roots root number) (staged_path roots own place) (staged_apart roots apart root own number place
      (omega (arith, count-most roots root earlier, length-append earlier (put ∷ puts))) (omega (arith, count-most roots own earlier, length-append earlier (put ∷ puts)))
      (λ one same. later one same)))
      (later_differ root number (earlier ++ put ∷ []) puts (omega (arith, count-grows roots root earlier (put ∷ []))) (omega (arith, ap length (append_assoc earlier (put ∷ []) puts))))
    where
      own : RootName
      own = root_of roots put.0

      place : ℕ
      place = length (nodes_below roots own earlier)

      later : root ≡ own → number ≡ place → ⊥
      later one same = let counts : length (nodes_below roots root earlier) ≡ place = ap (λ x. length (nodes_below roots x earlier)) one in absurd (omega arith)

  staged_differ : (earlier puts : List (Path × Node)) → length (earlier ++ puts) < 2 ^ 64 → all_differ (filter_map (staged_of roots) (numbered_puts roots earlier puts)) ≡ true
  staged_differ earlier [] few = refl
  staged_differ earlier (put ∷ puts) few =
      both_true (ap not (later_differ root number (earlier ++ put ∷ []) puts more few_more)) (staged_differ (earlier ++ put ∷ []) puts few_more)
    where
      root : RootName
      root = root_of roots put.0

      number : ℕ
      number = length (nodes_below roots root earlier)

      more : number < length (nodes_below roots root (earlier ++ put ∷ []))
      more = omega (arith, ap length (below-append-nodes roots root earlier (put ∷ [])), length-append (nodes_below roots root earlier) (nodes_below roots root (put ∷ [])), ap length (own_node roots put []))

      few_more : length ((earlier ++ put ∷ []) ++ puts) < 2 ^ 64
      few_more = omega (arith, ap length (append_assoc earlier (put ∷ []) puts))

-- ---- paths that a change may speak of

record Parts (roots : Roots) (path : Path) : Type 0 where
  below : list_any (is_below path) (written_roots roots) ≡ true
  no_kept : is_kept_out roots path ≡ false
  no_new : is_under path (new_intent_path roots) ≡ false
  no_initrd : is_initrd roots path ≡ false

parts_of : (roots : Roots) (path : Path) → is_changeable roots path ≡ true → Parts roots path
parts_of roots path h = by (list_any (is_below path) (written_roots roots)) (is_kept_out roots path) (is_under path (new_intent_path roots)) (is_initrd roots path) refl refl refl refl h
  where
    by : (a b c d : Bool) → list_any (is_below path) (written_roots roots) ≡ a → is_kept_out roots path ≡ b → is_under path (new_intent_path roots) ≡ c → is_initrd roots path ≡ d → (a && not b && not c && not d) ≡ true → Parts roots path
    by true false false false p q r s h = record { below = p; no_kept = q; no_new = r; no_initrd = s }
    by false b c d p q r s h = absurd (untrue h)
    by true true c d p q r s h = absurd (untrue h)
    by true false true d p q r s h = absurd (untrue h)
    by true false false true p q r s h = absurd (untrue h)

of_parts : (roots : Roots) (path : Path) → Parts roots path → is_changeable roots path ≡ true
of_parts roots path p = by (list_any (is_below path) (written_roots roots)) (is_kept_out roots path) (is_under path (new_intent_path roots)) (is_initrd roots path) p.below p.no_kept p.no_new p.no_initrd
  where
    by : (a b c d : Bool) → a ≡ true → b ≡ false → c ≡ false → d ≡ false → (a && not b && not c && not d) ≡ true
    by a b c d p q r s = (λ i. p i && not (q i) && not (r i) && not (s i))

-- a directory over such a path is kept from what is kept out too
over_kept : (roots : Roots) (path directory : Path) → is_under path directory ≡ true → is_kept_out roots path ≡ false → is_kept_out roots directory ≡ false
over_kept roots path directory under kept = by_test (is_kept_out roots directory) (λ e.
    let found = any-found (is_under directory) (kept_out_paths roots) e in
    untrue (sym kept ∙ any-of (is_under path) (kept_out_paths roots) found.0 (under-trans path directory found.0 under found.1) found.2))

over_new : (roots : Roots) (path directory : Path) → is_under path directory ≡ true → is_under path (new_intent_path roots) ≡ false → is_under directory (new_intent_path roots) ≡ false
over_new roots path directory under new = by_test (is_under directory (new_intent_path roots)) (λ e. untrue (sym new ∙ under-trans path directory (new_intent_path roots) under e))

-- ---- names behind a directory

last-child : (directory : Path) (name : List ℕ) → last_name (child directory name) ≡ name
last-child [] name = refl
last-child (n ∷ []) name = refl
last-child (n ∷ m ∷ directory) name = last-child (m ∷ directory) name

-- what is kept out has other names than a scratch tree
kept_names : (roots : Roots) → list_all (λ path. not (bytes_eq (last_name path) (codes "build"))) (kept_out_paths roots) ≡ true
kept_names roots =
    both_true (ap named (last-child roots.dkms (codes ".intent")))
    (both_true (ap named (last-child roots.dkms (codes ".kb-staged"))) (both_true (ap named (last-child roots.src (codes ".kb-staged")))
    (both_true (ap named (last-child roots.modules (codes ".kb-staged"))) (both_true (ap named (last-child roots.boot (codes ".kb-staged"))) refl))))
  where
    named : List ℕ → Bool
    named name = not (bytes_eq name (codes "build"))

named_build : (directory path : Path) → not (bytes_eq (last_name path) (codes "build")) ≡ true → child directory (codes "build") ≡ path → ⊥
named_build directory path other same = untrue (sym (ap (λ p. not (bytes_eq (last_name p) (codes "build"))) (sym same) ∙ ap (λ n. not (bytes_eq n (codes "build"))) (last-child directory (codes "build"))) ∙ other)

-- ---- children

index_fits : (roots : Roots) (drops : List Path) (kernel : List ℕ) → is_kernel kernel ≡ true → list_all (λ name. is_among_paths drops (child (child roots.modules kernel) name)) index_names ≡ true → is_fit_run roots drops (depmod_request roots kernel) ≡ true
index_fits roots drops kernel named dropped = all (is_kernel_name (name_in roots.modules (child roots.modules kernel))) (pointwise bytes_eq index_names index_names) (same_path roots.base roots.base)
    (same_paths (child roots.modules kernel ∷ []) (child roots.modules kernel ∷ [])) (list_all (λ name. is_among_paths drops (child (child roots.modules kernel) name)) index_names)
    (ap (λ b. is_kernel_name (cond b (sole (drop (length roots.modules) (child roots.modules kernel))) None)) (under-append roots.modules (kernel ∷ [])) ∙ ap (λ n. is_kernel_name (sole n)) (drop-front roots.modules (kernel ∷ [])) ∙ named)
    refl (same_path-refl roots.base) (ap (λ b. b && true) (same_path-refl (child roots.modules kernel))) dropped
  where
    all : (a b c d e : Bool) → a ≡ true → b ≡ true → c ≡ true → d ≡ true → e ≡ true → (a && b && c && d && e) ≡ true
    all a b c d e p q r s t = λ i. p i && q i && r i && s i && t i

all_mapped : (test : Path → Bool) (f : List ℕ → Path) (names : List (List ℕ)) → ((q : Path) → is_listed q (map f names) ≡ true → test q ≡ true) → list_all (λ name. test (f name)) names ≡ true
all_mapped test f [] each = refl
all_mapped test f (name ∷ names) each =
    both_true (each (f name) (ap (λ b. b || is_listed (f name) (map f names)) (same_path-refl (f name)))) (all_mapped test f names (λ q listed. each q (or_right (same_path q (f name)) (is_listed q (map f names)) listed)))

-- ---- all of it

module _ (roots : Roots) (apart : AreApart roots) (patch : Patch) (may : MayStand roots patch) where
  abbrev targets : List Path
  targets = map (λ (put : Path × Node). put.0) patch.puts

  abbrev sources : List Path
  sources = patch.dirs ++ map (λ (put : Path × Node). put.0) patch.puts

  abbrev dirs : List Path
  dirs = dirs_of roots patch

  abbrev emptied : List Path
  emptied = emptied_of roots patch

  abbrev wipes : List Path
  wipes = patch.wipes ++ scratches roots emptied

  source_placed : (q : Path) → is_listed q sources ≡ true → IsPlacedPath roots q
  source_placed q listed = each-listed (IsPlacedPath roots) sources may.comes q listed

  target_source : (q : Path) → is_listed q targets ≡ true → is_listed q sources ≡ true
  target_source q listed = listed-append q patch.dirs targets ∙ or_right (is_listed q patch.dirs) (is_listed q targets) listed

  -- no source is at or below what is wiped
  source_free : (q : Path) → is_listed q sources ≡ true → list_any (is_under q) wipes ≡ false
  source_free q listed =
      list_any-append (is_under q) patch.wipes (scratches roots emptied)
      ∙ neither (list_any (is_under q) patch.wipes) (list_any (is_under q) (scratches roots emptied))
      (not_true (list_any (is_under q) patch.wipes) (of_all (λ path. not (list_any (is_under path) patch.wipes)) sources q may.unwiped listed))
      (by_test (list_any (is_under q) (scratches roots emptied)) (λ e. open_no_private roots q (source_placed q listed).opens (scratch_private roots emptied q e)))

  -- a directory that is made is a source, or above one and below a root
  pub record MadeFrom (q : Path) : Type 0 where
    pub source : Path
    pub listed : is_listed source sources ≡ true
    pub over : is_under source q ≡ true
    pub below : list_any (is_below q) (written_roots roots) ≡ true

  below_any : (q root : Path) → is_listed root (written_roots roots) ≡ true → is_below q root ≡ true → list_any (is_below q) (written_roots roots) ≡ true
  below_any q root listed below = any-of (is_below q) (written_roots roots) root below listed

  made_from : (q : Path) → is_listed q dirs ≡ true → MadeFrom q
  made_from q listed = by (dir_from roots patch q listed)
    where
      with_true : (path : Path) → list_any (is_below path) (written_roots roots) ≡ true → list_any (λ root. is_below path root && true) (written_roots roots) ≡ true
      with_true path h = let found = any-found (is_below path) (written_roots roots) h in any-of (λ root. is_below path root && true) (written_roots roots) found.0 (both_true found.1 refl) found.2

      by : (is_listed q (flat_map (above roots) sources) ≡ true) ⊎ (is_listed q patch.dirs ≡ true) → MadeFrom q
      by (inl made) =
          let found = found-flat_map (above roots) sources q made in
          let r = rooted_at roots apart (λ root. true) found.0 (with_true found.0 (parts_of roots found.0 (source_placed found.0 found.1).placed).below) in
          record {
            source = found.0;
            listed = found.1;
            over = first_so (is_under found.0 q) _ (above-below roots found.0 q found.2);
            below = below_any q r.root r.written (directories-over r.root (drop (length r.root) found.0) q (sym (ap (is_listed q) r.above_is) ∙ found.2));
          }
      by (inr own) =
          let there : is_listed q sources ≡ true = listed-append q patch.dirs targets ∙ ap (λ b. b || is_listed q targets) own in
          record { source = q; listed = there; over = under-self q; below = (parts_of roots q (source_placed q there).placed).below }

  dir_free : (q : Path) → is_listed q dirs ≡ true → list_any (is_under q) wipes ≡ false
  dir_free q listed = by_test (list_any (is_under q) wipes) (λ e.
      let m = made_from q listed in
      let found = any-found (is_under q) wipes e in
      untrue (sym (source_free m.source m.listed) ∙ any-of (is_under m.source) wipes found.0 (under-trans m.source q found.0 m.over found.1) found.2))

  dir_placed : (q : Path) → is_listed q dirs ≡ true → is_changeable roots q ≡ true
  dir_placed q listed =
      let m = made_from q listed in
      let p = parts_of roots m.source (source_placed m.source m.listed).placed in
      of_parts roots q (record {
        below = m.below;
        no_kept = over_kept roots m.source q m.over p.no_kept;
        no_new = over_new roots m.source q m.over p.no_new;
        no_initrd = by_test (is_initrd roots q) (λ e. untrue (sym may.dirs ∙ any-of (is_initrd roots) dirs q e listed));
      })

  -- a directory that goes once it is empty is below the dkms root, above what goes
  no_initrd : (q : Path) → is_under q roots.dkms ≡ true → is_initrd roots q ≡ false
  no_initrd q under = ap (λ b. is_initrd_name (cond b (sole (drop (length roots.boot) q)) None)) (elsewhere q roots.dkms roots.boot (written_apart roots apart).dkms_boot under)

  emptied_placed : (q : Path) → is_listed q emptied ≡ true → Parts roots q × (is_below q roots.dkms ≡ true)
  emptied_placed q listed = (
    record {
      below = below_any q roots.dkms (nth_listed (written_roots roots) 0 roots.dkms refl) below;
      no_kept = over_kept roots p q over (parts_of roots p placed).no_kept;
      no_new = over_new roots p q over (parts_of roots p placed).no_new;
      no_initrd = no_initrd q (first_so (is_under q roots.dkms) _ below);
    },
    below,
  )
    where
      gone : List Path
      gone = filter (λ path. is_under path roots.dkms) (patch.drops ++ patch.wipes)

      found : (p : Path) × (is_listed p gone ≡ true) × (is_listed q (above roots p) ≡ true)
      found = found-flat_map (above roots) gone q (sym (listed-reverse q (in_order (flat_map (above roots) gone)) ∙ listed-in_order q (flat_map (above roots) gone)) ∙ listed)

      p : Path
      p = found.0

      passed : (is_under p roots.dkms ≡ true) × (is_listed p (patch.drops ++ patch.wipes) ≡ true)
      passed = found-filter roots apart (λ path. is_under path roots.dkms) (patch.drops ++ patch.wipes) p found.1

      placed : is_changeable roots p ≡ true
      placed = (each-listed (IsPlacedPath roots) (patch.drops ++ patch.wipes) (all-append (IsPlacedPath roots) patch.drops patch.wipes may.drops may.wipes) p passed.1).placed

      over : is_under p q ≡ true
      over = first_so (is_under p q) _ (above-below roots p q found.2)

      below : is_below q roots.dkms ≡ true
      below =
          directories-over roots.dkms (drop (length roots.dkms) p) q
          (sym (ap (λ x. is_listed q (above roots x)) (under-split p roots.dkms passed.0) ∙ ap (is_listed q) (above-dkms roots (drop (length roots.dkms) p))) ∙ found.2)

  scratch_placed : (q : Path) → is_listed q (scratches roots emptied) ≡ true → is_changeable roots q ≡ true
  scratch_placed q listed =
      let from = scratch_from roots emptied q listed in
      let e = emptied_placed from.0 from.1 in
      let below = below-trans (child from.0 (codes "build")) from.0 roots.dkms (below-append from.0 (codes "build") []) e.1 in
      ap (is_changeable roots) from.2 ∙ of_parts roots (child from.0 (codes "build")) (record {
        below = below_any (child from.0 (codes "build")) roots.dkms (nth_listed (written_roots roots) 0 roots.dkms refl) below;
        no_kept = by_test (is_kept_out roots (child from.0 (codes "build"))) (λ h.
            let k = any-found (is_under (child from.0 (codes "build"))) (kept_out_paths roots) h in
            elim (child-under from.0 (codes "build") k.0 k.1) as (λ _. ⊥) [
              | inl over ↦ untrue (sym e.0.no_kept ∙ any-of (is_under from.0) (kept_out_paths roots) k.0 over k.2)
              | inr same ↦ named_build from.0 k.0 (of_all (λ path. not (bytes_eq (last_name path) (codes "build"))) (kept_out_paths roots) k.0 (kept_names roots) k.2) same
            ]);
        no_new = by_test (is_under (child from.0 (codes "build")) (new_intent_path roots)) (λ h.
            elim (child-under from.0 (codes "build") (new_intent_path roots) h) as (λ _. ⊥) [
              | inl over ↦ untrue (sym e.0.no_new ∙ over)
              | inr same ↦ named_build from.0 (new_intent_path roots) (ap (λ n. not (bytes_eq n (codes "build"))) (last-child roots.dkms (codes ".intent.new"))) same
            ]);
        no_initrd = no_initrd (child from.0 (codes "build")) (first_so (is_under (child from.0 (codes "build")) roots.dkms) _ below);
      })

  well_placed_put : (q : Path) (number : ℕ) → is_listed q sources ≡ true → is_well_placed roots (Put (root_of roots q) number q) ≡ true
  well_placed_put q number listed =
      let placed = (source_placed q listed).placed in
      let found = any-found (is_below q) (written_roots roots) (parts_of roots q placed).below in
      let name = listed_root roots found.0 found.2 in
      let below : is_below q (root_path roots name.0) ≡ true = ap (is_below q) (sym name.1) ∙ found.1 in
      both_true placed (ap (λ r. is_below q (root_path roots r)) (root-under roots apart name.0 q (first_so (is_under q (root_path roots name.0)) _ below)) ∙ below)

  puts_placed : (earlier puts : List (Path × Node)) → AllByRecursion (λ (put : Path × Node). is_listed put.0 sources ≡ true) puts → list_all (is_well_placed roots) (numbered_puts roots earlier puts) ≡ true
  puts_placed earlier [] listed = refl
  puts_placed earlier (put ∷ puts) listed = both_true (well_placed_put put.0 (length (nodes_below roots (root_of roots put.0) earlier)) listed.0) (puts_placed (earlier ++ put ∷ []) puts listed.1)

  module _ (requests : List Request) (fits : AllByRecursion (IsFitRequest roots patch) requests) where
    abbrev changes : List Change
    changes = grouped roots (drops_of patch) wipes dirs patch.puts emptied requests

    emptied_falls : deepest_first emptied ≡ true
    emptied_falls = falling-first emptied (reverse-falls (in_order gone) (in_order_rises gone))
      where
        gone : List Path
        gone = flat_map (above roots) (filter (λ path. is_under path roots.dkms) (patch.drops ++ patch.wipes))

    ordered : are_ordered changes ≡ true
    ordered = by (one_group roots (drops_of patch) wipes dirs patch.puts emptied requests)
      where
        last_dirs : deepest_last (dirs_in changes) ≡ true
        last_dirs = ap deepest_last (dirs_are roots (drops_of patch) wipes dirs patch.puts emptied requests) ∙ rising-last dirs (in_order_rises (flat_map (above roots) sources ++ patch.dirs))

        all : (a b c d : Bool) → a ≡ true → b ≡ true → c ≡ true → d ≡ true → (a && b && c && d) ≡ true
        all a b c d p q r s = λ i. p i && q i && r i && s i

        by : ((first_drop_dirs changes ≡ []) × (second_drop_dirs changes ≡ emptied)) ⊎ ((first_drop_dirs changes ≡ emptied) × (second_drop_dirs changes ≡ [])) → are_ordered changes ≡ true
        by (inl g) = all _ _ _ _ (groups_in_order requests roots emptied patch.puts (drops_of patch) wipes dirs) (ap deepest_first g.0) (ap deepest_first g.1 ∙ emptied_falls) last_dirs
        by (inr g) = all _ _ _ _ (groups_in_order requests roots emptied patch.puts (drops_of patch) wipes dirs) (ap deepest_first g.0 ∙ emptied_falls) (ap deepest_first g.1) last_dirs

    targets_kept : are_targets_kept roots changes ≡ true
    targets_kept = all _ _ _ _ _ unwiped undropped (second (one_group roots (drops_of patch) wipes dirs patch.puts emptied requests)) (ap all_differ is_targets ∙ may.differ)
        (ap all_differ (staged_are roots (drops_of patch) wipes dirs patch.puts emptied requests) ∙ staged_differ roots apart [] patch.puts may.counted)
      where
        all : (a b c d e : Bool) → a ≡ true → b ≡ true → c ≡ true → d ≡ true → e ≡ true → (a && b && c && d && e) ≡ true
        all a b c d e p q r s t = λ i. p i && q i && r i && s i && t i

        is_targets : targets_in changes ≡ targets
        is_targets = targets_are roots (drops_of patch) wipes dirs patch.puts emptied requests

        unwiped : none_under (wipes_in changes) (targets_in changes) ≡ true
        unwiped =
            ap (λ w. none_under w (targets_in changes)) (wipes_are roots (drops_of patch) wipes dirs patch.puts emptied requests) ∙ ap (none_under wipes) is_targets
            ∙ all_of (λ path. not (list_any (is_under path) wipes)) targets (λ q listed. ap not (source_free q (target_source q listed)))

        undropped : none_among (drops_in changes) (targets_in changes) ≡ true
        undropped =
            ap (λ d. none_among d (targets_in changes)) (drops_are roots (drops_of patch) wipes dirs patch.puts emptied requests) ∙ ap (none_among (drops_of patch)) is_targets
            ∙ all_of (λ path. not (is_among_paths (drops_of patch) path)) targets (λ q listed. ap not (by_test (is_among_paths (drops_of patch) q) (λ e.
            untrue (sym (not_true (is_some (put_at q patch.puts)) (found-filter roots apart (λ path. not (is_some (put_at path patch.puts))) patch.drops q e).0) ∙ target_put patch.puts q listed))))

        second : ((first_drop_dirs changes ≡ []) × (second_drop_dirs changes ≡ emptied)) ⊎ ((first_drop_dirs changes ≡ emptied) × (second_drop_dirs changes ≡ [])) → none_among (second_drop_dirs changes) (targets_in changes) ≡ true
        second (inl g) = ap (λ e. none_among e (targets_in changes)) g.1 ∙ ap (none_among emptied) is_targets ∙ may.kept
        second (inr g) = ap (λ e. none_among e (targets_in changes)) g.1 ∙ all_of (λ path. not (is_among_paths [] path)) (targets_in changes) (λ q listed. refl)

    dirs_kept : are_dirs_kept roots changes ≡ true
    dirs_kept = all _ _ _ unwiped (apart_groups (one_group roots (drops_of patch) wipes dirs patch.puts emptied requests)) scratched
      where
        all : (a b c : Bool) → a ≡ true → b ≡ true → c ≡ true → (a && b && c) ≡ true
        all a b c p q r = λ i. p i && q i && r i

        unwiped : none_under (wipes_in changes) (dirs_in changes) ≡ true
        unwiped =
            ap (λ w. none_under w (dirs_in changes)) (wipes_are roots (drops_of patch) wipes dirs patch.puts emptied requests) ∙ ap (none_under wipes) (dirs_are roots (drops_of patch) wipes dirs patch.puts emptied requests)
            ∙ all_of (λ path. not (list_any (is_under path) wipes)) dirs (λ q listed. ap not (dir_free q listed))

        apart_groups : ((first_drop_dirs changes ≡ []) × (second_drop_dirs changes ≡ emptied)) ⊎ ((first_drop_dirs changes ≡ emptied) × (second_drop_dirs changes ≡ [])) → none_below (first_drop_dirs changes) (second_drop_dirs changes) ≡ true
        apart_groups (inl g) = ap (λ f. none_below f (second_drop_dirs changes)) g.0 ∙ all_of (λ path. not (list_any (is_below path) [])) (second_drop_dirs changes) (λ q listed. refl)
        apart_groups (inr g) = ap (none_below (first_drop_dirs changes)) g.1

        scratched : list_all (is_scratch_wiped roots (wipes_in changes)) (drop_dirs_in changes) ≡ true
        scratched =
            ap (λ w. list_all (is_scratch_wiped roots w) (drop_dirs_in changes)) (wipes_are roots (drops_of patch) wipes dirs patch.puts emptied requests)
            ∙ ap (list_all (is_scratch_wiped roots wipes)) (drop_dirs_are roots (drops_of patch) wipes dirs patch.puts emptied requests)
            ∙ all_of (is_scratch_wiped roots wipes) emptied (λ q listed. by q listed (is_version_dir roots q) refl)
          where
            by : (q : Path) → is_listed q emptied ≡ true → (b : Bool) → is_version_dir roots q ≡ b → is_scratch_wiped roots wipes q ≡ true
            by q listed false v = ap (λ b. not b || is_among_paths wipes (child q (codes "build"))) v
            by q listed true v =
                or_right (not (is_version_dir roots q)) (is_among_paths wipes (child q (codes "build")))
                (list_any-append (same_path (child q (codes "build"))) patch.wipes (scratches roots emptied)
                ∙ or_right (is_listed (child q (codes "build")) patch.wipes) _ (any_scratch roots (same_path (child q (codes "build"))) emptied q v listed (same_path-refl (child q (codes "build")))))

    placed : are_well_placed roots changes ≡ true
    placed =
        list_all-append (is_well_placed roots) (map Drop (drops_of patch) ++ (map Wipe wipes ++ (map Dir dirs ++ (numbered_puts roots [] patch.puts ++ map DropDir emptied)))) (map Run requests)
        ∙ both_true (
        list_all-append (is_well_placed roots) (map Drop (drops_of patch)) (map Wipe wipes ++ (map Dir dirs ++ (numbered_puts roots [] patch.puts ++ map DropDir emptied)))
        ∙ both_true (each Drop (drops_of patch) (all_of (is_changeable roots) (drops_of patch) drop_placed)) (
        list_all-append (is_well_placed roots) (map Wipe wipes) (map Dir dirs ++ (numbered_puts roots [] patch.puts ++ map DropDir emptied))
        ∙ both_true (each Wipe wipes (all_of (is_changeable roots) wipes wipe_placed)) (
        list_all-append (is_well_placed roots) (map Dir dirs) (numbered_puts roots [] patch.puts ++ map DropDir emptied)
        ∙ both_true (each Dir dirs (all_of (is_changeable roots) dirs dir_placed)) (
        list_all-append (is_well_placed roots) (numbered_puts roots [] patch.puts) (map DropDir emptied)
        ∙ both_true (puts_placed [] patch.puts (AreAll (λ (p : Path × Node). is_listed p.0 targets ≡ true) (λ (p : Path × Node). is_listed p.0 sources ≡ true) (λ p listed. target_source p.0 listed) patch.puts (self_listed patch.puts)))
        (each DropDir emptied (all_of (is_changeable roots) emptied (λ q listed. of_parts roots q (emptied_placed q listed).0)))))))
        (runs requests)
      where
        each : (make : Path → Change) (paths : List Path) → list_all (λ p. is_well_placed roots (make p)) paths ≡ true → list_all (is_well_placed roots) (map make paths) ≡ true
        each make [] h = refl
        each make (p ∷ paths) h = both_true (first_so (is_well_placed roots (make p)) _ h) (each make paths (second_so (is_well_placed roots (make p)) _ h))

        drop_placed : (q : Path) → is_listed q (drops_of patch) ≡ true → is_changeable roots q ≡ true
        drop_placed q listed = (each-listed (IsPlacedPath roots) patch.drops may.drops q (found-filter roots apart (λ path. not (is_some (put_at path patch.puts))) patch.drops q listed).1).placed

        wipe_placed : (q : Path) → is_listed q wipes ≡ true → is_changeable roots q ≡ true
        wipe_placed q listed = elim (either (is_listed q patch.wipes) (is_listed q (scratches roots emptied)) (sym (listed-append q patch.wipes (scratches roots emptied)) ∙ listed)) as (λ _. is_changeable roots q ≡ true) [
          | inl own ↦ (each-listed (IsPlacedPath roots) patch.wipes may.wipes q own).placed
          | inr scratch ↦ scratch_placed q scratch
        ]

        runs : (rs : List Request) → list_all (is_well_placed roots) (map Run rs) ≡ true
        runs [] = refl
        runs (r ∷ rs) = runs rs

    run_fits : (rs : List Request) → AllByRecursion (IsFitRequest roots patch) rs → list_all (is_fit_run roots (drops_of patch)) rs ≡ true
    run_fits [] h = refl
    run_fits (r ∷ rs) h = both_true (one h.0) (run_fits rs h.1)
      where
        one : IsFitRequest roots patch r → is_fit_run roots (drops_of patch) r ≡ true
        one (idle e) = ap (is_fit_area roots (drops_of patch) r) e
        one (indexing x) =
            ap (is_fit_run roots (drops_of patch)) x.asked
            ∙ index_fits roots (drops_of patch) x.kernel x.named (all_mapped (is_among_paths (drops_of patch)) (child (child roots.modules x.kernel)) index_names (λ q listed.
            drops_listed patch q (x.dropped q listed).1 ∙ (x.dropped q listed).0))

    runs_fit : are_fit_runs roots changes ≡ true
    runs_fit =
        ap (λ d. list_all (is_fit_run roots d) (runs_in changes)) (drops_are roots (drops_of patch) wipes dirs patch.puts emptied requests)
        ∙ ap (list_all (is_fit_run roots (drops_of patch))) (runs_are roots (drops_of patch) wipes dirs patch.puts emptied requests) ∙ run_fits requests fits

    pub patch_is_valid : is_valid roots (changes_of roots patch ++ map Run requests) ≡ true
    unfolding changes_of
    patch_is_valid = all _ _ _ _ _ ordered targets_kept dirs_kept placed runs_fit
      where
        all : (a b c d e : Bool) → a ≡ true → b ≡ true → c ≡ true → d ≡ true → e ≡ true → (a && b && c && d && e) ≡ true
        all a b c d e p q r s t = λ i. p i && q i && r i && s i && t i
