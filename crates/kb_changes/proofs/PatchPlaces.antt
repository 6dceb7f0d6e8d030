-- Where the paths of a fitting patch lie: none over a root or over what is staged, and none that goes is private.
use Rattle.std.proofs.Common.{◌≡◌, ◌⊎◌, ℕ, ◌+◌, Bool, true, false, cond, ◌&&◌, ◌||◌, not, List, [], ◌∷◌, ◌++◌, length, drop, map, nat_eq, Option, Some, None, codes, refl, sym, ap, ◌∙◌, inl, inr, append_assoc}
use Rattle.std.specs.Prelude.{bytes_eq, filter, flat_map}
use Rattle.std.specs.List.{list_any, AllByRecursion}
use Rattle.std.specs.Fmt.{decimal}
use Rattle.std.specs.Cmp.{first_so, second_so}
use Rattle.std.specs.Cmp.Derive.{both_true}
use Rattle.std.specs.Cmp.Lexicographic.{bytes_decides}
use Rattle.kb_world.specs.Path.{Path, child, is_under, are_apart}
use Rattle.kb_world.specs.Tree.{is_dir}
use Rattle.kb_world.specs.TreeLaws.{same_path, same_path-true, same_path-refl}
use Rattle.kb_world.specs.Public.{IsAlwaysPublic, IsNeverForeign, is_public, is_private, is_loose, staging_path, private_places}
use Rattle.kb_world.specs.Roots.{AreApart, is_below}
use Rattle.kb_world.specs.StorePath.{key_of, store_path, path_of, is_in_scratch}
use Rattle.kb_world.specs.Patch.{Patch, above, emptied_of, in_order, is_listed}
use Rattle.kb_world.specs.declared.roots.Roots.{Roots}
use Rattle.kb_world.specs.declared.store_path.StorePath.{StorePath}
use Rattle.kb_world.specs.declared.store_path.StorePath.TheVariants.{InScratch, SourceLink, Targets, InBox, KernelLink, InChest}
use Rattle.kb_world.specs.declared.tree.Node.{Node}
use Rattle.kb_world.proofs.PathLaws.{under-append, under-self, under-split, elsewhere, by_test}
use Rattle.kb_world.proofs.PublicLaws.{written_apart}
use Rattle.kb_world.proofs.StorePathLaws.{told_both, place_there}
use Rattle.kb_world.proofs.OrderLaws.{any-found, any-of}
use Rattle.kb_world.proofs.ListedLaws.{listed-append, listed-reverse, listed-in_order}
use Rattle.kb_world.proofs.AboveLaws.{above-below, above-dkms, each-listed}
use Rattle.kb_changes.specs.Change.{root_path, staged_path}
use Rattle.kb_changes.specs.Changes.{scratches}
use Rattle.kb_changes.specs.Valid.{is_version_dir, are_version_names, written_roots}
use Rattle.kb_changes.specs.Fit.{IsInOwnRoot}
use Rattle.kb_changes.specs.declared.change.RootName.{RootName}
use Rattle.kb_changes.specs.declared.change.RootName.TheVariants as root_name
use Rattle.kb_changes.proofs.PatchParents.{not_true, or_right, nth_listed, either, found-flat_map, directories-over, modules_boot}
use Rattle.kb_changes.proofs.PatchForeign.{public-own, private-own}
use Rattle.kb_changes.proofs.PatchPuts.{root-under, staged_private, open_no_private}

untrue : false ≡ true → ⊥
untrue e = cc

-- ---- paths under one another

pub under-trans : (p q s : Path) → is_under p q ≡ true → is_under q s ≡ true → is_under p s ≡ true
under-trans p q s h k =
    ap (λ x. is_under x s) (under-split p q h ∙ ap (λ x. x ++ drop (length q) p) (under-split q s k) ∙ append_assoc s (drop (length s) q) (drop (length q) p))
    ∙ under-append s (drop (length s) q ++ drop (length q) p)

pub under-both : (a b : Path) → is_under a b ≡ true → is_under b a ≡ true → a ≡ b
under-both [] [] h k = refl
under-both [] (n ∷ b) h k = absurd (untrue h)
under-both (m ∷ a) [] h k = absurd (untrue k)
under-both (m ∷ a) (n ∷ b) h k =
    let first : m ≡ n = (bytes_decides m n).0 (first_so (bytes_eq m n) (is_under b a) k) in
    let rest = under-both a b (second_so (bytes_eq n m) (is_under a b) h) (second_so (bytes_eq m n) (is_under b a) k) in λ i. first i ∷ rest i

-- a directory over an entry is that entry, or over the directory that it stands in
pub child-under : (directory : Path) (name : List ℕ) (p : Path) → is_under (child directory name) p ≡ true → (is_under directory p ≡ true) ⊎ (child directory name ≡ p)
child-under directory name [] h = inl refl
child-under [] name (n ∷ []) h = inr (ap (λ x. x ∷ []) (sym ((bytes_decides n name).0 (first_so (bytes_eq n name) _ h))))
child-under [] name (n ∷ m ∷ p) h = absurd (untrue (second_so (bytes_eq n name) _ h))
child-under (m ∷ directory) name (n ∷ p) h =
    elim (child-under directory name p (second_so (bytes_eq n m) _ h)) [
      | inl over ↦ inl (both_true (first_so (bytes_eq n m) _ h) over)
      | inr same ↦ inr (let is : m ≡ n = sym ((bytes_decides n m).0 (first_so (bytes_eq n m) _ h)) in λ i. is i ∷ same i)
    ]

-- ---- what is private

pub private_down : (roots : Roots) (q p : Path) → is_private roots q ≡ true → is_under p q ≡ true → is_private roots p ≡ true
private_down roots q p private under = by (either (list_any (is_under q) (private_places roots)) (is_in_scratch (store_path roots q)) private)
  where
    scratched : (told : Option StorePath) → store_path roots q ≡ told → is_in_scratch told ≡ true → is_in_scratch (store_path roots p) ≡ true
    scratched (Some (InScratch key rest)) e h =
        let both = told_both roots q (InScratch key rest) e in
        let is : p ≡ path_of roots (InScratch key (rest ++ drop (length q) p)) =
        under-split p q under ∙ ap (λ x. x ++ drop (length q) p) (sym both.1) ∙ append_assoc roots.dkms (key.module ∷ key.version ∷ codes "build" ∷ rest) (drop (length q) p) in
        ap (λ x. is_in_scratch (store_path roots x)) is ∙ ap is_in_scratch (place_there roots (InScratch key (rest ++ drop (length q) p)) both.0)
    scratched (Some (SourceLink key)) e h = absurd (untrue h)
    scratched (Some (Targets key spot)) e h = absurd (untrue h)
    scratched (Some (InBox key spot rest)) e h = absurd (untrue h)
    scratched (Some (KernelLink word spot)) e h = absurd (untrue h)
    scratched (Some (InChest word spot rest)) e h = absurd (untrue h)
    scratched None e h = absurd (untrue h)

    by : (list_any (is_under q) (private_places roots) ≡ true) ⊎ (is_in_scratch (store_path roots q) ≡ true) → is_private roots p ≡ true
    by (inl place) =
        let found = any-found (is_under q) (private_places roots) place in
        ap (λ b. b || is_in_scratch (store_path roots p)) (any-of (is_under p) (private_places roots) found.0 (under-trans p q found.0 under found.1) found.2)
    by (inr scratch) = or_right (list_any (is_under p) (private_places roots)) (is_in_scratch (store_path roots p)) (scratched (store_path roots q) refl scratch)

-- a scratch tree of a version among these
pub scratch_private : (roots : Roots) (paths : List Path) (q : Path) → list_any (is_under q) (scratches roots paths) ≡ true → is_private roots q ≡ true
scratch_private roots [] q e = absurd (untrue e)
scratch_private roots (path ∷ paths) q e = by (is_version_dir roots path) refl e (λ later. scratch_private roots paths q later)
  where
    here : (names : Path) → are_version_names names ≡ true → path ≡ roots.dkms ++ names → is_under q (child path (codes "build")) ≡ true → is_private roots q ≡ true
    here [] named is under = absurd (untrue named)
    here (w ∷ []) named is under = absurd (untrue named)
    here (w ∷ v ∷ m ∷ r) named is under = absurd (untrue named)
    here (w ∷ v ∷ []) named is under =
        let scratch : child path (codes "build") ≡ path_of roots (InScratch (key_of w v) []) = ap (λ p. child p (codes "build")) is ∙ append_assoc roots.dkms (w ∷ v ∷ []) (codes "build" ∷ []) in
        private_down roots (path_of roots (InScratch (key_of w v) [])) q
        (or_right (list_any (is_under (path_of roots (InScratch (key_of w v) []))) (private_places roots)) _ (ap is_in_scratch (place_there roots (InScratch (key_of w v) []) named)))
        (ap (is_under q) (sym scratch) ∙ under)

    by : (b : Bool) → is_version_dir roots path ≡ b → list_any (is_under q) (map (λ p. child p (codes "build")) (cond b (path ∷ filter (is_version_dir roots) paths) (filter (is_version_dir roots) paths))) ≡ true
        → (list_any (is_under q) (scratches roots paths) ≡ true → is_private roots q ≡ true) → is_private roots q ≡ true
    by false v e later = later e
    by true v e later =
        elim (either (is_under q (child path (codes "build"))) (list_any (is_under q) (scratches roots paths)) e) [
          | inl under ↦ here (drop (length roots.dkms) path) (second_so (is_under path roots.dkms) _ v) (under-split path roots.dkms (first_so (is_under path roots.dkms) _ v)) under
          | inr more ↦ later more
        ]

-- the scratch tree of a version among these is one of them
pub scratch_listed : (roots : Roots) (paths : List Path) (path q : Path) → is_version_dir roots path ≡ true → is_listed path paths ≡ true → is_under q (child path (codes "build")) ≡ true → list_any (is_under q) (scratches roots paths) ≡ true
scratch_listed roots [] path q v listed under = absurd (untrue listed)
scratch_listed roots (p ∷ paths) path q v listed under = by (is_version_dir roots p) refl (either (same_path path p) (is_listed path paths) listed) (λ later. scratch_listed roots paths path q v later under)
  where
    by : (b : Bool) → is_version_dir roots p ≡ b → (same_path path p ≡ true) ⊎ (is_listed path paths ≡ true) → (is_listed path paths ≡ true → list_any (is_under q) (scratches roots paths) ≡ true)
        → list_any (is_under q) (map (λ x. child x (codes "build")) (cond b (p ∷ filter (is_version_dir roots) paths) (filter (is_version_dir roots) paths))) ≡ true
    by true e (inl s) more = ap (λ b. b || list_any (is_under q) (scratches roots paths)) (ap (λ x. is_under q (child x (codes "build"))) (sym (same_path-true path p s)) ∙ under)
    by false e (inl s) more = absurd (untrue (sym e ∙ ap (is_version_dir roots) (sym (same_path-true path p s)) ∙ v))
    by true e (inr later) more = or_right (is_under q (child p (codes "build"))) (list_any (is_under q) (scratches roots paths)) (more later)
    by false e (inr later) more = more later

-- what is in one of the scratch trees is in the directory of its version
pub scratch_of : (roots : Roots) (paths : List Path) (q : Path) → list_any (is_under q) (scratches roots paths) ≡ true → (path : Path) × (is_listed path paths ≡ true) × (is_under q path ≡ true)
scratch_of roots [] q e = absurd (untrue e)
scratch_of roots (p ∷ paths) q e = by (is_version_dir roots p) e (λ later. scratch_of roots paths q later)
  where
    behind_it : (path : Path) × (is_listed path paths ≡ true) × (is_under q path ≡ true) → (path : Path) × (is_listed path (p ∷ paths) ≡ true) × (is_under q path ≡ true)
    behind_it found = (found.0, or_right (same_path found.0 p) (is_listed found.0 paths) found.1, found.2)

    by : (b : Bool) → list_any (is_under q) (map (λ x. child x (codes "build")) (cond b (p ∷ filter (is_version_dir roots) paths) (filter (is_version_dir roots) paths))) ≡ true
        → (list_any (is_under q) (scratches roots paths) ≡ true → (path : Path) × (is_listed path paths ≡ true) × (is_under q path ≡ true)) → (path : Path) × (is_listed path (p ∷ paths) ≡ true) × (is_under q path ≡ true)
    by false e later = behind_it (later e)
    by true e later =
        elim (either (is_under q (child p (codes "build"))) (list_any (is_under q) (scratches roots paths)) e) [
          | inl under ↦ (p, ap (λ b. b || is_listed p paths) (same_path-refl p), under-trans q (child p (codes "build")) p under (under-append p (codes "build" ∷ [])))
          | inr more ↦ behind_it (later more)
        ]

-- a test that the scratch tree of a version among these passes
pub any_scratch : (roots : Roots) (test : Path → Bool) (paths : List Path) (path : Path) → is_version_dir roots path ≡ true → is_listed path paths ≡ true → test (child path (codes "build")) ≡ true → list_any test (scratches roots paths) ≡ true
any_scratch roots test [] path v listed h = absurd (untrue listed)
any_scratch roots test (p ∷ paths) path v listed h = by (is_version_dir roots p) refl (either (same_path path p) (is_listed path paths) listed) (λ later. any_scratch roots test paths path v later h)
  where
    by : (b : Bool) → is_version_dir roots p ≡ b → (same_path path p ≡ true) ⊎ (is_listed path paths ≡ true) → (is_listed path paths ≡ true → list_any test (scratches roots paths) ≡ true)
        → list_any test (map (λ x. child x (codes "build")) (cond b (p ∷ filter (is_version_dir roots) paths) (filter (is_version_dir roots) paths))) ≡ true
    by true e (inl s) more = ap (λ b. b || list_any test (scratches roots paths)) (ap (λ x. test (child x (codes "build"))) (sym (same_path-true path p s)) ∙ h)
    by false e (inl s) more = absurd (untrue (sym e ∙ ap (is_version_dir roots) (sym (same_path-true path p s)) ∙ v))
    by true e (inr later) more = or_right (test (child p (codes "build"))) (list_any test (scratches roots paths)) (more later)
    by false e (inr later) more = more later

-- what is one of the scratch trees is a version's
pub scratch_from : (roots : Roots) (paths : List Path) (q : Path) → is_listed q (scratches roots paths) ≡ true → (path : Path) × (is_listed path paths ≡ true) × (q ≡ child path (codes "build"))
scratch_from roots [] q e = absurd (untrue e)
scratch_from roots (p ∷ paths) q e = by (is_version_dir roots p) e (λ later. scratch_from roots paths q later)
  where
    behind_it : (path : Path) × (is_listed path paths ≡ true) × (q ≡ child path (codes "build")) → (path : Path) × (is_listed path (p ∷ paths) ≡ true) × (q ≡ child path (codes "build"))
    behind_it found = (found.0, or_right (same_path found.0 p) (is_listed found.0 paths) found.1, found.2)

    by : (b : Bool) → is_listed q (map (λ x. child x (codes "build")) (cond b (p ∷ filter (is_version_dir roots) paths) (filter (is_version_dir roots) paths))) ≡ true
        → (is_listed q (scratches roots paths) ≡ true → (path : Path) × (is_listed path paths ≡ true) × (q ≡ child path (codes "build"))) → (path : Path) × (is_listed path (p ∷ paths) ≡ true) × (q ≡ child path (codes "build"))
    by false e later = behind_it (later e)
    by true e later =
        elim (either (same_path q (child p (codes "build"))) (is_listed q (scratches roots paths)) e) [
          | inl s ↦ (p, ap (λ b. b || is_listed p paths) (same_path-refl p), same_path-true q (child p (codes "build")) s)
          | inr more ↦ behind_it (later more)
        ]

-- ---- roots

pub listed_root : (roots : Roots) (path : Path) → is_listed path (written_roots roots) ≡ true → (root : RootName) × (path ≡ root_path roots root)
listed_root roots path e = dkms (either (same_path path roots.dkms) _ e)
  where
    boot : (same_path path roots.boot ≡ true) ⊎ (false ≡ true) → (r : RootName) × (path ≡ root_path roots r)
    boot (inl s) = (root_name.Boot, same_path-true path roots.boot s)
    boot (inr none) = absurd (untrue none)

    modules : (same_path path roots.modules ≡ true) ⊎ (is_listed path (roots.boot ∷ []) ≡ true) → (r : RootName) × (path ≡ root_path roots r)
    modules (inl s) = (root_name.Modules, same_path-true path roots.modules s)
    modules (inr more) = boot (either (same_path path roots.boot) false more)

    src : (same_path path roots.src ≡ true) ⊎ (is_listed path (roots.modules ∷ roots.boot ∷ []) ≡ true) → (r : RootName) × (path ≡ root_path roots r)
    src (inl s) = (root_name.Src, same_path-true path roots.src s)
    src (inr more) = modules (either (same_path path roots.modules) _ more)

    dkms : (same_path path roots.dkms ≡ true) ⊎ (is_listed path (roots.src ∷ roots.modules ∷ roots.boot ∷ []) ≡ true) → (r : RootName) × (path ≡ root_path roots r)
    dkms (inl s) = (root_name.Dkms, same_path-true path roots.dkms s)
    dkms (inr more) = src (either (same_path path roots.src) _ more)

module _ (roots : Roots) (apart : AreApart roots) where
  -- no root is under a path below a root
  pub root-over : (root own : RootName) (path : Path) → is_below path (root_path roots own) ≡ true → is_under (root_path roots root) path ≡ false
  root-over root own path below = by_test (is_under (root_path roots root) path) (λ over.
      let under = under-trans (root_path roots root) path (root_path roots own) over (first_so (is_under path (root_path roots own)) _ below) in
      let same : root ≡ own = sym (root-under roots apart root (root_path roots root) (under-self (root_path roots root))) ∙ root-under roots apart own (root_path roots root) under in
      untrue (sym (not_true (is_under (root_path roots own) path) (second_so (is_under path (root_path roots own)) _ below)) ∙ ap (λ r. is_under (root_path roots r) path) (sym same) ∙ over))

  staging_private : (root : RootName) → is_private roots (staging_path (root_path roots root)) ≡ true
  staging_private root = ap (λ b. b || is_in_scratch (store_path roots (staging_path (root_path roots root)))) (any-of (is_under (staging_path (root_path roots root))) (private_places roots) (staging_path (root_path roots root)) (under-self (staging_path (root_path roots root))) (listed root))
    where
      listed : (r : RootName) → is_listed (staging_path (root_path roots r)) (private_places roots) ≡ true
      listed root_name.Dkms = nth_listed (private_places roots) 2 (staging_path roots.dkms) refl
      listed root_name.Src = nth_listed (private_places roots) 3 (staging_path roots.src) refl
      listed root_name.Modules = nth_listed (private_places roots) 4 (staging_path roots.modules) refl
      listed root_name.Boot = nth_listed (private_places roots) 5 (staging_path roots.boot) refl

  -- nothing staged is under a public path below a root
  pub staged-over : (root own : RootName) (number : ℕ) (path : Path) → IsAlwaysPublic roots path → is_below path (root_path roots own) ≡ true → is_under (staged_path roots root number) path ≡ false
  staged-over root own number path opens below = by_test (is_under (staged_path roots root number) path) (λ over.
      elim (child-under (staging_path (root_path roots root)) (decimal number) path over) as (λ _. ⊥) [
        | inr same ↦ open_no_private roots path opens (ap (is_private roots) (sym same) ∙ staged_private roots root number)
        | inl staging ↦ elim (child-under (root_path roots root) (codes ".kb-staged") path staging) as (λ _. ⊥) [
          | inr same ↦ open_no_private roots path opens (ap (is_private roots) (sym same) ∙ staging_private root)
          | inl whole ↦ untrue (sym (root-over root own path below) ∙ whole)
        ]
      ])

  -- a wiped path is below a root, and nothing under it is foreign
  pub record WipePlace (path : Path) : Type 0 where
    pub own : RootName
    pub below : is_below path (root_path roots own) ≡ true
    pub no_boot : (q : Path) → is_under q path ≡ true → is_under q roots.boot ≡ false

  pub wipe_place : (path : Path) → IsInOwnRoot roots path → WipePlace path
  wipe_place path w = dkms (either (is_below path roots.dkms) _ w.placed)
    where
      no_boot : (root : Path) → are_apart root roots.boot ≡ true → is_below path root ≡ true → (q : Path) → is_under q path ≡ true → is_under q roots.boot ≡ false
      no_boot root away below q under = elsewhere q root roots.boot away (under-trans q path root under (first_so (is_under path root) _ below))

      modules : (is_below path roots.modules ≡ true) ⊎ (false ≡ true) → WipePlace path
      modules (inl b) = record { own = root_name.Modules; below = b; no_boot = no_boot roots.modules (modules_boot roots apart) b }
      modules (inr none) = absurd (untrue none)

      src : (is_below path roots.src ≡ true) ⊎ (list_any (is_below path) (roots.modules ∷ []) ≡ true) → WipePlace path
      src (inl b) = record { own = root_name.Src; below = b; no_boot = no_boot roots.src (written_apart roots apart).src_boot b }
      src (inr more) = modules (either (is_below path roots.modules) false more)

      dkms : (is_below path roots.dkms ≡ true) ⊎ (list_any (is_below path) (roots.src ∷ roots.modules ∷ []) ≡ true) → WipePlace path
      dkms (inl b) = record { own = root_name.Dkms; below = b; no_boot = no_boot roots.dkms (written_apart roots apart).dkms_boot b }
      dkms (inr more) = src (either (is_below path roots.src) _ more)

  -- what lies under a root that is written, but the boot root, isn't foreign
  pub public_there : (q : Path) (at : Option Node) → list_any (is_under q) (written_roots roots) ≡ true → is_under q roots.boot ≡ false → is_private roots q ≡ false → is_public roots q at ≡ true
  public_there q at rooted no_boot private =
      ap (λ b. b && not (is_private roots q) && not (is_loose roots q at)) rooted ∙ ap (λ b. true && not b && not (is_loose roots q at)) private
      ∙ ap (λ b. true && not false && not (b && nat_eq (length q) (length roots.boot + 1) && not (is_dir at))) no_boot

  pub under_own : (q : Path) → list_any (is_under q) (written_roots roots) ≡ true → is_under q roots.boot ≡ false → IsNeverForeign roots q
  under_own q rooted no_boot = by (is_private roots q) refl
    where
      by : (b : Bool) → is_private roots q ≡ b → IsNeverForeign roots q
      by true e = private-own roots q e
      by false e = public-own roots q (λ at. public_there q at rooted no_boot e)

  root_listed : (own : RootName) → is_listed (root_path roots own) (written_roots roots) ≡ true
  root_listed root_name.Dkms = nth_listed (written_roots roots) 0 roots.dkms refl
  root_listed root_name.Src = nth_listed (written_roots roots) 1 roots.src refl
  root_listed root_name.Modules = nth_listed (written_roots roots) 2 roots.modules refl
  root_listed root_name.Boot = nth_listed (written_roots roots) 3 roots.boot refl

  pub wiped_own : (path : Path) → WipePlace path → (q : Path) → is_under q path ≡ true → IsNeverForeign roots q
  wiped_own path w q under =
      under_own q (any-of (is_under q) (written_roots roots) (root_path roots w.own) (under-trans q path (root_path roots w.own) under (first_so (is_under path (root_path roots w.own)) _ w.below)) (root_listed w.own)) (w.no_boot q under)

  -- ---- directories that may be left empty

  pub found-filter : (test : Path → Bool) (paths : List Path) (q : Path) → is_listed q (filter test paths) ≡ true → (test q ≡ true) × (is_listed q paths ≡ true)
  found-filter test [] q e = absurd (untrue e)
  found-filter test (p ∷ paths) q e = by (test p) refl e (λ later. found-filter test paths q later)
    where
      by : (b : Bool) → test p ≡ b → is_listed q (cond b (p ∷ filter test paths) (filter test paths)) ≡ true → (is_listed q (filter test paths) ≡ true → (test q ≡ true) × (is_listed q paths ≡ true))
          → (test q ≡ true) × (is_listed q (p ∷ paths) ≡ true)
      by false t e later = let found = later e in (found.0, or_right (same_path q p) (is_listed q paths) found.1)
      by true t e later =
          elim (either (same_path q p) (is_listed q (filter test paths)) e) [
            | inl s ↦ (ap test (same_path-true q p s) ∙ t, ap (λ b. b || is_listed q paths) s)
            | inr more ↦ (let found = later more in (found.0, or_right (same_path q p) (is_listed q paths) found.1))
          ]

  pub record EmptiedPlace (path : Path) : Type 0 where
    pub opens : IsAlwaysPublic roots path
    pub below : is_below path roots.dkms ≡ true

  pub emptied_place : (patch : Patch) → AllByRecursion (IsAlwaysPublic roots) patch.drops → AllByRecursion (IsInOwnRoot roots) patch.wipes → (q : Path) → is_listed q (emptied_of roots patch) ≡ true → EmptiedPlace q
  emptied_place patch drops wipes q listed = record {
    opens = λ at. public_there q at (ap (λ b. b || list_any (is_under q) (roots.src ∷ roots.modules ∷ roots.boot ∷ [])) under) (elsewhere q roots.dkms roots.boot (written_apart roots apart).dkms_boot under)
        (by_test (is_private roots q) (λ private. open_no_private roots p opens (private_down roots q p private (first_so (is_under p q) _ (above-below roots p q found.2)))));
    below = below;
  }
    where
      gone : List Path
      gone = filter (λ path. is_under path roots.dkms) (patch.drops ++ patch.wipes)

      found : (p : Path) × (is_listed p gone ≡ true) × (is_listed q (above roots p) ≡ true)
      found = found-flat_map (above roots) gone q (sym (listed-reverse q (in_order (flat_map (above roots) gone)) ∙ listed-in_order q (flat_map (above roots) gone)) ∙ listed)

      p : Path
      p = found.0

      passed : (is_under p roots.dkms ≡ true) × (is_listed p (patch.drops ++ patch.wipes) ≡ true)
      passed = found-filter (λ path. is_under path roots.dkms) (patch.drops ++ patch.wipes) p found.1

      opens : IsAlwaysPublic roots p
      opens = elim (either (is_listed p patch.drops) (is_listed p patch.wipes) (sym (listed-append p patch.drops patch.wipes) ∙ passed.1)) [
        | inl dropped ↦ each-listed (IsAlwaysPublic roots) patch.drops drops p dropped
        | inr wiped ↦ (each-listed (IsInOwnRoot roots) patch.wipes wipes p wiped).opens
      ]

      below : is_below q roots.dkms ≡ true
      below =
          directories-over roots.dkms (drop (length roots.dkms) p) q
          (sym (ap (λ x. is_listed q (above roots x)) (under-split p roots.dkms passed.0) ∙ ap (is_listed q) (above-dkms roots (drop (length roots.dkms) p))) ∙ found.2)

      under : is_under q roots.dkms ≡ true
      under = first_so (is_under q roots.dkms) _ below
