-- Directories that go with a patch are left empty in the whole tree exactly where they are in the public one.
use Rattle.std.proofs.Common.{◌≡◌, ◌⊎◌, ℕ, Bool, true, false, cond, ◌&&◌, ◌||◌, not, List, [], ◌∷◌, ◌++◌, Option, Some, None, is_some, codes, refl, sym, ap, ◌∙◌, inl, inr, append_assoc}
use Rattle.std.proofs.lemmas.List.Folds.{list_any-append}
use Rattle.std.specs.List.{list_any, AllByRecursion}
use Rattle.std.specs.FinMap.{keys, remove, contains_key-keys}
use Rattle.std.specs.Cmp.{first_so}
use Rattle.std.specs.Cmp.Derive.{both_true}
use Rattle.kb_world.specs.Names.{is_word, is_version}
use Rattle.kb_world.specs.Path.{Path, child, is_under}
use Rattle.kb_world.specs.Tree.{Tree, node_at, is_dir, IsFormed}
use Rattle.kb_world.specs.TreeLaws.{same_path, same_path-true, same_path-refl, node_at-remove}
use Rattle.kb_world.specs.Public.{IsAlwaysPublic, is_public, is_private, intent_path, staging_path, private_places, public_tree}
use Rattle.kb_world.specs.Roots.{AreApart, is_below}
use Rattle.kb_world.specs.StorePath.{key_of, store_path, is_in_scratch}
use Rattle.kb_world.specs.Patch.{is_listed, tidied}
use Rattle.kb_world.specs.declared.roots.Roots.{Roots}
use Rattle.kb_world.specs.declared.store_path.StorePath.{StorePath}
use Rattle.kb_world.specs.declared.store_path.StorePath.TheVariants.{InScratch, SourceLink, Targets, InBox, KernelLink, InChest}
use Rattle.kb_world.specs.declared.tree.Node.{Node}
use Rattle.kb_world.proofs.NameLaws.{known}
use Rattle.kb_world.proofs.PathLaws.{under-append, under-self, elsewhere, comparable, by_test, drop-front}
use Rattle.kb_world.proofs.PublicLaws.{written_apart, in_dkms, shown, node_at-public_tree}
use Rattle.kb_world.proofs.FormedLaws.{dir_stands, dir_above}
use Rattle.kb_world.proofs.StorePathLaws.{told_both, place_there, link_no_scratch}
use Rattle.kb_world.proofs.OrderLaws.{any-found, any-of}
use Rattle.kb_world.proofs.PatchLaws.{tidied-apart}
use Rattle.kb_changes.specs.Changes.{scratches}
use Rattle.kb_changes.specs.Valid.{is_version_dir, are_version_names, written_roots}
use Rattle.kb_changes.specs.declared.change.RootName.TheVariants as root_name
use Rattle.kb_changes.proofs.PatchParents.{or_right, either}
use Rattle.kb_changes.proofs.PatchPublic.{IsPlain, ArePlain}
use Rattle.kb_changes.proofs.PatchPuts.{open_no_private}
use Rattle.kb_changes.proofs.PatchPlaces.{under-trans, under-both, child-under, private_down, scratch_listed, listed_root, root-over, public_there, EmptiedPlace}

untrue : false ≡ true → ⊥
untrue e = cc

-- ---- what is private below a directory that may go

-- the private places stand directly in a root
private_place : (roots : Roots) (path : Path) → is_listed path (private_places roots) ≡ true → (root : Path) × (name : List ℕ) × (path ≡ child root name) × (is_listed root (written_roots roots) ≡ true)
private_place roots path e = one (either (same_path path (intent_path roots)) _ e)
  where
    dkms_in : is_listed roots.dkms (written_roots roots) ≡ true
    dkms_in = ap (λ b. b || is_listed roots.dkms (roots.src ∷ roots.modules ∷ roots.boot ∷ [])) (same_path-refl roots.dkms)

    src_in : is_listed roots.src (written_roots roots) ≡ true
    src_in = or_right (same_path roots.src roots.dkms) _ (ap (λ b. b || is_listed roots.src (roots.modules ∷ roots.boot ∷ [])) (same_path-refl roots.src))

    modules_in : is_listed roots.modules (written_roots roots) ≡ true
    modules_in = or_right (same_path roots.modules roots.dkms) _ (or_right (same_path roots.modules roots.src) _ (ap (λ b. b || is_listed roots.modules (roots.boot ∷ [])) (same_path-refl roots.modules)))

    boot_in : is_listed roots.boot (written_roots roots) ≡ true
    boot_in = or_right (same_path roots.boot roots.dkms) _ (or_right (same_path roots.boot roots.src) _ (or_right (same_path roots.boot roots.modules) _ (ap (λ b. b || false) (same_path-refl roots.boot))))

    seven : (same_path path (child roots.boot (codes ".kb-plugins")) ≡ true) ⊎ (false ≡ true) → (root : Path) × (name : List ℕ) × (path ≡ child root name) × (is_listed root (written_roots roots) ≡ true)
    seven (inl s) = (roots.boot, codes ".kb-plugins", same_path-true path (child roots.boot (codes ".kb-plugins")) s, boot_in)
    seven (inr none) = absurd (untrue none)

    six : (same_path path (staging_path roots.boot) ≡ true) ⊎ (is_listed path (child roots.boot (codes ".kb-plugins") ∷ []) ≡ true) → (root : Path) × (name : List ℕ) × (path ≡ child root name) × (is_listed root (written_roots roots) ≡ true)
    six (inl s) = (roots.boot, codes ".kb-staged", same_path-true path (staging_path roots.boot) s, boot_in)
    six (inr more) = seven (either (same_path path (child roots.boot (codes ".kb-plugins"))) false more)

    five : (same_path path (staging_path roots.modules) ≡ true) ⊎ (is_listed path (staging_path roots.boot ∷ child roots.boot (codes ".kb-plugins") ∷ []) ≡ true) → (root : Path) × (name : List ℕ) × (path ≡ child root name) × (is_listed root (written_roots roots) ≡ true)
    five (inl s) = (roots.modules, codes ".kb-staged", same_path-true path (staging_path roots.modules) s, modules_in)
    five (inr more) = six (either (same_path path (staging_path roots.boot)) _ more)

    four : (same_path path (staging_path roots.src) ≡ true) ⊎ (is_listed path (staging_path roots.modules ∷ staging_path roots.boot ∷ child roots.boot (codes ".kb-plugins") ∷ []) ≡ true) → (root : Path) × (name : List ℕ) × (path ≡ child root name) × (is_listed root (written_roots roots) ≡ true)
    four (inl s) = (roots.src, codes ".kb-staged", same_path-true path (staging_path roots.src) s, src_in)
    four (inr more) = five (either (same_path path (staging_path roots.modules)) _ more)

    three : (same_path path (staging_path roots.dkms) ≡ true) ⊎ (is_listed path (staging_path roots.src ∷ staging_path roots.modules ∷ staging_path roots.boot ∷ child roots.boot (codes ".kb-plugins") ∷ []) ≡ true)
        → (root : Path) × (name : List ℕ) × (path ≡ child root name) × (is_listed root (written_roots roots) ≡ true)
    three (inl s) = (roots.dkms, codes ".kb-staged", same_path-true path (staging_path roots.dkms) s, dkms_in)
    three (inr more) = four (either (same_path path (staging_path roots.src)) _ more)

    two : (same_path path (child roots.dkms (codes ".intent.new")) ≡ true) ⊎ (is_listed path (staging_path roots.dkms ∷ staging_path roots.src ∷ staging_path roots.modules ∷ staging_path roots.boot ∷ child roots.boot (codes ".kb-plugins") ∷ []) ≡ true)
        → (root : Path) × (name : List ℕ) × (path ≡ child root name) × (is_listed root (written_roots roots) ≡ true)
    two (inl s) = (roots.dkms, codes ".intent.new", same_path-true path (child roots.dkms (codes ".intent.new")) s, dkms_in)
    two (inr more) = three (either (same_path path (staging_path roots.dkms)) _ more)

    one : (same_path path (intent_path roots) ≡ true) ⊎ (is_listed path (child roots.dkms (codes ".intent.new") ∷ staging_path roots.dkms ∷ staging_path roots.src ∷ staging_path roots.modules ∷ staging_path roots.boot ∷ child roots.boot (codes ".kb-plugins") ∷ []) ≡ true)
        → (root : Path) × (name : List ℕ) × (path ≡ child root name) × (is_listed root (written_roots roots) ≡ true)
    one (inl s) = (roots.dkms, codes ".intent", same_path-true path (intent_path roots) s, dkms_in)
    one (inr more) = two (either (same_path path (child roots.dkms (codes ".intent.new"))) _ more)

-- a scratch tree's version
pub record InScratchOf (roots : Roots) (q : Path) : Type 0 where
  pub word : List ℕ
  pub version : List ℕ
  pub rest : Path
  pub named : (is_word word && is_version version) ≡ true
  pub is : q ≡ roots.dkms ++ word ∷ version ∷ codes "build" ∷ rest

in_scratch : (roots : Roots) (q : Path) (told : Option StorePath) → store_path roots q ≡ told → is_in_scratch told ≡ true → InScratchOf roots q
in_scratch roots q (Some (InScratch key rest)) e h =
    let both = told_both roots q (InScratch key rest) e in
    record { word = key.module; version = key.version; rest = rest; named = both.0; is = sym both.1 }
in_scratch roots q (Some (SourceLink key)) e h = absurd (untrue h)
in_scratch roots q (Some (Targets key spot)) e h = absurd (untrue h)
in_scratch roots q (Some (InBox key spot rest)) e h = absurd (untrue h)
in_scratch roots q (Some (KernelLink word spot)) e h = absurd (untrue h)
in_scratch roots q (Some (InChest word spot rest)) e h = absurd (untrue h)
in_scratch roots q None e h = absurd (untrue h)

module _ (roots : Roots) (apart : AreApart roots) where
  -- a root isn't under a directory below the dkms root
  root-no-under : (root : Path) → is_listed root (written_roots roots) ≡ true → (p : Path) → is_below p roots.dkms ≡ true → is_under root p ≡ true → ⊥
  root-no-under root listed p below over =
      let found = listed_root roots root listed in
      untrue (sym (root-over roots apart found.0 root_name.Dkms p below) ∙ ap (λ r. is_under r p) (sym found.1) ∙ over)

  -- what is private below a public directory of the dkms root is in a scratch tree
  private_below : (p q : Path) → EmptiedPlace roots apart p → is_below q p ≡ true → is_private roots q ≡ true → InScratchOf roots q
  private_below p q e below private = by (either (list_any (is_under q) (private_places roots)) (is_in_scratch (store_path roots q)) private)
    where
      by : (list_any (is_under q) (private_places roots) ≡ true) ⊎ (is_in_scratch (store_path roots q) ≡ true) → InScratchOf roots q
      by (inr scratch) = in_scratch roots q (store_path roots q) refl scratch
      by (inl place) = absurd (
          let found = any-found (is_under q) (private_places roots) place in
          let kind = private_place roots found.0 found.2 in
          let owned : is_private roots found.0 ≡ true = ap (λ b. b || is_in_scratch (store_path roots found.0)) (any-of (is_under found.0) (private_places roots) found.0 (under-self found.0) found.2) in
          elim (comparable q p found.0 (first_so (is_under q p) _ below) found.1) as (λ _. ⊥) [
            | inl under ↦ open_no_private roots p e.opens (private_down roots found.0 p owned under)
            | inr over ↦ elim (child-under kind.0 kind.1 p (ap (λ x. is_under x p) (sym kind.2) ∙ over)) as (λ _. ⊥) [
              | inl root ↦ root-no-under kind.0 kind.3 p e.below root
              | inr same ↦ open_no_private roots p e.opens (ap (is_private roots) (sym (kind.2 ∙ same)) ∙ owned)
            ]
          ])

  -- the directory of a version is public
  version_open : (word version : List ℕ) → (is_word word && is_version version) ≡ true → IsAlwaysPublic roots (roots.dkms ++ word ∷ version ∷ [])
  version_open word version named = in_dkms roots apart (word ∷ version ∷ []) (known word (first_so (is_word word) (is_version version) named)).begins (link_no_scratch word version)

  version_dir : (word version : List ℕ) → (is_word word && is_version version) ≡ true → is_version_dir roots (roots.dkms ++ word ∷ version ∷ []) ≡ true
  version_dir word version named =
      both_true (under-append roots.dkms (word ∷ version ∷ [])) (ap are_version (drop-front roots.dkms (word ∷ version ∷ [])) ∙ named)
    where
      are_version : Path → Bool
      are_version = are_version_names

-- ---- what is left while directories go

-- what of the old tree is left: nothing private that was wiped, and each public directory that isn't wiped and doesn't go
pub record IsLeft (roots : Roots) (wipes emptied : List Path) (old new : Tree) : Type 0 where
  pub private : (q : Path) → is_private roots q ≡ true → is_some (node_at new q) ≡ true → (is_some (node_at old q) ≡ true) × (list_any (is_under q) wipes ≡ false)
  pub dirs : (q : Path) → IsAlwaysPublic roots q → is_dir (node_at old q) ≡ true → list_any (is_under q) wipes ≡ false → is_listed q emptied ≡ false → is_dir (node_at new q) ≡ true

tidied-some : (p : Path) (tree : Tree) (q : Path) → is_some (node_at (tidied p tree) q) ≡ true → is_some (node_at tree q) ≡ true
tidied-some p tree q s = by (is_dir (node_at tree p) && not (list_any (λ other. is_below other p) (keys tree))) (same_path q p) refl s
  where
    by : (b same : Bool) → same_path q p ≡ same → is_some (node_at (cond b (remove tree p) tree) q) ≡ true → is_some (node_at tree q) ≡ true
    by false same e s = s
    by true true e s = absurd (untrue (sym (ap is_some (node_at-remove tree p q ∙ ap (λ b. cond b None (node_at tree q)) e)) ∙ s))
    by true false e s = sym (ap is_some (node_at-remove tree p q ∙ ap (λ b. cond b None (node_at tree q)) e)) ∙ s

module _ (roots : Roots) (apart : AreApart roots) (wipes : List Path) (emptied : List Path) (old : Tree) (formed : IsFormed old) (places : (q : Path) → is_listed q emptied ≡ true → EmptiedPlace roots apart q) where
  abbrev all_wipes : List Path
  all_wipes = wipes ++ scratches roots emptied

  left_kept : (new : Tree) (p : Path) → is_listed p emptied ≡ true → IsLeft roots all_wipes emptied old new → IsLeft roots all_wipes emptied old (tidied p new)
  left_kept new p listed left = record {
    private = λ q private s. left.private q private (tidied-some p new q s);
    dirs = λ q opens dir away stays.
        let other : same_path q p ≡ false = by_test (same_path q p) (λ s. untrue (sym stays ∙ ap (λ x. is_listed x emptied) (same_path-true q p s) ∙ listed)) in
        ap is_dir (tidied-apart p new q other) ∙ left.dirs q opens dir away stays;
  }

  -- where a private path is left below, so is the public directory of its version
  version_left : (new : Tree) (p q : Path) → is_listed p emptied ≡ true → IsLeft roots all_wipes emptied old new → is_below q p ≡ true → is_some (node_at new q) ≡ true → InScratchOf roots q → is_private roots q ≡ true
      → (v : Path) × (is_below v p ≡ true) × IsAlwaysPublic roots v × (is_dir (node_at new v) ≡ true)
  version_left new p q listed left below stands s private = (v, below_p, opens, left.dirs v opens (dir_above old formed v (codes "build") s.rest (ap (λ x. is_some (node_at old x)) (sym q_is) ∙ was.0)) away stays)
    where
      v : Path
      v = roots.dkms ++ s.word ∷ s.version ∷ []

      opens : IsAlwaysPublic roots v
      opens = version_open roots apart s.word s.version s.named

      q_is : q ≡ v ++ codes "build" ∷ s.rest
      q_is = s.is ∙ sym (append_assoc roots.dkms (s.word ∷ s.version ∷ []) (codes "build" ∷ s.rest))

      q_under : is_under q (child v (codes "build")) ≡ true
      q_under = ap (λ x. is_under x (child v (codes "build"))) (q_is ∙ sym (append_assoc v (codes "build" ∷ []) s.rest)) ∙ under-append (child v (codes "build")) s.rest

      q_under_v : is_under q v ≡ true
      q_under_v = ap (λ x. is_under x v) q_is ∙ under-append v (codes "build" ∷ s.rest)

      was : (is_some (node_at old q) ≡ true) × (list_any (is_under q) all_wipes ≡ false)
      was = left.private q private stands

      no_wipe : list_any (is_under q) wipes ≡ false
      no_wipe = by_test (list_any (is_under q) wipes) (λ w. untrue (sym was.1 ∙ list_any-append (is_under q) wipes (scratches roots emptied) ∙ ap (λ b. b || list_any (is_under q) (scratches roots emptied)) w))

      no_scratch : list_any (is_under q) (scratches roots emptied) ≡ false
      no_scratch = by_test (list_any (is_under q) (scratches roots emptied)) (λ w. untrue (sym was.1 ∙ list_any-append (is_under q) wipes (scratches roots emptied) ∙ or_right (list_any (is_under q) wipes) (list_any (is_under q) (scratches roots emptied)) w))

      stays : is_listed v emptied ≡ false
      stays = by_test (is_listed v emptied) (λ gone. untrue (sym no_scratch ∙ scratch_listed roots emptied v q (version_dir roots apart s.word s.version s.named) gone q_under))

      away : list_any (is_under v) all_wipes ≡ false
      away = by_test (list_any (is_under v) all_wipes) (λ w.
          let found = any-found (is_under v) all_wipes w in untrue (sym was.1 ∙ any-of (is_under q) all_wipes found.0 (under-trans q v found.0 q_under_v found.1) found.2))

      q_under_p : is_under q p ≡ true
      q_under_p = first_so (is_under q p) _ below

      -- the directory isn't at or below the version's
      no_under : is_under p v ≡ false
      no_under = by_test (is_under p v) (λ under. at_version (is_under v p) refl under)
        where
          at_version : (b : Bool) → is_under v p ≡ b → is_under p v ≡ true → ⊥
          at_version true over under = untrue (sym stays ∙ ap (λ x. is_listed x emptied) (under-both v p over under) ∙ listed)
          at_version false over under = elim (comparable q p (child v (codes "build")) q_under_p q_under) as (λ _. ⊥) [
            | inl within ↦ open_no_private roots p (places p listed).opens (private_down roots (child v (codes "build")) p scratch_own within)
            | inr around ↦ elim (child-under v (codes "build") p around) as (λ _. ⊥) [
              | inl whole ↦ untrue (sym over ∙ whole)
              | inr same ↦ open_no_private roots p (places p listed).opens (ap (is_private roots) (sym same) ∙ scratch_own)
            ]
          ]
            where
              scratch_own : is_private roots (child v (codes "build")) ≡ true
              scratch_own =
                  or_right (list_any (is_under (child v (codes "build"))) (private_places roots)) _
                  (ap (λ x. is_in_scratch (store_path roots x)) (append_assoc roots.dkms (s.word ∷ s.version ∷ []) (codes "build" ∷ [])) ∙ ap is_in_scratch (place_there roots (InScratch (key_of s.word s.version) []) s.named))

      below_p : is_below v p ≡ true
      below_p = elim (comparable q v p q_under_v q_under_p) as (λ _. is_below v p ≡ true) [
        | inl under ↦ both_true under (ap not no_under)
        | inr over ↦ absurd (untrue (sym no_under ∙ over))
      ]

  plain : (new : Tree) (p : Path) → is_listed p emptied ≡ true → IsLeft roots all_wipes emptied old new → IsPlain roots p new
  plain new p listed left = same_bool (list_any (λ other. is_below other p) (keys new)) (list_any (λ other. is_below other p) (keys (public_tree roots new))) out back
    where
      same_bool : (x y : Bool) → (x ≡ true → y ≡ true) → (y ≡ true → x ≡ true) → x ≡ y
      same_bool true y f g = sym (f refl)
      same_bool false true f g = g refl
      same_bool false false f g = refl

      p_under : is_under p roots.dkms ≡ true
      p_under = first_so (is_under p roots.dkms) _ (places p listed).below

      there : (q : Path) → is_below q p ≡ true → is_some (node_at (public_tree roots new) q) ≡ true → list_any (λ other. is_below other p) (keys (public_tree roots new)) ≡ true
      there q below stands = any-of (λ other. is_below other p) (keys (public_tree roots new)) q below (sym (contains_key-keys (public_tree roots new) q) ∙ stands)

      -- what isn't public there is private
      hidden : (q : Path) → is_below q p ≡ true → (at : Option Node) → is_public roots q at ≡ false → is_private roots q ≡ true
      hidden q below at none = by (is_private roots q) refl
        where
          under : is_under q roots.dkms ≡ true
          under = under-trans q p roots.dkms (first_so (is_under q p) _ below) p_under

          by : (b : Bool) → is_private roots q ≡ b → is_private roots q ≡ true
          by true e = e
          by false e = absurd (untrue (sym none ∙ public_there roots apart q at (ap (λ b. b || list_any (is_under q) (roots.src ∷ roots.modules ∷ roots.boot ∷ [])) under) (elsewhere q roots.dkms roots.boot (written_apart roots apart).dkms_boot under) e))

      out : list_any (λ other. is_below other p) (keys new) ≡ true → list_any (λ other. is_below other p) (keys (public_tree roots new)) ≡ true
      out any = by (is_public roots q (node_at new q)) refl
        where
          found : (q : Path) × (is_below q p ≡ true) × (is_listed q (keys new) ≡ true)
          found = any-found (λ other. is_below other p) (keys new) any

          q : Path
          q = found.0

          stands : is_some (node_at new q) ≡ true
          stands = contains_key-keys new q ∙ found.2

          by : (b : Bool) → is_public roots q (node_at new q) ≡ b → list_any (λ other. is_below other p) (keys (public_tree roots new)) ≡ true
          by true e = there q found.1 (ap is_some (node_at-public_tree roots new q ∙ ap (λ b. cond b (node_at new q) None) e) ∙ stands)
          by false e =
              let private = hidden q found.1 (node_at new q) e in
              let v = version_left new p q listed left found.1 stands (private_below roots apart p q (places p listed) found.1 private) private in
              there v.0 v.1 (ap is_some (shown roots new v.0 v.2) ∙ dir_stands (node_at new v.0) v.3)

      back : list_any (λ other. is_below other p) (keys (public_tree roots new)) ≡ true → list_any (λ other. is_below other p) (keys new) ≡ true
      back any =
          let found = any-found (λ other. is_below other p) (keys (public_tree roots new)) any in
          any-of (λ other. is_below other p) (keys new) found.0 found.1 (sym (contains_key-keys new found.0) ∙ in_whole found.0 (is_public roots found.0 (node_at new found.0)) refl (contains_key-keys (public_tree roots new) found.0 ∙ found.2))
        where
          in_whole : (q : Path) (b : Bool) → is_public roots q (node_at new q) ≡ b → is_some (node_at (public_tree roots new) q) ≡ true → is_some (node_at new q) ≡ true
          in_whole q true e s = sym (ap is_some (node_at-public_tree roots new q ∙ ap (λ b. cond b (node_at new q) None) e)) ∙ s
          in_whole q false e s = absurd (untrue (sym (ap is_some (node_at-public_tree roots new q ∙ ap (λ b. cond b (node_at new q) None) e)) ∙ s))

  pub all_plain : (paths : List Path) (new : Tree) → AllByRecursion (λ p. is_listed p emptied ≡ true) paths → IsLeft roots all_wipes emptied old new → ArePlain roots paths new
  all_plain [] new listed left = tt
  all_plain (p ∷ paths) new listed left = (plain new p listed.0 left, all_plain paths (tidied p new) listed.1 (left_kept new p listed.0 left))
