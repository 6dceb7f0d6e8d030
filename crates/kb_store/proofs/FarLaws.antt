-- The damage before the first path that passes a limit: the paths before that one tell of it, and those below the
-- version that the path lies below.
use Rattle.std.proofs.Common.{◌≡◌, ℕ, Bool, true, false, cond, ◌&&◌, ◌||◌, not, List, [], ◌∷◌, ◌++◌, length, drop, map, Option, Some, None, is_some, codes, refl, sym, ap, ◌∙◌, subst, append_assoc, append-nil, Ordering}
use Rattle.std.specs.Prelude.{flat_map, nat_lt}
use Rattle.std.specs.List.{list_any}
use Rattle.std.specs.FinMap.{keys}
use Rattle.std.specs.declared.cmp.Ordering.TheVariants.{Less, Equal, Greater}
use Rattle.std.specs.Ordering.{is_lt, ordering_then, nat_cmp}
use Rattle.std.specs.Cmp.{first_so, second_so}
use Rattle.std.specs.Cmp.Derive.{both_true}
use Rattle.std.specs.Cmp.Lexicographic.{slice_cmp, bytes_decides}
use Rattle.kb_world.specs.Path.{Path, path_cmp, is_under}
use Rattle.kb_world.specs.Roots.{AreApart, is_below}
use Rattle.kb_world.specs.StorePath.{store_path, path_of}
use Rattle.kb_world.specs.Tree.{Tree, node_at, is_file}
use Rattle.kb_world.specs.TreeLaws.{same_path}
use Rattle.kb_world.specs.Public.{is_private}
use Rattle.kb_world.specs.Store.{is_added, link_path}
use Rattle.kb_world.specs.Boxes.{places_at, kernel_link_path, linked_at, module_file, targets_path}
use Rattle.kb_world.specs.Targets.{last_name}
use Rattle.kb_world.specs.Damage.{least, hurt, harm_by, harm_of, harm_at, files_harm, unless_sound}
use Rattle.kb_world.specs.declared.roots.Roots.{Roots}
use Rattle.kb_world.specs.declared.job.Key.{Key}
use Rattle.kb_world.specs.declared.job.Spot.{Spot}
use Rattle.kb_world.specs.declared.store_path.StorePath.{StorePath}
use Rattle.kb_world.specs.declared.store_path.StorePath.TheVariants.{SourceLink, Targets, KernelLink}
use Rattle.kb_world.specs.declared.refusal.Refusal.TheVariants as refusal
use Rattle.kb_world.proofs.PathLaws.{under-append, under-split, drop-front, by_test}
use Rattle.kb_world.proofs.SpotLaws.{not_true}
use Rattle.kb_world.proofs.StorePathLaws.{place_back}
use Rattle.kb_store.specs.Notes.{version_above, version_within, is_deep, is_far, entries_if, version_entries}
use Rattle.kb_store.specs.Read.{store_entries, first_refusal}
use Rattle.kb_walk.proofs.OrderLaws.{in_front, untrue, names_exact, is_in, in_more, rises}
use Rattle.kb_walk.proofs.MemberLaws.{not_itself, not_both, less_through, neither_less, front_or_behind, in_filter, in_entries, entries_rise, in_left, in_right, in_either, in_flat, flat_in, in_map, rises_behind, later_than}
use Rattle.kb_walk.proofs.WalkLaws.{below_more, cmp-append}
use Rattle.kb_store.proofs.ToldByEntries.{harms_told}

-- ---- the least path

-- the lesser of a path and the least of others
lesser_of : Path → Option Path → Path
lesser_of path None = path
lesser_of path (Some other) = cond (is_lt (path_cmp other path)) other path

-- the least of a list with one path more
least_more : (path : Path) (paths : List Path) → least (path ∷ paths) ≡ Some (lesser_of path (least paths))
unfolding lesser_of
least_more path paths = by (least paths) refl
  where
    by : (o : Option Path) → least paths ≡ o → least (path ∷ paths) ≡ Some (lesser_of path (least paths))
    by None e = rw e refl
    by (Some other) e = rw e refl

-- it is in the list, and no path in it is less
abbrev pub IsLeast : List Path → Option Path → Type 0
IsLeast paths None = (path : Path) → is_in path paths → ⊥
IsLeast paths (Some first) = is_in first paths × ((path : Path) → is_in path paths → is_lt (path_cmp path first) ≡ true → ⊥)

-- one path more keeps what is least
least_step : (x : Path) (paths : List Path) (o : Option Path) → IsLeast paths o → IsLeast (x ∷ paths) (Some (lesser_of x o))
unfolding lesser_of
least_step x paths None none = (
  in_front x paths,
  λ path h less.
      front_or_behind path x paths ⊥ (λ e. not_itself x (sym (ap (λ p. is_lt (path_cmp p x)) e) ∙ less)) (none path) h,
)
least_step x paths (Some other) least_so = by (is_lt (path_cmp other x)) refl
  where
    by : (b : Bool) → is_lt (path_cmp other x) ≡ b → IsLeast (x ∷ paths) (Some (cond (is_lt (path_cmp other x)) other x))
    by true e = subst (λ b. IsLeast (x ∷ paths) (Some (cond b other x))) (sym e) (
      in_more other x paths least_so.0,
      λ path h less. front_or_behind path x paths ⊥ (λ is. not_both other x e (sym (ap (λ p. is_lt (path_cmp p other)) is) ∙ less)) (λ later. least_so.1 path later less) h,
    )
    by false e = subst (λ b. IsLeast (x ∷ paths) (Some (cond b other x))) (sym e) (
      in_front x paths,
      λ path h less. front_or_behind path x paths ⊥ (λ is. not_itself x (sym (ap (λ p. is_lt (path_cmp p x)) is) ∙ less)) (λ later. least_so.1 path later (less_through path x other less e)) h,
    )

-- the least path is in the list, and none is less
pub least_is : (paths : List Path) → IsLeast paths (least paths)
least_is [] = λ path h. untrue h
least_is (x ∷ paths) = subst (IsLeast (x ∷ paths)) (sym (least_more x paths)) (least_step x paths (least paths) (least_is paths))

-- ---- with a bound, only lesser paths count

abbrev pub HasLesser : Path → List Path → List Path → Type 0
HasLesser far xs ys = (path : Path) → is_lt (path_cmp path far) ≡ true → is_in path xs → is_in path ys

too_many : (far harm : Path) → is_lt (path_cmp harm far) ≡ false → first_refusal (Some harm) (Some far) ≡ Some (refusal.TooMany far)
too_many far harm e = ap (λ b. Some (cond b (refusal.Damaged harm) (refusal.TooMany far))) e

-- without any, what is least isn't less than the bound
none_less : (far harm : Path) (xs ys : List Path) → IsLeast xs None → IsLeast ys (Some harm) → HasLesser far ys xs → is_lt (path_cmp harm far) ≡ false
none_less far harm xs ys none least_so back = by_test (is_lt (path_cmp harm far)) (λ h. none harm (back harm h least_so.0))

-- the same, by what the least paths are
refusal_same : (far : Path) (xs ys : List Path) → HasLesser far xs ys → HasLesser far ys xs → (a b : Option Path) → IsLeast xs a → IsLeast ys b → first_refusal a (Some far) ≡ first_refusal b (Some far)
refusal_same far xs ys there back None None p q = refl
refusal_same far xs ys there back None (Some k) p q = sym (too_many far k (none_less far k xs ys p q back))
refusal_same far xs ys there back (Some h) None p q = too_many far h (none_less far h ys xs q p there)
refusal_same far xs ys there back (Some h) (Some k) p q = by (is_lt (path_cmp h far)) refl (is_lt (path_cmp k far)) refl
  where
    by : (s : Bool) → is_lt (path_cmp h far) ≡ s → (t : Bool) → is_lt (path_cmp k far) ≡ t → first_refusal (Some h) (Some far) ≡ first_refusal (Some k) (Some far)
    by true e true f = ap (λ o. first_refusal (Some o) (Some far)) (neither_less h k (by_test (is_lt (path_cmp h k)) (q.1 h (there h e p.0))) (by_test (is_lt (path_cmp k h)) (p.1 k (back k f q.0))))
    by true e false f = absurd (q.1 h (there h e p.0) (less_through h far k e f))
    by false e true f = absurd (p.1 k (back k f q.0) (less_through k far h f e))
    by false e false f = too_many far h e ∙ sym (too_many far k f)

-- what comes first, of damage and a bound, is told by the damage that is less than the bound
pub same_refusal : (far : Path) (xs ys : List Path) → HasLesser far xs ys → HasLesser far ys xs → first_refusal (least xs) (Some far) ≡ first_refusal (least ys) (Some far)
same_refusal far xs ys there back = refusal_same far xs ys there back (least xs) (least ys) (least_is xs) (least_is ys)

-- ---- between two paths below a directory all are below it

pub between : (d a b far : Path) → is_lt (path_cmp (d ++ a) far) ≡ true → is_lt (path_cmp (d ++ b) far) ≡ false → is_under far d ≡ true
between [] a b far h k = refl
between (name ∷ d) a b [] h k = absurd (untrue h)
between (name ∷ d) a b (first ∷ far) h k = by (slice_cmp nat_cmp name first) refl (between d a b far)
  where
    by : (o : Ordering) → slice_cmp nat_cmp name first ≡ o → (is_lt (path_cmp (d ++ a) far) ≡ true → is_lt (path_cmp (d ++ b) far) ≡ false → is_under far d ≡ true) → is_under (first ∷ far) (name ∷ d) ≡ true
    by Less e deeper = absurd (untrue (sym k ∙ ap (λ o. is_lt (ordering_then o (path_cmp (d ++ b) far))) e))
    by Greater e deeper = absurd (untrue (sym (ap (λ o. is_lt (ordering_then o (path_cmp (d ++ a) far))) e) ∙ h))
    by Equal e deeper =
        both_true ((bytes_decides name first).1 (names_exact name first e))
        (deeper (sym (ap (λ o. is_lt (ordering_then o (path_cmp (d ++ a) far))) e) ∙ h) (sym (ap (λ o. is_lt (ordering_then o (path_cmp (d ++ b) far))) e) ∙ k))

-- nothing below a directory is less than it
not_above : (d : Path) (name : List ℕ) (rest : Path) → is_lt (path_cmp (d ++ name ∷ rest) d) ≡ true → ⊥
not_above d name rest h = untrue (sym (ap (λ p. is_lt (path_cmp (d ++ name ∷ rest) p)) (sym (append-nil d)) ∙ ap is_lt (cmp-append d (name ∷ rest) [])) ∙ h)

-- ---- which damaged paths a path tells of

-- in a list of one path
in_one : (path x : Path) → is_in path (x ∷ []) → path ≡ x
in_one path x h = front_or_behind path x [] (path ≡ x) (λ e. e) (λ k. absurd (untrue k)) h

-- in a list that a sound part leaves empty
in_unless : (b : Bool) (path x : Path) → is_in path (unless_sound b x) → path ≡ x
in_unless true path x h = absurd (untrue h)
in_unless false path x h = in_one path x h

-- below the build's directory
of_files : (roots : Roots) (tree : Tree) (key : Key) (spot : Spot) (told : Option (List Path)) (path : Path) (C : Type 0)
    → ((more : Path) → path ≡ roots.dkms ++ key.module ∷ key.version ∷ spot.kernel ∷ more → C) → is_in path (files_harm roots tree key spot told) → C
of_files roots tree key spot None path C found h = found (spot.arch ∷ codes "targets" ∷ []) (in_one path (targets_path roots key spot) h)
of_files roots tree key spot (Some places) path C found h =
    in_map (module_file roots key spot) places path C (λ place e. found (spot.arch ∷ codes "module" ∷ last_name place ∷ []) e)
    (second_so (not (is_file (node_at tree path))) _ (sym (in_filter (λ file. not (is_file (node_at tree file))) (map (module_file roots key spot) places) path) ∙ h))

-- at the path itself, or in the version of a build
near : (roots : Roots) (tree : Tree) (place : StorePath) (path : Path) (C : Type 0) → (path ≡ path_of roots place → C)
    → ((key : Key) (spot : Spot) (other : List ℕ) (more : Path) → place ≡ Targets key spot → path ≡ roots.dkms ++ key.module ∷ key.version ∷ other ∷ more → C)
    → is_in path (harm_by roots tree place) → C
near roots tree (SourceLink key) path C itself beside h = itself (in_unless (is_added roots key tree) path (link_path roots key) h)
near roots tree (Targets key spot) path C itself beside h =
    in_either path (unless_sound (is_some (node_at tree (link_path roots key))) (link_path roots key)) (files_harm roots tree key spot (places_at roots tree key spot)) C
    (λ there. beside key spot (codes "source") [] refl (in_unless (is_some (node_at tree (link_path roots key))) path (link_path roots key) there))
    (of_files roots tree key spot (places_at roots tree key spot) path C (λ more e. beside key spot spot.kernel more refl e)) h
near roots tree (KernelLink word spot) path C itself beside h = itself (in_unless (is_some (linked_at roots tree (kernel_link_path roots word spot) word spot)) path (kernel_link_path roots word spot) h)
near roots tree other path C itself beside h = absurd (untrue h)

-- ---- the paths below the version

-- three names below the dkms root lie below a version
version_within-is : (roots : Roots) (word version name : List ℕ) (rest : Path) → version_above roots (roots.dkms ++ word ∷ version ∷ name ∷ rest) ≡ Some (roots.dkms ++ word ∷ version ∷ [])
version_within-is roots word version name rest =
    ap (λ b. cond b (version_within roots (drop (length roots.dkms) (roots.dkms ++ word ∷ version ∷ name ∷ rest))) None) (under-append roots.dkms (word ∷ version ∷ name ∷ rest))
    ∙ ap (version_within roots) (drop-front roots.dkms (word ∷ version ∷ name ∷ rest))

-- what isn't far isn't private
not_far : (private deep : Bool) → not (private || deep) ≡ true → not private ≡ true
not_far true deep h = h
not_far false deep h = refl

module _ (roots : Roots) (tree : Tree) where
  -- what is below the version's directory is below the dkms root
  below_version : (word version : List ℕ) (path : Path) → is_below path (roots.dkms ++ word ∷ version ∷ []) ≡ true → is_below path roots.dkms ≡ true
  below_version word version path h =
      let d : Path = roots.dkms ++ word ∷ version ∷ [] in
      let split = under-split path d (first_so (is_under path d) (not (is_under d path)) h) ∙ append_assoc roots.dkms (word ∷ version ∷ []) (drop (length d) path) in
      ap (λ p. is_below p roots.dkms) split ∙ below_more roots.dkms word (version ∷ drop (length d) path)

  -- what is below that version is an entry of the dkms root
  within_entries : (names : Path) (path : Path) → is_in path (entries_if roots tree (version_within roots names)) → is_in path (store_entries roots tree)
  within_entries [] path h = absurd (untrue h)
  within_entries (word ∷ []) path h = absurd (untrue h)
  within_entries (word ∷ version ∷ []) path h = absurd (untrue h)
  within_entries (word ∷ version ∷ name ∷ rest) path h =
      let d : Path = roots.dkms ++ word ∷ version ∷ [] in
      let here = sym (in_entries tree (is_far roots d) d path) ∙ h in
      let open_so = not_far (is_private roots path) (is_deep d path) (first_so (not (is_far roots d path)) _ here) in
      let there = second_so (not (is_far roots d path)) _ here in
      in_entries tree (is_private roots) roots.dkms path
      ∙ both_true open_so (both_true (below_version word version path (first_so (is_below path d) _ there)) (second_so (is_below path d) _ there))

  -- the same of the version that a path lies below
  beside_entries : (far path : Path) → is_in path (version_entries roots tree far) → is_in path (store_entries roots tree)
  beside_entries far path h = by (is_under far roots.dkms) refl
    where
      by : (b : Bool) → is_under far roots.dkms ≡ b → is_in path (store_entries roots tree)
      by true e = within_entries (drop (length roots.dkms) far) path (sym (ap (λ b. list_any (same_path path) (entries_if roots tree (cond b (version_within roots (drop (length roots.dkms) far)) None))) e) ∙ h)
      by false e = absurd (untrue (sym (ap (λ b. list_any (same_path path) (entries_if roots tree (cond b (version_within roots (drop (length roots.dkms) far)) None))) e) ∙ h))

  -- a path that is no less than the bound and tells of a lesser damaged one is in the same version, and no deeper than is looked
  beside_far : (far t q : Path) → is_in t (store_entries roots tree) → is_lt (path_cmp t far) ≡ false → is_lt (path_cmp q far) ≡ true → is_in q (harm_at roots tree t) → is_in t (version_entries roots tree far)
  beside_far far t q there late less h = by (store_path roots t) refl h
    where
      here : (not (is_private roots t) && (is_below t roots.dkms && list_any (same_path t) (keys tree))) ≡ true
      here = sym (in_entries tree (is_private roots) roots.dkms t) ∙ there

      inner : (is_below t roots.dkms && list_any (same_path t) (keys tree)) ≡ true
      inner = second_so (not (is_private roots t)) _ here

      both_below : (key : Key) (spot : Spot) (other : List ℕ) (more : Path) → t ≡ path_of roots (Targets key spot) → q ≡ roots.dkms ++ key.module ∷ key.version ∷ other ∷ more → is_in t (version_entries roots tree far)
      both_below key spot other more t_is q_is =
          at_rest (drop (length d) far) (under-split far d (between d (other ∷ more) tail far lesser later))
        where
          d : Path
          d = roots.dkms ++ key.module ∷ key.version ∷ []

          tail : Path
          tail = spot.kernel ∷ spot.arch ∷ codes "targets" ∷ []

          t_split : t ≡ d ++ tail
          t_split = t_is ∙ sym (append_assoc roots.dkms (key.module ∷ key.version ∷ []) tail)

          lesser : is_lt (path_cmp (d ++ other ∷ more) far) ≡ true
          lesser = sym (ap (λ p. is_lt (path_cmp p far)) (q_is ∙ sym (append_assoc roots.dkms (key.module ∷ key.version ∷ []) (other ∷ more)))) ∙ less

          later : is_lt (path_cmp (d ++ tail) far) ≡ false
          later = sym (ap (λ p. is_lt (path_cmp p far)) t_split) ∙ late

          shallow : is_deep d t ≡ false
          shallow = ap (is_deep d) t_split ∙ ap (λ p. is_under (d ++ tail) d && nat_lt 3 (length p)) (drop-front d tail) ∙ ap (λ b. b && false) (under-append d tail)

          near_so : not (is_far roots d t) ≡ true
          near_so = ap (λ b. not (b || is_deep d t)) (not_true (is_private roots t) (first_so (not (is_private roots t)) _ here)) ∙ ap not shallow

          at_rest : (r : Path) → far ≡ d ++ r → is_in t (version_entries roots tree far)
          at_rest [] is = absurd (not_above d other more (sym (ap (λ p. is_lt (path_cmp (d ++ other ∷ more) p)) (is ∙ append-nil d)) ∙ lesser))
          at_rest (name ∷ r) is =
              let far_is : far ≡ roots.dkms ++ key.module ∷ key.version ∷ name ∷ r = is ∙ append_assoc roots.dkms (key.module ∷ key.version ∷ []) (name ∷ r) in
              let directory : version_above roots far ≡ Some d = ap (version_above roots) far_is ∙ version_within-is roots key.module key.version name r in
              ap (λ o. list_any (same_path t) (entries_if roots tree o)) directory ∙ in_entries tree (is_far roots d) d t
              ∙ both_true near_so (both_true (ap (λ p. is_below p d) t_split ∙ below_more d spot.kernel (spot.arch ∷ codes "targets" ∷ [])) (second_so (is_below t roots.dkms) _ inner))

      by : (told : Option StorePath) → store_path roots t ≡ told → is_in q (harm_at roots tree t) → is_in t (version_entries roots tree far)
      by None e h = absurd (untrue (sym (ap (λ o. list_any (same_path q) (harm_of roots tree o)) e) ∙ h))
      by (Some place) e h =
          let is = (place_back roots t place e).is in
          near roots tree place q (is_in t (version_entries roots tree far))
          (λ same. absurd (untrue (sym late ∙ ap (λ p. is_lt (path_cmp p far)) (is ∙ sym same) ∙ less)))
          (λ key spot other more placed. both_below key spot other more (is ∙ ap (path_of roots) placed))
          (sym (ap (λ o. list_any (same_path q) (harm_of roots tree o)) e) ∙ h)

  -- the damage before a bound is told by the paths before it and those below the version that it lies below
  pub far_harms : AreApart roots → (before : List Path) (far : Path) (behind : List Path) → store_entries roots tree ≡ before ++ far ∷ behind
      → first_refusal (least (flat_map (harm_at roots tree) (before ++ version_entries roots tree far))) (Some far) ≡ first_refusal (hurt roots tree) (Some far)
  unfolding hurt
  far_harms apart before far behind e =
      same_refusal far (flat_map (harm_at roots tree) (before ++ version_entries roots tree far)) (flat_map (harm_at roots tree) (store_entries roots tree)) (λ q less h. forth q h) back
      ∙ ap (λ paths. first_refusal (least paths) (Some far)) (sym (harms_told roots apart tree))
    where
      up : rises (far ∷ behind) ≡ true
      up = rises_behind before (far ∷ behind) (sym (ap rises e) ∙ entries_rise tree (is_private roots) roots.dkms)

      forth : (q : Path) → is_in q (flat_map (harm_at roots tree) (before ++ version_entries roots tree far)) → is_in q (flat_map (harm_at roots tree) (store_entries roots tree))
      forth q h = in_flat (harm_at roots tree) (before ++ version_entries roots tree far) q (is_in q (flat_map (harm_at roots tree) (store_entries roots tree))) (λ t there here.
          flat_in (harm_at roots tree) (store_entries roots tree) t q
          (in_either t before (version_entries roots tree far) (is_in t (store_entries roots tree)) (λ l. ap (list_any (same_path t)) e ∙ in_left t before (far ∷ behind) l) (beside_entries far t) there) here) h

      late : (t : Path) → is_in t (far ∷ behind) → is_lt (path_cmp t far) ≡ false
      late t h = by_test (is_lt (path_cmp t far)) (λ less.
          front_or_behind t far behind ⊥ (λ is. not_itself far (sym (ap (λ p. is_lt (path_cmp p far)) is) ∙ less)) (λ later. not_both t far less (later_than far behind up t later)) h)

      back : HasLesser far (flat_map (harm_at roots tree) (store_entries roots tree)) (flat_map (harm_at roots tree) (before ++ version_entries roots tree far))
      back q less h = in_flat (harm_at roots tree) (store_entries roots tree) q (is_in q (flat_map (harm_at roots tree) (before ++ version_entries roots tree far))) (λ t there here.
          flat_in (harm_at roots tree) (before ++ version_entries roots tree far) t q
          (in_either t before (far ∷ behind) (is_in t (before ++ version_entries roots tree far)) (in_left t before (version_entries roots tree far))
          (λ r. in_right t before (version_entries roots tree far) (beside_far far t q there (late t r) less here)) (sym (ap (list_any (same_path t)) e) ∙ there)) here) h
