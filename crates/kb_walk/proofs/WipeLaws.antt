-- What is left below a directory while it is emptied from the last entry on.
use Rattle.std.proofs.Common.{◌≡◌, ◌≢◌, ◌⊎◌, ℕ, Bool, true, false, cond, ◌&&◌, ◌||◌, not, List, [], ◌∷◌, ◌++◌, length, take, drop, Option, Some, None, is_some, refl, sym, ap, ◌∙◌, subst, inl, inr, append_assoc, append-nil}
use Rattle.std.specs.Prelude.{filter_map}
use Rattle.std.specs.List.{list_all, list_any}
use Rattle.std.specs.Ordering.{is_lt}
use Rattle.std.specs.Cmp.{first_so, second_so}
use Rattle.std.specs.Cmp.Derive.{both_true}
use Rattle.std.specs.FinMap.{keys}
use Rattle.std.proofs.lemmas.List.{take-append-drop}
use Rattle.kb_world.specs.Path.{Path, path_cmp, child, parent, is_under}
use Rattle.kb_world.specs.Roots.{is_below}
use Rattle.kb_world.specs.Steps.{cleared}
use Rattle.kb_world.specs.Tree.{Tree, node_at, is_dir, without, kind_of, children, name_in, sole, IsFormed, IsEmptyDir}
use Rattle.kb_world.specs.TreeLaws.{same_path, same_path-true, same_path-refl, node_at-remove, node_at-retain, same_tree}
use Rattle.kb_world.specs.declared.tree.Node.{Node}
use Rattle.kb_world.proofs.PathLaws.{under-split, under-append, under-self, by_test}
use Rattle.kb_world.proofs.StepLaws.{parent-child, child-other}
use Rattle.kb_walk.specs.Walking.{paths_below, met_at, rises}
use Rattle.kb_walk.specs.declared.walking.Met.{Met}
use Rattle.kb_walk.specs.Wipe.{CanWipe, IsWipedInPart, without_all, without_tree, emptied}
use Rattle.kb_walk.proofs.OrderLaws.{is_in, in_front, in_more, untrue}
use Rattle.kb_walk.proofs.MemberLaws.{not_itself, not_both, later_than, front_or_behind, in_filter, in_right, in_either, rises_filter, rises_behind}
use Rattle.kb_walk.proofs.WalkLaws.{standing, rises_keys, below_more, below_leaf, cmp-append}

-- ---- the tree without the last of them

pub wiped_at : (paths : List Path) (tree : Tree) (q : Path) → node_at (without_all paths tree) q ≡ cond (list_any (same_path q) paths) None (node_at tree q)
unfolding without_all
wiped_at paths tree q = node_at-retain tree (λ q. not (list_any (same_path q) paths)) q ∙ by (list_any (same_path q) paths) (node_at tree q)
  where
    by : (b : Bool) (at : Option Node) → cond (not b) at None ≡ cond b None at
    by true at = refl
    by false at = refl

pub none_wiped : (tree : Tree) → tree ≡ without_all [] tree
none_wiped tree = same_tree _ _ (λ q. sym (wiped_at [] tree q))

pub one_wiped : (x : Path) (paths : List Path) (tree : Tree) → without x (without_all paths tree) ≡ without_all (x ∷ paths) tree
one_wiped x paths tree = same_tree _ _ (λ q. node_at-remove (without_all paths tree) x q ∙ ap (cond (same_path q x) None) (wiped_at paths tree q) ∙ by (same_path q x) (list_any (same_path q) paths) (node_at tree q) ∙ sym (wiped_at (x ∷ paths) tree q))
  where
    by : (a b : Bool) (at : Option Node) → cond a None (cond b None at) ≡ cond (a || b) None at
    by true b at = refl
    by false b at = refl

-- ---- no entry is left

sole_name : (rest : Path) (name : List ℕ) → sole rest ≡ Some name → rest ≡ name ∷ []
sole_name [] name h = let q : None ≡ Some name = h in absurd (cc)
sole_name (first ∷ []) name h = let q : first ≡ name = cc in ap (λ n. n ∷ []) q
sole_name (first ∷ more ∷ rest) name h = let q : None ≡ Some name = h in absurd (cc)

named_child : (d key : Path) (name : List ℕ) → name_in d key ≡ Some name → key ≡ child d name
named_child d key name h = by (is_under key d) refl
  where
    by : (b : Bool) → is_under key d ≡ b → key ≡ child d name
    by true e = under-split key d e ∙ ap (λ r. d ++ r) (sole_name (drop (length d) key) name (sym (ap (λ b. cond b (sole (drop (length d) key)) None) e) ∙ h))
    by false e = let q : None ≡ Some name = sym (ap (λ b. cond b (sole (drop (length d) key)) None) e) ∙ h in absurd (cc)

pub no_children : (tree : Tree) (d : Path) → ((name : List ℕ) → node_at tree (child d name) ≡ None) → children tree d ≡ []
no_children tree d none = over (keys tree) (λ q h. standing tree q ∙ h)
  where
    over : (ks : List Path) → ((q : Path) → is_in q ks → is_some (node_at tree q) ≡ true) → filter_map (name_in d) ks ≡ []
    over [] stand = refl
    over (key ∷ ks) stand = by (name_in d key) refl (over ks (λ q h. stand q (in_more q key ks h)))
      where
        by : (o : Option (List ℕ)) → name_in d key ≡ o → filter_map (name_in d) ks ≡ [] → filter_map (name_in d) (key ∷ ks) ≡ []
        by None e later = rw e later
        by (Some name) e later =
            let gone : is_some (node_at tree key) ≡ false = ap (λ p. is_some (node_at tree p)) (named_child d key name e) ∙ ap is_some (none name) in
            absurd (untrue (sym gone ∙ stand key (in_front key ks)))

-- in a rising list what stands in front is less
pub front_less : (xs ys : List Path) (y q : Path) → rises (xs ++ y ∷ ys) ≡ true → is_in q xs → is_lt (path_cmp q y) ≡ true
front_less [] ys y q up h = absurd (untrue h)
front_less (x ∷ xs) ys y q up h =
    front_or_behind q x xs (is_lt (path_cmp q y) ≡ true)
    (λ is. subst (λ p. is_lt (path_cmp p y) ≡ true) (sym is) (later_than x (xs ++ y ∷ ys) up y (in_right y xs (y ∷ ys) (in_front y ys))))
    (λ k. front_less xs ys y q (second_so (list_all (λ other. is_lt (path_cmp x other)) (xs ++ y ∷ ys)) (rises (xs ++ y ∷ ys)) up) k) h

below_child : (x start : Path) (name : List ℕ) → is_below x start ≡ true → is_below (child x name) start ≡ true
below_child x start name h =
    let is = under-split x start (first_so (is_under x start) (not (is_under start x)) h) in
    by (drop (length start) x) is
  where
    by : (rest : Path) → x ≡ start ++ rest → is_below (child x name) start ≡ true
    by [] e = ap (λ p. is_below (child p name) start) e ∙ ap (λ p. is_below (p ++ name ∷ []) start) (append-nil start) ∙ below_more start name []
    by (first ∷ rest) e = ap (λ p. is_below (child p name) start) e ∙ ap (λ p. is_below p start) (append_assoc start (first ∷ rest) (name ∷ [])) ∙ below_more start first (rest ++ name ∷ [])

pub child_greater : (x : Path) (name : List ℕ) → is_lt (path_cmp x (child x name)) ≡ true
child_greater x name = ap (λ p. is_lt (path_cmp p (child x name))) (sym (append-nil x)) ∙ ap is_lt (cmp-append x [] (name ∷ []))

-- an entry met, with all behind it gone, has nothing in it
module _ (tree : Tree) (start : Path) (front rest : List Path) (x : Path) (split : paths_below tree start ≡ front ++ x ∷ rest) where
  up : rises (front ++ x ∷ rest) ≡ true
  up = ap rises (sym split) ∙ rises_filter (λ q. is_below q start) (keys tree) (rises_keys tree)

  rising : rises (x ∷ rest) ≡ true
  rising = rises_behind front (x ∷ rest) up

  still : node_at (without_all rest tree) x ≡ node_at tree x
  still = wiped_at rest tree x ∙ by (list_any (same_path x) rest) refl
    where
      by : (b : Bool) → list_any (same_path x) rest ≡ b → cond b None (node_at tree x) ≡ node_at tree x
      by true e = absurd (not_itself x (later_than x rest rising x e))
      by false e = refl

  met_below : is_in x (paths_below tree start)
  met_below = ap (λ l. list_any (same_path x) l) split ∙ in_right x front (x ∷ rest) (in_front x rest)

  parts : (is_below x start && list_any (same_path x) (keys tree)) ≡ true
  parts = sym (in_filter (λ q. is_below q start) (keys tree) x) ∙ met_below

  childless : (name : List ℕ) → node_at (without_all rest tree) (child x name) ≡ None
  childless name = wiped_at rest tree (child x name) ∙ by (node_at tree (child x name)) refl
    where
      among : is_some (node_at tree (child x name)) ≡ true → is_in (child x name) rest
      among stands =
          let listed : is_in (child x name) (paths_below tree start) = in_filter (λ q. is_below q start) (keys tree) (child x name)
          ∙ both_true (below_child x start name (first_so (is_below x start) _ parts)) (sym (standing tree (child x name)) ∙ stands) in
          in_either (child x name) front (x ∷ rest) (is_in (child x name) rest)
          (λ h. absurd (not_both (child x name) x (front_less front rest x (child x name) up h) (child_greater x name)))
          (λ h. front_or_behind (child x name) x rest (is_in (child x name) rest) (λ is. absurd (child-other x name is)) (λ k. k) h)
          (sym (ap (λ l. list_any (same_path (child x name)) l) split) ∙ listed)

      by : (at : Option Node) → node_at tree (child x name) ≡ at → cond (list_any (same_path (child x name)) rest) None (node_at tree (child x name)) ≡ None
      by None e = nothing (list_any (same_path (child x name)) rest) e
        where
          nothing : (b : Bool) → node_at tree (child x name) ≡ None → cond b None (node_at tree (child x name)) ≡ None
          nothing true e = refl
          nothing false e = e
      by (Some at) e = ap (λ b. cond b None (node_at tree (child x name))) (among (ap is_some e))

  stands : node_at (without_all rest tree) x ≢ None
  stands none = absurd (untrue (sym (ap is_some (sym still ∙ none)) ∙ standing tree x ∙ second_so (is_below x start) _ parts))

  pub can_wipe : (met : Met) → met ≡ met_at tree x → CanWipe (without_all rest tree) met
  can_wipe met is = record {
    kind = ap (λ (m : Met). m.kind) is ∙ ap kind_of (sym still) ∙ ap (λ p. kind_of (node_at (without_all rest tree) p)) (sym (ap (λ (m : Met). m.path) is));
    stands = λ none. stands (ap (node_at (without_all rest tree)) (sym (ap (λ (m : Met). m.path) is)) ∙ none);
    empty = ap (children (without_all rest tree)) (ap (λ (m : Met). m.path) is) ∙ no_children (without_all rest tree) x childless;
  }

-- ---- some of it is gone

-- a path is the root, or that of an entry of its parent
pub split_last : (q : Path) → (q ≡ []) ⊎ ((front : Path) × (name : List ℕ) × (q ≡ child front name))
split_last [] = inl refl
split_last (name ∷ rest) = elim (split_last rest) [
  | inl none ↦ inr ([], name, ap (λ r. name ∷ r) none)
  | inr more ↦ inr (name ∷ more.0, more.1, ap (λ r. name ∷ r) more.2)
]

-- of a rising list what stands in front is less than what stands behind
front_less_behind : (xs ys : List Path) (y q : Path) → rises (xs ++ ys) ≡ true → is_in q xs → is_in y ys → is_lt (path_cmp q y) ≡ true
front_less_behind [] ys y q rising h k = absurd (untrue h)
front_less_behind (x ∷ xs) ys y q rising h k =
    front_or_behind q x xs (is_lt (path_cmp q y) ≡ true)
    (λ is. subst (λ p. is_lt (path_cmp p y) ≡ true) (sym is) (later_than x (xs ++ ys) rising y (in_right y xs ys k)))
    (λ later. front_less_behind xs ys y q (second_so (list_all (λ other. is_lt (path_cmp x other)) (xs ++ ys)) (rises (xs ++ ys)) rising) later k) h

below_is_under : (q path : Path) → is_below q path ≡ true → is_under q path ≡ true
below_is_under q path h = first_so (is_under q path) (not (is_under path q)) h

-- the last so many entries below a directory are gone, and all else stands in a directory as before
module _ (tree : Tree) (formed : IsFormed tree) (start : Path) (n : ℕ) where
  abbrev pub behind : List Path
  behind = drop n (paths_below tree start)

  is_met : (q : Path) → is_in q behind → is_in q (paths_below tree start)
  is_met q h = ap (list_any (same_path q)) (sym (take-append-drop n (paths_below tree start))) ∙ in_right q (take n (paths_below tree start)) behind h

  met_parts : (q : Path) → is_in q (paths_below tree start) → (is_below q start && list_any (same_path q) (keys tree)) ≡ true
  met_parts q h = sym (in_filter (λ p. is_below p start) (keys tree) q) ∙ h

  rising_all : rises (take n (paths_below tree start) ++ behind) ≡ true
  rising_all = ap rises (take-append-drop n (paths_below tree start)) ∙ rises_filter (λ p. is_below p start) (keys tree) (rises_keys tree)

  -- where the directory is behind, so is its entry
  entry_gone : (front : Path) (name : List ℕ) → is_in front behind → is_some (node_at tree (child front name)) ≡ true → is_in (child front name) behind
  entry_gone front name h stands =
      let below_start = below_child front start name (first_so (is_below front start) (list_any (same_path front) (keys tree)) (met_parts front (is_met front h))) in
      let listed : is_in (child front name) (paths_below tree start) = in_filter (λ p. is_below p start) (keys tree) (child front name)
      ∙ both_true below_start (sym (standing tree (child front name)) ∙ stands) in
      in_either (child front name) (take n (paths_below tree start)) behind (is_in (child front name) behind)
      (λ early. absurd (not_both (child front name) front (front_less_behind (take n (paths_below tree start)) behind front (child front name) rising_all early h) (child_greater front name)))
      (λ late. late) (ap (list_any (same_path (child front name))) (take-append-drop n (paths_below tree start)) ∙ listed)

  pub part_wiped : IsWipedInPart start tree (without_all behind tree)
  part_wiped = record { each = each; formed = stays }
    where
      each : (q : Path) → (node_at (without_all behind tree) q ≡ node_at tree q) ⊎ ((is_under q start ≡ true) × (node_at (without_all behind tree) q ≡ None))
      each q = by (list_any (same_path q) behind) refl
        where
          by : (b : Bool) → list_any (same_path q) behind ≡ b → (node_at (without_all behind tree) q ≡ node_at tree q) ⊎ ((is_under q start ≡ true) × (node_at (without_all behind tree) q ≡ None))
          by true e = inr (
            below_is_under q start (first_so (is_below q start) (list_any (same_path q) (keys tree)) (met_parts q (is_met q e))),
            wiped_at behind tree q ∙ ap (λ b. cond b None (node_at tree q)) e,
          )
          by false e = inl (wiped_at behind tree q ∙ ap (λ b. cond b None (node_at tree q)) e)

      stays : IsFormed (without_all behind tree)
      stays q some = by (list_any (same_path (parent q)) behind) refl
        where
          was : is_some (node_at tree q) ≡ true
          was = kept (list_any (same_path q) behind) (sym (ap is_some (wiped_at behind tree q)) ∙ some)
            where
              kept : (b : Bool) → is_some (cond b None (node_at tree q)) ≡ true → is_some (node_at tree q) ≡ true
              kept true e = absurd (untrue e)
              kept false e = e

          still_there : list_any (same_path q) behind ≡ true → ⊥
          still_there e = untrue (sym (ap is_some (wiped_at behind tree q ∙ ap (λ b. cond b None (node_at tree q)) e)) ∙ some)

          by : (b : Bool) → list_any (same_path (parent q)) behind ≡ b → is_dir (node_at (without_all behind tree) (parent q)) ≡ true
          by false e = ap is_dir (wiped_at behind tree (parent q) ∙ ap (λ b. cond b None (node_at tree (parent q))) e) ∙ formed q was
          by true e = absurd (elim (split_last q) as (λ _. ⊥) [
            | inl none ↦ still_there (ap (λ p. list_any (same_path p) behind) (none ∙ sym (ap parent none)) ∙ e)
            | inr more ↦ still_there (ap (λ p. list_any (same_path p) behind) more.2
                ∙ entry_gone more.0 more.1 (ap (λ p. list_any (same_path p) behind) (sym (ap parent more.2 ∙ parent-child more.0 more.1)) ∙ e) (ap (λ p. is_some (node_at tree p)) (sym more.2) ∙ was))
          ])

-- ---- all of it is gone

pub cleared_at : (test : Path → Bool) (tree : Tree) (q : Path) → node_at (cleared test tree) q ≡ cond (test q) None (node_at tree q)
cleared_at test tree q = node_at-retain tree (λ p. not (test p)) q ∙ by (test q) (node_at tree q)
  where
    by : (b : Bool) (at : Option Node) → cond (not b) at None ≡ cond b None at
    by true at = refl
    by false at = refl

pub all_emptied : (tree : Tree) (start : Path) → without_all (paths_below tree start) tree ≡ emptied start tree
all_emptied tree start = same_tree _ _ (λ q. wiped_at (paths_below tree start) tree q ∙ ap (λ b. cond b None (node_at tree q)) (in_filter (λ p. is_below p start) (keys tree) q) ∙ listed q ∙ sym (cleared_at (λ p. is_below p start) tree q))
  where
    by : (a b : Bool) (at : Option Node) → is_some at ≡ b → cond (a && b) None at ≡ cond a None at
    by true true at e = refl
    by true false None e = refl
    by true false (Some node) e = absurd (untrue (sym e))
    by false b at e = refl

    listed : (q : Path) → cond (is_below q start && list_any (same_path q) (keys tree)) None (node_at tree q) ≡ cond (is_below q start) None (node_at tree q)
    listed q = by (is_below q start) (list_any (same_path q) (keys tree)) (node_at tree q) (standing tree q)

-- of two paths each of which is under the other both are one
under_both : (p q : Path) → is_under p q ≡ true → is_under q p ≡ true → p ≡ q
under_both p q h k = same (drop (length q) p) (drop (length p) q) (under-split p q h) (under-split q p k)
  where
    no_more : (base : Path) (name : List ℕ) (rest : Path) → base ≡ base ++ name ∷ rest → ⊥
    no_more [] name rest e = let impossible : [] ≡ name ∷ rest = e in cc
    no_more (first ∷ base) name rest e = let later : base ≡ base ++ name ∷ rest = cc in no_more base name rest later

    same : (r s : Path) → p ≡ q ++ r → q ≡ p ++ s → p ≡ q
    same [] s is back = is ∙ append-nil q
    same (name ∷ r) s is back = absurd (no_more q name (r ++ s) (back ∙ ap (λ x. x ++ s) is ∙ append_assoc q (name ∷ r) s))

-- the path itself goes last
pub emptied_then_gone : (path : Path) (tree : Tree) → without path (emptied path tree) ≡ without_tree path tree
emptied_then_gone path tree = same_tree _ _ (λ q. node_at-remove (emptied path tree) path q ∙ ap (cond (same_path q path) None) (cleared_at (λ p. is_below p path) tree q) ∙ one q ∙ sym (cleared_at (λ p. is_under p path) tree q))
  where
    one : (q : Path) → cond (same_path q path) None (cond (is_below q path) None (node_at tree q)) ≡ cond (is_under q path) None (node_at tree q)
    one q = by (same_path q path) refl (is_under q path) refl (is_under path q) refl
      where
        by : (same : Bool) → same_path q path ≡ same → (under : Bool) → is_under q path ≡ under → (over : Bool) → is_under path q ≡ over
            → cond (same_path q path) None (cond (is_below q path) None (node_at tree q)) ≡ cond (is_under q path) None (node_at tree q)
        by true e under f over g =
            let here : is_under q path ≡ true = ap (λ p. is_under p path) (same_path-true q path e) ∙ under-self path in
            ap (λ b. cond b None (cond (is_below q path) None (node_at tree q))) e ∙ sym (ap (λ b. cond b None (node_at tree q)) here)
        by false e true f true g = absurd (untrue (sym e ∙ ap (λ p. same_path p path) (under_both q path f g) ∙ same_path-refl path))
        by false e true f false g = rw (e, f, g)
        by false e false f over g = rw (e, f)

-- where no directory stands nothing is below
pub bare_emptied : (tree : Tree) → IsFormed tree → (path : Path) → is_dir (node_at tree path) ≡ false → emptied path tree ≡ tree
bare_emptied tree formed path leaf = sym (all_emptied tree path) ∙ ap (λ l. without_all l tree) (below_leaf tree formed path leaf) ∙ sym (none_wiped tree)

pub bare_gone : (tree : Tree) → IsFormed tree → (path : Path) → is_dir (node_at tree path) ≡ false → without path tree ≡ without_tree path tree
bare_gone tree formed path leaf = ap (without path) (sym (bare_emptied tree formed path leaf)) ∙ emptied_then_gone path tree

pub nothing_gone : (tree : Tree) → IsFormed tree → (path : Path) → node_at tree path ≡ None → tree ≡ without_tree path tree
nothing_gone tree formed path none =
    same_tree tree (without path tree) (λ q. sym (node_at-remove tree path q ∙ by q (same_path q path) refl)) ∙ bare_gone tree formed path (ap is_dir none)
  where
    by : (q : Path) (b : Bool) → same_path q path ≡ b → cond (same_path q path) None (node_at tree q) ≡ node_at tree q
    by q true e = ap (λ b. cond b None (node_at tree q)) e ∙ sym (ap (node_at tree) (same_path-true q path e) ∙ none)
    by q false e = ap (λ b. cond b None (node_at tree q)) e

-- the tree that is as it was, and the one in which all is gone
pub unwiped : (path : Path) (tree : Tree) → IsFormed tree → IsWipedInPart path tree tree
unwiped path tree formed = record { each = λ q. inl refl; formed = formed }

pub whole_wiped : (path : Path) (tree : Tree) → IsFormed tree → IsWipedInPart path tree (without_tree path tree)
whole_wiped path tree formed = record { each = each; formed = stays }
  where
    each : (q : Path) → (node_at (without_tree path tree) q ≡ node_at tree q) ⊎ ((is_under q path ≡ true) × (node_at (without_tree path tree) q ≡ None))
    each q = by (is_under q path) refl
      where
        by : (b : Bool) → is_under q path ≡ b → (node_at (without_tree path tree) q ≡ node_at tree q) ⊎ ((is_under q path ≡ true) × (node_at (without_tree path tree) q ≡ None))
        by true e = inr (e, cleared_at (λ p. is_under p path) tree q ∙ ap (λ b. cond b None (node_at tree q)) e)
        by false e = inl (cleared_at (λ p. is_under p path) tree q ∙ ap (λ b. cond b None (node_at tree q)) e)

    stays : IsFormed (without_tree path tree)
    stays q some = by (is_under q path) refl
      where
        here : is_some (cond (is_under q path) None (node_at tree q)) ≡ true
        here = sym (ap is_some (cleared_at (λ p. is_under p path) tree q)) ∙ some

        above : (p : Path) → is_under (parent p) path ≡ true → is_under p path ≡ true
        above p h = elim (split_last p) [
          | inl none ↦ ap (λ x. is_under x path) (none ∙ sym (ap parent none)) ∙ h
          | inr more ↦
              let front_under : is_under more.0 path ≡ true = ap (λ x. is_under x path) (sym (ap parent more.2 ∙ parent-child more.0 more.1)) ∙ h in
              ap (λ x. is_under x path) (more.2 ∙ ap (λ x. child x more.1) (under-split more.0 path front_under) ∙ append_assoc path (drop (length path) more.0) (more.1 ∷ [])) ∙ under-append path (drop (length path) more.0 ++ more.1 ∷ [])
        ]

        by : (b : Bool) → is_under q path ≡ b → is_dir (node_at (without_tree path tree) (parent q)) ≡ true
        by true e = absurd (untrue (sym (ap (λ b. is_some (cond b None (node_at tree q))) e) ∙ here))
        by false e =
            let apart : is_under (parent q) path ≡ false = by_test (is_under (parent q) path) (λ h. untrue (sym e ∙ above q h)) in
            ap is_dir (cleared_at (λ p. is_under p path) tree (parent q) ∙ ap (λ b. cond b None (node_at tree (parent q))) apart) ∙ formed q (sym (ap (λ b. is_some (cond b None (node_at tree q))) e) ∙ here)

-- the directory itself stands, and is empty
pub emptied_dir : (path : Path) (tree : Tree) → is_dir (node_at tree path) ≡ true → IsEmptyDir (emptied path tree) path
emptied_dir path tree directory = record {
  directory = ap is_dir (cleared_at (λ p. is_below p path) tree path ∙ ap (λ b. cond b None (node_at tree path)) itself) ∙ directory;
  empty = no_children (emptied path tree) path (λ name. cleared_at (λ p. is_below p path) tree (child path name) ∙ ap (λ b. cond b None (node_at tree (child path name))) (below_more path name []));
}
  where
    itself : is_below path path ≡ false
    itself = ap (λ b. b && not b) (under-self path)
