-- A walk that skips what is private meets what a walk over all that isn't private meets.
use Rattle.std.proofs.Common.{◌≡◌, ℕ, ◌+◌, ◌-◌, Bool, true, false, cond, ◌&&◌, ◌||◌, not, List, [], ◌∷◌, ◌++◌, length, drop, Option, Some, None, is_some, refl, sym, ap, ◌∙◌}
use Rattle.std.proofs.lemmas.List.{take-append-drop}
use Rattle.std.specs.Prelude.{nat_le, nat_lt}
use Rattle.std.specs.List.{AllByRecursion}
use Rattle.kb_world.specs.Layout.{whole_tree}
use Rattle.kb_world.specs.Path.{Path, parent}
use Rattle.kb_world.specs.Public.{is_private}
use Rattle.kb_world.specs.Roots.{is_below}
use Rattle.kb_world.specs.Tree.{Tree, node_at, kind_of, is_dir, IsFormed}
use Rattle.kb_world.specs.declared.roots.Roots.{Roots}
use Rattle.kb_world.specs.declared.tree.Node.{Node}
use Rattle.kb_world.proofs.AboveLaws.{all-passing}
use Rattle.kb_world.proofs.LayoutLaws.{node_at-whole, whole_at}
use Rattle.kb_world.proofs.PathLaws.{by_test}
use Rattle.kb_walk.specs.PrivateLaws.{private_below}
use Rattle.kb_walk.specs.Walking.{paths_below, entries, meets, walk_on, walked}
use Rattle.kb_walk.specs.declared.walking.Limits.{Limits}
use Rattle.kb_walk.specs.declared.walking.Met.{Met}
use Rattle.kb_walk.specs.declared.walking.Walk.{Walk}
use Rattle.kb_walk.proofs.OrderLaws.{untrue, not_true}
use Rattle.kb_walk.proofs.MemberLaws.{same_members, in_entries, entries_rise}
use Rattle.kb_walk.proofs.WalkLaws.{standing}

-- ---- what isn't private

-- above what isn't private nothing is, so it is formed where the tree is
pub whole_formed : (roots : Roots) (tree : Tree) → IsFormed tree → IsFormed (whole_tree roots tree)
whole_formed roots tree formed path stands = by (is_private roots path) refl (sym (ap is_some (node_at-whole roots tree path)) ∙ stands)
  where
    split : parent path ++ drop (length path - 1) path ≡ path
    split = take-append-drop (length path - 1) path

    over : is_private roots path ≡ false → is_private roots (parent path) ≡ false
    over e = by_test (is_private roots (parent path)) (λ private. untrue (sym e ∙ ap (is_private roots) (sym split) ∙ private_below roots (parent path) (drop (length path - 1) path) private))

    by : (b : Bool) → is_private roots path ≡ b → is_some (cond (is_private roots path) None (node_at tree path)) ≡ true → is_dir (node_at (whole_tree roots tree) (parent path)) ≡ true
    by true e s = absurd (untrue (sym (ap (λ b. is_some (cond b None (node_at tree path))) e) ∙ s))
    by false e s = ap is_dir (whole_at roots tree (parent path) (over e)) ∙ formed path (sym (ap (λ b. is_some (cond b None (node_at tree path))) e) ∙ s)

pub entries_whole : (roots : Roots) (tree : Tree) (start : Path) → entries tree (is_private roots) start ≡ entries (whole_tree roots tree) (λ path. false) start
entries_whole roots tree start =
    same_members _ _ (entries_rise tree (is_private roots) start) (entries_rise whole (λ path. false) start) (λ path.
    in_entries tree (is_private roots) start path ∙ ap (λ b. not (is_private roots path) && (is_below path start && b)) (sym (standing tree path))
    ∙ hidden (is_private roots path) (is_below path start) (node_at tree path)
    ∙ ap (λ at. is_below path start && is_some at) (sym (node_at-whole roots tree path)) ∙ ap (λ b. is_below path start && b) (standing whole path)
    ∙ sym (in_entries whole (λ other. false) start path))
  where
    whole : Tree
    whole = whole_tree roots tree

    hidden : (own below : Bool) (at : Option Node) → (not own && (below && is_some at)) ≡ (below && is_some (cond own None at))
    hidden true true at = refl
    hidden true false at = refl
    hidden false below at = refl

-- ---- walks of two trees

meets_same : (a b : Tree) (most deepest : ℕ) (met : List Met) (over : Option Path) (path : Path) → node_at a path ≡ node_at b path
    → meets a most deepest (record { met = met; over = over }) path ≡ meets b most deepest (record { met = met; over = over }) path
meets_same a b most deepest met (Some far) path e = refl
meets_same a b most deepest met None path e = ap goes_on e
  where
    goes_on : Option Node → Walk
    goes_on at = cond (nat_le most (length met) || nat_lt deepest (length path) && is_dir at) (record { met = met; over = Some path }) (record { met = met ++ record { path = path; kind = kind_of at } ∷ []; over = None })

-- where the same stands at each path, a walk over them meets the same
walk_on_same : (a b : Tree) (most deepest : ℕ) (walk : Walk) (paths : List Path) → AllByRecursion (λ path. node_at a path ≡ node_at b path) paths
    → walk_on a most deepest walk paths ≡ walk_on b most deepest walk paths
walk_on_same a b most deepest walk [] same = refl
walk_on_same a b most deepest walk (path ∷ paths) same =
    ap (λ w. walk_on a most deepest w paths) (meets_same a b most deepest walk.met walk.over path same.0) ∙ walk_on_same a b most deepest (meets b most deepest walk path) paths same.1

pub walked_whole : (roots : Roots) (limits : Limits) (tree : Tree) (start : Path) → walked limits tree (is_private roots) start ≡ walked limits (whole_tree roots tree) (λ path. false) start
unfolding walked
walked_whole roots limits tree start =
    walk_on_same tree (whole_tree roots tree) limits.entries (length start + limits.depth) (record { met = []; over = None }) (entries tree (is_private roots) start)
    (all-passing (λ path. node_at tree path ≡ node_at (whole_tree roots tree) path) (λ path. not (is_private roots path)) (λ path e. sym (whole_at roots tree path (not_true (is_private roots path) e))) (paths_below tree start))
    ∙ ap (walk_on (whole_tree roots tree) limits.entries (length start + limits.depth) (record { met = []; over = None })) (entries_whole roots tree start)
