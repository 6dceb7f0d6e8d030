-- Where the walk of a store ends, said over the list of its entries.
use Rattle.std.proofs.Common.{◌≡◌, ℕ, zero, suc, ◌+◌, Bool, true, false, cond, ◌&&◌, ◌||◌, List, [], ◌∷◌, ◌++◌, length, Option, Some, None, refl, sym, ap, ◌∙◌, length-append, arith}
use Rattle.std.specs.Prelude.{nat_le, nat_lt, slice_get}
use Rattle.std.specs.List.{find, list_all}
use Rattle.std.specs.Ordering.{is_lt}
use Rattle.std.specs.Cmp.{first_so, second_so}
use Rattle.std.proofs.lemmas.Bool.{le-leb, lt-leb}
use Rattle.kb_world.specs.Path.{Path, path_cmp}
use Rattle.kb_world.specs.Tree.{Tree, node_at, is_dir}
use Rattle.kb_world.specs.Public.{is_private}
use Rattle.kb_world.specs.declared.roots.Roots.{Roots}
use Rattle.kb_world.proofs.PathLaws.{by_test}
use Rattle.kb_store.specs.Notes.{first_of_two}
use Rattle.kb_store.specs.Read.{store_entries, over}
use Rattle.kb_walk.specs.Walking.{LIMITS, met_at, walk_on, walked, rises}
use Rattle.kb_walk.specs.declared.walking.Met.{Met}
use Rattle.kb_walk.specs.declared.walking.Walk.{Walk}
use Rattle.kb_walk.proofs.VisitLaws.{walk_over}
use Rattle.kb_walk.proofs.MemberLaws.{not_both, entries_rise}
use Rattle.kb_walk.proofs.LimitLaws.{gone, got_held, found_held}

-- a path comes before what is greater, on either side
comes_first : (path : Path) (o : Option Path) → ((q : Path) → o ≡ Some q → is_lt (path_cmp path q) ≡ true) → first_of_two (Some path) o ≡ Some path
comes_first path None greater = refl
comes_first path (Some q) greater = ap (λ b. Some (cond b q path)) (by_test (is_lt (path_cmp q path)) (λ less. not_both path q (greater q refl) less))

comes_second : (path : Path) (o : Option Path) → ((q : Path) → o ≡ Some q → is_lt (path_cmp path q) ≡ true) → first_of_two o (Some path) ≡ Some path
comes_second path None greater = refl
comes_second path (Some q) greater = ap (λ b. Some (cond b path q)) (greater q refl)

itself_first : (path : Path) → first_of_two (Some path) (Some path) ≡ Some path
itself_first path = by (is_lt (path_cmp path path))
  where
    by : (b : Bool) → Some (cond b path path) ≡ Some path
    by true = refl
    by false = refl

-- a walk over paths that rise ends at the one with this number, or at the first that is too deep
walk_limit : (tree : Tree) (most deepest : ℕ) (first : List Met) (paths : List Path) (left : ℕ) → length first + left ≡ most → rises paths ≡ true
    → (walk_on tree most deepest (record { met = first; over = None }) paths).over ≡ first_of_two (slice_get paths left) (find (λ path. nat_lt deepest (length path) && is_dir (node_at tree path)) paths)
walk_limit tree most deepest first [] left count up = refl
walk_limit tree most deepest first (path ∷ paths) left count up =
    by left count (deep path) refl (λ n h. walk_limit tree most deepest (first ++ met_at tree path ∷ []) paths n h (second_so (list_all (λ other. is_lt (path_cmp path other)) paths) (rises paths) up))
  where
    deep : Path → Bool
    deep q = nat_lt deepest (length q) && is_dir (node_at tree q)

    all : list_all (λ other. is_lt (path_cmp path other)) paths ≡ true
    all = first_so (list_all (λ other. is_lt (path_cmp path other)) paths) (rises paths) up

    ended : (b : Bool) → b ≡ true → (gone tree most deepest first path paths b).over ≡ Some path
    ended b e = ap (λ x. (gone tree most deepest first path paths x).over) e ∙ ap (λ (w : Walk). w.over) (walk_over tree most deepest (record { met = first; over = Some path }) paths refl)

    behind : (n : ℕ) (q : Path) → slice_get paths n ≡ Some q → is_lt (path_cmp path q) ≡ true
    behind n q e = got_held (λ other. is_lt (path_cmp path other)) paths n q all e

    or_true : (a b : Bool) → b ≡ true → (a || b) ≡ true
    or_true true b e = refl
    or_true false b e = e

    ends_at : List Met → ℕ → Type 0
    ends_at met n = (walk_on tree most deepest (record { met = met; over = None }) paths).over ≡ first_of_two (slice_get paths n) (find deep paths)

    by : (left : ℕ) → length first + left ≡ most → (d : Bool) → deep path ≡ d
        → ((n : ℕ) → length (first ++ met_at tree path ∷ []) + n ≡ most → ends_at (first ++ met_at tree path ∷ []) n)
        → (gone tree most deepest first path paths (nat_le most (length first) || deep path)).over ≡ first_of_two (slice_get (path ∷ paths) left) (cond (deep path) (Some path) (find deep paths))
    by zero count true e later =
        ended (nat_le most (length first) || deep path) (or_true (nat_le most (length first)) (deep path) e) ∙ sym (ap (λ b. first_of_two (Some path) (cond b (Some path) (find deep paths))) e ∙ itself_first path)
    by zero count false e later =
        let full : nat_le most (length first) ≡ true = le-leb most (length first) (omega (arith, count)) in
        ended (nat_le most (length first) || deep path) (ap (λ b. b || deep path) full)
        ∙ sym (ap (λ b. first_of_two (Some path) (cond b (Some path) (find deep paths))) e
        ∙ comes_first path (find deep paths) (λ q h. found_held (λ other. is_lt (path_cmp path other)) deep paths q all h))
    by (suc left) count true e later =
        ended (nat_le most (length first) || deep path) (or_true (nat_le most (length first)) (deep path) e)
        ∙ sym (ap (λ b. first_of_two (slice_get paths left) (cond b (Some path) (find deep paths))) e ∙ comes_second path (slice_get paths left) (behind left))
    by (suc left) count false e later =
        let few : nat_le most (length first) ≡ false = lt-leb most (length first) (omega (arith, count)) in
        ap (λ b. (gone tree most deepest first path paths (b || deep path)).over) few ∙ ap (λ b. (gone tree most deepest first path paths b).over) e
        ∙ later left (omega (arith, count, length-append first (met_at tree path ∷ [])))
        ∙ sym (ap (λ b. first_of_two (slice_get paths left) (cond b (Some path) (find deep paths))) e)

-- where the walk of a store ends
pub over_is : (roots : Roots) (tree : Tree) → (walked LIMITS tree (is_private roots) roots.dkms).over ≡ over roots tree
unfolding walked
over_is roots tree = walk_limit tree 65536 (length roots.dkms + 64) [] (store_entries roots tree) 65536 (omega arith) (entries_rise tree (is_private roots) roots.dkms)
