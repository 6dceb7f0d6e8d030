-- How a walk ends: everything was met, or what stands before the first path that passes a limit.
use Rattle.std.proofs.Common.{◌≡◌, ◌⊎◌, inl, inr, ℕ, zero, suc, ◌+◌, ◌<◌, ◌≤◌, Bool, true, false, cond, ◌&&◌, ◌||◌, not, List, [], ◌∷◌, ◌++◌, length, map, Option, Some, None, refl, sym, ap, ◌∙◌, subst, append_assoc, append-nil, arith, length-append}
use Rattle.std.specs.Prelude.{nat_le, nat_lt, slice_get, IfSome}
use Rattle.std.specs.List.{find, list_all, AllByRecursion}
use Rattle.std.specs.Cmp.{first_so, second_so}
use Rattle.std.proofs.lemmas.Bool.{leb-true, leb-false}
use Rattle.kb_world.specs.Path.{Path}
use Rattle.kb_world.specs.Tree.{Tree, node_at, is_dir}
use Rattle.kb_world.proofs.AboveLaws.{all-map, all-passing}
use Rattle.kb_world.proofs.ListedLaws.{or_first}
use Rattle.kb_walk.specs.Walking.{paths_below, entries, met_at, passes_limit, walk_on, walked}
use Rattle.kb_walk.specs.declared.walking.Limits.{Limits}
use Rattle.kb_walk.specs.declared.walking.Met.{Met}
use Rattle.kb_walk.specs.declared.walking.Walk.{Walk}
use Rattle.kb_walk.proofs.OrderLaws.{untrue, not_true}
use Rattle.kb_walk.proofs.VisitLaws.{walk_over}

-- every path was met
pub record IsWhole (tree : Tree) (first : List Met) (paths : List Path) (walk : Walk) : Type 0 where
  pub over : walk.over ≡ None
  pub met : walk.met ≡ first ++ map (met_at tree) paths

-- the paths before this one were met, and it passes a limit
pub record IsCut (tree : Tree) (most deepest : ℕ) (first : List Met) (paths : List Path) (walk : Walk) (far : Path) : Type 0 where
  pub before : List Path
  pub behind : List Path
  pub split : paths ≡ before ++ far ∷ behind
  pub over : walk.over ≡ Some far
  pub met : walk.met ≡ first ++ map (met_at tree) before
  pub passes : passes_limit tree most deepest walk.met far ≡ true

-- how a walk goes on behind a path that passes a limit or doesn't
abbrev pub gone : (tree : Tree) (most deepest : ℕ) (first : List Met) (path : Path) (paths : List Path) → Bool → Walk
gone tree most deepest first path paths b = walk_on tree most deepest (cond b (record { met = first; over = Some path }) (record { met = first ++ met_at tree path ∷ []; over = None })) paths

-- a walk ends in one of the two ways
pub walk_ends : (tree : Tree) (most deepest : ℕ) (first : List Met) (paths : List Path)
    → IsWhole tree first paths (walk_on tree most deepest (record { met = first; over = None }) paths)
    ⊎ ((far : Path) × IsCut tree most deepest first paths (walk_on tree most deepest (record { met = first; over = None }) paths) far)
walk_ends tree most deepest first [] = inl (record { over = refl; met = sym (append-nil first) })
walk_ends tree most deepest first (path ∷ paths) = by (passes_limit tree most deepest first path) refl (walk_ends tree most deepest (first ++ met_at tree path ∷ []) paths)
  where
    by : (b : Bool) → passes_limit tree most deepest first path ≡ b
        → IsWhole tree (first ++ met_at tree path ∷ []) paths (gone tree most deepest first path paths false) ⊎ ((far : Path) × IsCut tree most deepest (first ++ met_at tree path ∷ []) paths (gone tree most deepest first path paths false) far)
        → IsWhole tree first (path ∷ paths) (gone tree most deepest first path paths b) ⊎ ((far : Path) × IsCut tree most deepest first (path ∷ paths) (gone tree most deepest first path paths b) far)
    by true e later =
        let ended = walk_over tree most deepest (record { met = first; over = Some path }) paths refl in
        inr (
          path,
          record {
            before = [];
            behind = paths;
            split = refl;
            over = ap (λ (w : Walk). w.over) ended;
            met = ap (λ (w : Walk). w.met) ended ∙ sym (append-nil first);
            passes = ap (λ (w : Walk). passes_limit tree most deepest w.met path) ended ∙ e;
          },
        )
    by false e (inl whole) = inl (record { over = whole.over; met = whole.met ∙ append_assoc first (met_at tree path ∷ []) (map (met_at tree) paths) })
    by false e (inr cut) = inr (
      cut.0,
      record {
        before = path ∷ cut.1.before;
        behind = cut.1.behind;
        split = ap (λ l. path ∷ l) cut.1.split;
        over = cut.1.over;
        met = cut.1.met ∙ append_assoc first (met_at tree path ∷ []) (map (met_at tree) cut.1.before);
        passes = cut.1.passes;
      },
    )

-- a walk that no limit ends met every entry
pub met_all : (limits : Limits) (tree : Tree) (skips : Path → Bool) (start : Path) → (walked limits tree skips start).over ≡ None
    → (walked limits tree skips start).met ≡ map (met_at tree) (entries tree skips start)
unfolding walked
met_all limits tree skips start none = elim (walk_ends tree limits.entries (length start + limits.depth) [] (entries tree skips start)) [
  | inl whole ↦ whole.met
  | inr cut ↦ absurd (differ (sym none ∙ cut.1.over))
]
  where
    differ : {far : Path} → None ≡ Some far → ⊥
    differ e = cc

-- what it met isn't skipped
pub met_unskipped : (limits : Limits) (tree : Tree) (skips : Path → Bool) (start : Path) → (walked limits tree skips start).over ≡ None
    → AllByRecursion (λ (met : Met). skips met.path ≡ false) (walked limits tree skips start).met
met_unskipped limits tree skips start none =
    subst (AllByRecursion (λ (met : Met). skips met.path ≡ false)) (sym (met_all limits tree skips start none))
    (all-map (λ (met : Met). skips met.path ≡ false) (met_at tree) (entries tree skips start)
    (all-passing (λ path. skips path ≡ false) (λ path. not (skips path)) (λ path e. not_true (skips path) e) (paths_below tree start)))

-- nor is it more than may be met
few_more : (tree : Tree) (most deepest : ℕ) (first : List Met) (paths : List Path) → (walk_on tree most deepest (record { met = first; over = None }) paths).over ≡ None → length first ≤ most → length first + length paths ≤ most
few_more tree most deepest first [] e short = omega arith
few_more tree most deepest first (path ∷ paths) e short = by (passes_limit tree most deepest first path) refl e (λ open_end shorter. few_more tree most deepest (first ++ met_at tree path ∷ []) paths open_end shorter)
  where
    none_over : Some path ≡ None → ⊥
    none_over is = cc

    by : (b : Bool) → passes_limit tree most deepest first path ≡ b → (gone tree most deepest first path paths b).over ≡ None
        → ((gone tree most deepest first path paths false).over ≡ None → length (first ++ met_at tree path ∷ []) ≤ most → length (first ++ met_at tree path ∷ []) + length paths ≤ most)
        → length first + length (path ∷ paths) ≤ most
    by true p ended more = absurd (none_over (sym (ap (λ (w : Walk). w.over) (walk_over tree most deepest (record { met = first; over = Some path }) paths refl)) ∙ ended))
    by false p open_end more =
        let shorter : length first < most = leb-false most (length first) (or_first (nat_le most (length first)) _ p) in
        let long = length-append first (met_at tree path ∷ []) in
        let later = more open_end (omega (arith, shorter, long)) in
        omega (arith, later, long)

pub few_entries : (limits : Limits) (tree : Tree) (skips : Path → Bool) (start : Path) → (walked limits tree skips start).over ≡ None → length (entries tree skips start) ≤ limits.entries
unfolding walked
few_entries limits tree skips start none =
    let all = few_more tree limits.entries (length start + limits.depth) [] (entries tree skips start) none (omega arith) in omega (arith, all)

-- a front of the entries was met, and the entry behind it passes a limit
pub record IsFront (limits : Limits) (tree : Tree) (skips : Path → Bool) (start far : Path) : Type 0 where
  pub before : List Path
  pub behind : List Path
  pub split : entries tree skips start ≡ before ++ far ∷ behind
  pub met : (walked limits tree skips start).met ≡ map (met_at tree) before
  pub passes : passes_limit tree limits.entries (length start + limits.depth) (walked limits tree skips start).met far ≡ true

-- a walk that ends at a path met the entries before it
pub met_before : (limits : Limits) (tree : Tree) (skips : Path → Bool) (start far : Path) → (walked limits tree skips start).over ≡ Some far → IsFront limits tree skips start far
unfolding walked
met_before limits tree skips start far over = elim (walk_ends tree limits.entries (length start + limits.depth) [] (entries tree skips start)) [
  | inl whole ↦ absurd (differ (sym whole.over ∙ over))
  | inr cut ↦ found cut.0 (same (sym cut.1.over ∙ over)) cut.1
]
  where
    differ : None ≡ Some far → ⊥
    differ e = cc

    same : {other : Path} → Some other ≡ Some far → other ≡ far
    same e = cc

    found : (other : Path) → other ≡ far
        → IsCut tree limits.entries (length start + limits.depth) [] (entries tree skips start) (walk_on tree limits.entries (length start + limits.depth) (record { met = []; over = None }) (entries tree skips start)) other
        → IsFront limits tree skips start far
    found other is cut = record {
      before = cut.before;
      behind = cut.behind;
      split = cut.split ∙ ap (λ p. cut.before ++ p ∷ cut.behind) is;
      met = cut.met;
      passes = ap (passes_limit tree limits.entries (length start + limits.depth) (walked limits tree skips start).met) (sym is) ∙ cut.passes;
    }

-- a limit is passed by a number
passed : (most deepest count names : ℕ) (directory : Bool) → (nat_le most count || nat_lt deepest names && directory) ≡ true → (most ≤ count) ⊎ (deepest < names)
passed most deepest count names directory h = by (nat_le most count) refl (nat_lt deepest names) refl h
  where
    by : (a : Bool) → nat_le most count ≡ a → (b : Bool) → nat_lt deepest names ≡ b → (a || b && directory) ≡ true → (most ≤ count) ⊎ (deepest < names)
    by true e b k is = inl (leb-true most count e)
    by false e true k is = inr (leb-true (suc deepest) names k)
    by false e false k is = absurd (untrue is)

-- a walk met every entry where it met fewer than it may, and where no path has so many names
pub unlimited : (limits : Limits) (tree : Tree) (skips : Path → Bool) (start : Path) (walk : Walk) → walk ≡ walked limits tree skips start → length walk.met < limits.entries
    → IfSome walk.over (λ far. length far ≤ limits.depth) → walk.met ≡ map (met_at tree) (entries tree skips start)
unlimited limits tree skips start walk is few short = by walk.over refl short
  where
    by : (over : Option Path) → walk.over ≡ over → IfSome over (λ far. length far ≤ limits.depth) → walk.met ≡ map (met_at tree) (entries tree skips start)
    by None e shorter = ap (λ (w : Walk). w.met) is ∙ met_all limits tree skips start (sym (ap (λ (w : Walk). w.over) is) ∙ e)
    by (Some far) e shorter =
        let front = met_before limits tree skips start far (sym (ap (λ (w : Walk). w.over) is) ∙ e) in
        let count : length (walked limits tree skips start).met ≡ length walk.met = ap (λ (w : Walk). length w.met) (sym is) in
        absurd (elim (passed limits.entries (length start + limits.depth) (length (walked limits tree skips start).met) (length far) (is_dir (node_at tree far)) front.passes) as (λ _. ⊥) [
          | inl h ↦ omega (arith, h, count, few)
          | inr h ↦ omega (arith, h, shorter)
        ])

-- ---- what all of a list pass

-- what all in a list pass, each one in it does
pub got_held : (test : Path → Bool) (paths : List Path) (n : ℕ) (q : Path) → list_all test paths ≡ true → slice_get paths n ≡ Some q → test q ≡ true
got_held test [] n q all e = let impossible : None ≡ Some q = e in absurd (cc)
got_held test (path ∷ paths) zero q all e = let is : path ≡ q = cc in ap test (sym is) ∙ first_so (test path) (list_all test paths) all
got_held test (path ∷ paths) (suc n) q all e = got_held test paths n q (second_so (test path) (list_all test paths) all) e

pub found_held : (test looked : Path → Bool) (paths : List Path) (q : Path) → list_all test paths ≡ true → find looked paths ≡ Some q → test q ≡ true
found_held test looked [] q all e = let impossible : None ≡ Some q = e in absurd (cc)
found_held test looked (path ∷ paths) q all e = by (looked path) refl (found_held test looked paths q (second_so (test path) (list_all test paths) all))
  where
    by : (b : Bool) → looked path ≡ b → (find looked paths ≡ Some q → test q ≡ true) → test q ≡ true
    by true h later =
        let some : Some path ≡ Some q = sym (ap (λ b. cond b (Some path) (find looked paths)) h) ∙ e in
        let is : path ≡ q = cc in ap test (sym is) ∙ first_so (test path) (list_all test paths) all
    by false h later = later (sym (ap (λ b. cond b (Some path) (find looked paths)) h) ∙ e)
