-- Laws of lists of paths as sets.
use Rattle.std.proofs.Common.{◌≡◌, ℕ, ◌+◌, ◌-◌, ◌<◌, ◌≤◌, Bool, true, false, cond, ◌&&◌, ◌||◌, not, List, [], ◌∷◌, ◌++◌, length, take, drop, refl, sym, ap, ◌∙◌, subst, arith, length-append, append-nil, reverse, nat_eq}
use Rattle.std.specs.List.{list_all, list_any}
use Rattle.std.specs.Cmp.{first_so, second_so, eq_by_cmp_equiv}
use Rattle.std.specs.Cmp.Derive.{both_true}
use Rattle.std.proofs.lemmas.Bool.{eqb-true, eqb-false}
use Rattle.std.proofs.lemmas.Grind.{common_steps}
use Rattle.std.proofs.lemmas.List.{take-append-drop, reverse-append}
use Rattle.std.proofs.lemmas.List.Folds.{list_any-append, list_all-append}
use Rattle.std.specs.Prelude.{codes}
use Rattle.kb_world.specs.declared.roots.Roots.{Roots}
use Rattle.kb_world.specs.Path.{Path, child, is_under}
use Rattle.kb_world.specs.Roots.{is_below}
use Rattle.kb_world.specs.TreeLaws.{same_path, same_path-true, same_path-refl, paths_total}
use Rattle.kb_world.proofs.PathLaws.{by_test, under-append, under-self, under-split}
use Rattle.kb_changes.specs.Valid.{is_among_paths, HoldSame, none_below, none_among, none_under, deepest_first, deepest_last, all_differ, is_version_dir, is_scratch_wiped}

-- tests that pass together are one
pub both_ways : (a b : Bool) → (a ≡ true → b ≡ true) → (b ≡ true → a ≡ true) → a ≡ b
both_ways true b f g = sym (f refl)
both_ways false true f g = g refl
both_ways false false f g = refl

pub same_path-turned : (a b : Path) → same_path a b ≡ same_path b a
same_path-turned a b = (eq_by_cmp_equiv paths_total).symm a b

-- ---- a list that holds the same

-- a path of the list that passes
pub record Passes (f : Path → Bool) (paths : List Path) : Type 0 where
  pub path : Path
  pub passes : f path ≡ true
  pub among : is_among_paths paths path ≡ true

passes_behind : (f : Path → Bool) (path : Path) (paths : List Path) → Passes f paths → Passes f (path ∷ paths)
passes_behind f path paths found = record {
  path = found.path;
  passes = found.passes;
  among = grind (arith, found.among);
}

pub passing : (f : Path → Bool) (paths : List Path) → list_any f paths ≡ true → Passes f paths
passing f [] h = let q : true ≡ false = sym h in cc
passing f (path ∷ paths) h = by_case (f path) refl (passing f paths)
  where
    by_case : (b : Bool) → f path ≡ b → (list_any f paths ≡ true → Passes f paths) → Passes f (path ∷ paths)
    by_case true e behind = record { path = path; passes = e; among = ap (λ b. b || is_among_paths paths path) (same_path-refl path) }
    by_case false e behind = passes_behind f path paths (behind (sym (ap (λ b. b || list_any f paths) e) ∙ h))

pub some_passes : (f : Path → Bool) (paths : List Path) (path : Path) → f path ≡ true → is_among_paths paths path ≡ true → list_any f paths ≡ true
some_passes f [] path e h = let q : true ≡ false = sym h in cc
some_passes f (other ∷ paths) path e h = by_case (same_path path other) refl (some_passes f paths path e)
  where
    by_case : (b : Bool) → same_path path other ≡ b → (is_among_paths paths path ≡ true → list_any f paths ≡ true) → list_any f (other ∷ paths) ≡ true
    by_case true same more = ap (λ b. b || list_any f paths) (ap f (sym (same_path-true path other same)) ∙ e)
    by_case false same more =
        let behind = more (sym (ap (λ b. b || is_among_paths paths path) same) ∙ h) in
        grind (arith, behind)

pub any_same : (f : Path → Bool) (a b : List Path) → HoldSame a b → list_any f a ≡ list_any f b
any_same f a b alike = both_ways (list_any f a) (list_any f b)
    (λ h. let found = passing f a h in some_passes f b found.path found.passes (sym (alike found.path) ∙ found.among))
    (λ h. let found = passing f b h in some_passes f a found.path found.passes (alike found.path ∙ found.among))

-- ---- all and any

all_alike : (f g : Path → Bool) (paths : List Path) → ((path : Path) → f path ≡ g path) → list_all f paths ≡ list_all g paths
all_alike f g [] alike = refl
all_alike f g (path ∷ paths) alike = (λ i. alike path i && all_alike f g paths alike i)

pub none_among-same : (a b paths : List Path) → HoldSame a b → none_among a paths ≡ none_among b paths
none_among-same a b paths alike = all_alike _ _ paths (λ path. ap not (alike path))

pub none_under-same : (a b paths : List Path) → HoldSame a b → none_under a paths ≡ none_under b paths
none_under-same a b paths alike = all_alike _ _ paths (λ path. ap not (any_same (is_under path) a b alike))

pub none_below-same : (a b paths : List Path) → HoldSame a b → none_below a paths ≡ none_below b paths
none_below-same a b paths alike = all_alike _ _ paths (λ path. ap not (any_same (is_below path) a b alike))

-- ---- a path more before what is left

shuffled : (a b c d : Bool) → (not (a || b) && (c && d)) ≡ ((not a && c) && (not b && d))
shuffled true b c d = refl
shuffled false true true d = refl
shuffled false true false d = refl
shuffled false false c d = refl

-- none passes either test, where none passes the one and none the other
pub none_either : (f g : Path → Bool) (paths : List Path) → list_all (λ path. not (f path || g path)) paths ≡ (list_all (λ path. not (f path)) paths && list_all (λ path. not (g path)) paths)
none_either f g [] = refl
none_either f g (path ∷ paths) = ap (λ b. not (f path || g path) && b) (none_either f g paths) ∙ shuffled (f path) (g path) _ _

none_any : (f : Path → Bool) (paths : List Path) → list_all (λ path. not (f path)) paths ≡ not (list_any f paths)
none_any f [] = refl
none_any f (path ∷ paths) = by_case (f path) (none_any f paths)
  where
    by_case : (b : Bool) → list_all (λ other. not (f other)) paths ≡ not (list_any f paths) → (not b && list_all (λ other. not (f other)) paths) ≡ not (b || list_any f paths)
    by_case true behind = refl
    by_case false behind = behind

regrouped_step : (p q r s : Bool) → p ≡ true → (p && q && (r && s)) ≡ ((r && q) && s)
regrouped_step true q true s h = ap (λ b. q && b) refl ∙ refl
regrouped_step true true false s h = refl
regrouped_step true false false s h = refl
regrouped_step false q r s h = let q : true ≡ false = sym h in cc

-- the order of what is left, behind a path more
pub deepest_step : (earlier more rest : List Path) (path : Path) → HoldSame more (path ∷ earlier) → list_any (is_below path) earlier ≡ false →
    (none_below earlier (path ∷ rest) && deepest_first (path ∷ rest)) ≡ (none_below more rest && deepest_first rest)
deepest_step earlier more rest path alike none =
    let now : none_below more rest ≡ (list_all (λ later. not (is_below later path)) rest && none_below earlier rest) =
    none_below-same more (path ∷ earlier) rest alike ∙ none_either (λ later. is_below later path) (λ later. list_any (is_below later) earlier) rest in
    regrouped_step (not (list_any (is_below path) earlier)) (none_below earlier rest) (list_all (λ later. not (is_below later path)) rest) (deepest_first rest) (ap not none)
    ∙ ap (λ b. b && deepest_first rest) (sym now)

pub deepest_stop : (earlier rest : List Path) (path : Path) → list_any (is_below path) earlier ≡ true → (none_below earlier (path ∷ rest) && deepest_first (path ∷ rest)) ≡ false
deepest_stop earlier rest path some = ap (λ b. not b && none_below earlier rest && deepest_first (path ∷ rest)) some

pub differ_step : (earlier more rest : List Path) (path : Path) → HoldSame more (path ∷ earlier) → is_among_paths earlier path ≡ false →
    (none_among earlier (path ∷ rest) && all_differ (path ∷ rest)) ≡ (none_among more rest && all_differ rest)
differ_step earlier more rest path alike none =
    let apart : list_all (λ later. not (same_path later path)) rest ≡ not (is_among_paths rest path) =
    all_alike (λ later. not (same_path later path)) (λ later. not (same_path path later)) rest (λ later. ap not (same_path-turned later path)) ∙ none_any (same_path path) rest in
    let now : none_among more rest ≡ (not (is_among_paths rest path) && none_among earlier rest) =
    none_among-same more (path ∷ earlier) rest alike ∙ none_either (λ later. same_path later path) (λ later. is_among_paths earlier later) rest
    ∙ ap (λ b. b && none_among earlier rest) apart in
    regrouped_step (not (is_among_paths earlier path)) (none_among earlier rest) (not (is_among_paths rest path)) (all_differ rest) (ap not none)
    ∙ ap (λ b. b && all_differ rest) (sym now)

pub differ_stop : (earlier rest : List Path) (path : Path) → is_among_paths earlier path ≡ true → (none_among earlier (path ∷ rest) && all_differ (path ∷ rest)) ≡ false
differ_stop earlier rest path some = ap (λ b. not b && none_among earlier rest && all_differ (path ∷ rest)) some

-- ---- the other way round

snoc_deepest : (paths : List Path) (path : Path) → deepest_first (paths ++ path ∷ []) ≡ (not (list_any (is_below path) paths) && deepest_first paths)
snoc_deepest [] path = refl
snoc_deepest (first ∷ paths) path =
    let behind : list_all (λ later. not (is_below later first)) (paths ++ path ∷ []) ≡ (list_all (λ later. not (is_below later first)) paths && (not (is_below path first) && true)) =
    list_all-append (λ later. not (is_below later first)) paths (path ∷ []) in
    (λ i. behind i && snoc_deepest paths path i) ∙ turned (list_all (λ later. not (is_below later first)) paths) (is_below path first) (list_any (is_below path) paths) (deepest_first paths)
  where
    turned : (p q r s : Bool) → ((p && (not q && true)) && (not r && s)) ≡ (not (q || r) && (p && s))
    turned true true r s = refl
    turned true false true s = refl
    turned true false false s = refl
    turned false true r s = refl
    turned false false true s = refl
    turned false false false s = refl

any_reversed : (f : Path → Bool) (paths : List Path) → list_any f (reverse paths) ≡ list_any f paths
any_reversed f [] = refl
any_reversed f (path ∷ paths) =
    ap (list_any f) (reverse-append (path ∷ []) paths) ∙ list_any-append f (reverse paths) (path ∷ []) ∙ ap (λ b. b || (f path || false)) (any_reversed f paths) ∙ turned (list_any f paths) (f path)
  where
    turned : (a b : Bool) → (a || (b || false)) ≡ (b || a)
    turned true true = refl
    turned true false = refl
    turned false true = refl
    turned false false = refl

pub deepest_last_turned : (paths : List Path) → deepest_first (reverse paths) ≡ deepest_last paths
deepest_last_turned [] = refl
deepest_last_turned (path ∷ paths) =
    ap deepest_first (reverse-append (path ∷ []) paths) ∙ snoc_deepest (reverse paths) path
    ∙ (λ i. (ap not (any_reversed (is_below path) paths) ∙ sym (none_any (is_below path) paths)) i && deepest_last_turned paths i)

-- ---- the paths above a path

not_both : (b : Bool) → b ≡ true → not b ≡ true → ⊥
not_both true h k = let q : true ≡ false = sym k in cc
not_both false h k = let q : true ≡ false = sym h in cc

-- the path without some of its last names is above it
pub above-below : (path : Path) (k : ℕ) → k < length path → is_below path (take k path) ≡ true
above-below path k short =
    let under : is_under path (take k path) ≡ true = subst (λ whole. is_under whole (take k path) ≡ true) (take-append-drop k path) (under-append (take k path) (drop k path)) in
    let not_back : is_under (take k path) path ≡ false = by_test _ (λ back.
    absurd (omega (arith, ap length (under-split (take k path) path back), length-append path (drop (length path) (take k path)), length_front path k short))) in
    both_true under (ap not not_back)
  where
    length_front : (path : Path) (k : ℕ) → k < length path → length (take k path) ≡ k
    length_front path k short = grind (arith, common_steps)

-- a path that another is below is the other without some of its last names
pub record IsAbove (path above : Path) : Type 0 where
  pub short : length above < length path
  pub front : above ≡ take (length above) path

pub below-above : (path above : Path) → is_below path above ≡ true → IsAbove path above
below-above path above h =
    let under = first_so (is_under path above) _ h in
    let split = under-split path above under in
    let front : above ≡ take (length above) path = sym (ap (take (length above)) split ∙ take_front above (drop (length above) path)) in
    record {
      short = by_length (drop (length above) path) refl;
      front = front;
    }
  where
    take_front : (a b : Path) → take (length a) (a ++ b) ≡ a
    take_front a b = grind (arith, common_steps)

    by_length : (rest : Path) → drop (length above) path ≡ rest → length above < length path
    by_length [] e = absurd (not_both (is_under above path) (subst (λ p. is_under above p ≡ true) (sym (under-split path above (first_so (is_under path above) _ h) ∙ ap (λ rest. above ++ rest) e ∙ append-nil above)) (under-self above)) (second_so (is_under path above) _ h))
    by_length (name ∷ rest) e = omega (arith, ap length (under-split path above (first_so (is_under path above) _ h) ∙ ap (λ rest. above ++ rest) e), length-append above (name ∷ rest))

-- none of the path's directories from the one with so many names on is in the set
abbrev pub NoneBetween : List Path → Path → ℕ → Type 0
NoneBetween paths path n = (k : ℕ) → n ≤ k → k < length path → is_among_paths paths (take k path) ≡ false

pub none_above : (paths : List Path) (path : Path) → NoneBetween paths path 0 → list_any (is_below path) paths ≡ false
none_above paths path none = by_test _ (λ some.
    let found = passing (is_below path) paths some in
    let above = below-above path found.path found.passes in
    let q : true ≡ false = sym found.among ∙ ap (is_among_paths paths) above.front ∙ none (length found.path) (omega arith) above.short in cc)

pub some_above : (paths : List Path) (path : Path) (k : ℕ) → k < length path → is_among_paths paths (take k path) ≡ true → list_any (is_below path) paths ≡ true
some_above paths path k short among = some_passes (is_below path) paths (take k path) (above-below path k short) among

-- the test of being at or under is that of being the same or below
pub under_or_same : (path other : Path) → is_under path other ≡ (same_path path other || is_below path other)
under_or_same path other = both_ways _ _ (λ under. by_case (is_under other path) refl under) (λ either. by_same (same_path path other) refl either)
  where
    no_length : (rest : Path) → length rest ≡ 0 → rest ≡ []
    no_length [] e = refl
    no_length (name ∷ rest) e = absurd (omega (arith, e))

    same_of : is_under path other ≡ true → is_under other path ≡ true → same_path path other ≡ true
    same_of under back =
        let split = under-split path other under in
        let back_split = under-split other path back in
        let short : length (drop (length other) path) ≡ 0 = omega (arith, ap length split, ap length back_split, length-append other (drop (length other) path), length-append path (drop (length path) other)) in
        let one : path ≡ other = split ∙ ap (λ rest. other ++ rest) (no_length (drop (length other) path) short) ∙ append-nil other in
        subst (λ q. same_path path q ≡ true) one (same_path-refl path)

    by_case : (b : Bool) → is_under other path ≡ b → is_under path other ≡ true → (same_path path other || is_below path other) ≡ true
    by_case true back under = ap (λ b. b || is_below path other) (same_of under back)
    by_case false back under = grind (arith, both_true under (ap not back))

    by_same : (b : Bool) → same_path path other ≡ b → (same_path path other || is_below path other) ≡ true → is_under path other ≡ true
    by_same true same either = subst (λ q. is_under path q ≡ true) (same_path-true path other same) (under-self path)
    by_same false same either = first_so (is_under path other) _ (sym (ap (λ b. b || is_below path other) same) ∙ either)

any_either : (f g h : Path → Bool) (paths : List Path) → ((path : Path) → f path ≡ (g path || h path)) → list_any f paths ≡ (list_any g paths || list_any h paths)
any_either f g h [] e = refl
any_either f g h (path ∷ paths) e = (λ i. e path i || any_either f g h paths e i) ∙ turned (g path) (h path) (list_any g paths) (list_any h paths)
  where
    turned : (a b c d : Bool) → ((a || b) || (c || d)) ≡ ((a || c) || (b || d))
    turned true b c d = refl
    turned false true true d = refl
    turned false true false d = refl
    turned false false c d = refl

pub any_under : (path : Path) (paths : List Path) → list_any (is_under path) paths ≡ (is_among_paths paths path || list_any (is_below path) paths)
any_under path paths = any_either (is_under path) (same_path path) (is_below path) paths (under_or_same path)

-- ---- in code

-- a set with a path more
pub inserted : (old new : List Path) (key path : Path) → key ≡ path → ((q : Path) → is_among_paths new q ≡ cond (same_path key q) true (is_among_paths old q)) → HoldSame new (path ∷ old)
inserted old new key path is grew q = grew q ∙ ap (λ test. cond test true (is_among_paths old q)) (same_path-turned key q ∙ ap (same_path q) is) ∙ either (same_path q path) (is_among_paths old q)
  where
    either : (a b : Bool) → cond a true b ≡ (a || b)
    either true b = refl
    either false b = refl

-- the directory of the path with so many names less
pub parent_front : (path above made : Path) (i n : ℕ) → n ≡ length path → i < n → above ≡ take (length path - i) path → made ≡ take (length above - 1) above → made ≡ take (length path - (i + 1)) path
parent_front path above made i n len within is up =
    let count : length above - 1 ≡ length path - (i + 1) = omega (arith, ap length is, front_length path (length path - i) (omega arith)) in
    up ∙ (λ k. take (count k) (is k)) ∙ take_less path (length path - (i + 1)) (length path - i) (omega (arith, len, within))
  where
    front_length : (xs : Path) (k : ℕ) → k ≤ length xs → length (take k xs) ≡ k
    front_length xs k short = grind (arith, common_steps)

    take_less : (xs : Path) (a b : ℕ) → a ≤ b → take a (take b xs) ≡ take a xs
    take_less [] a b short = search (arith, common_steps)
    take_less (x ∷ xs) a b short = grind (arith, common_steps)

pub none_between_more : (paths : List Path) (path made : Path) (i n : ℕ) → n ≡ length path → i < n → made ≡ take (length path - (i + 1)) path → is_among_paths paths made ≡ false →
    NoneBetween paths path (length path - i) → NoneBetween paths path (length path - (i + 1))
none_between_more paths path made i n len within is none so k from short = by_place (nat_eq k (length path - (i + 1))) refl
  where
    by_place : (b : Bool) → nat_eq k (length path - (i + 1)) ≡ b → is_among_paths paths (take k path) ≡ false
    by_place true e = ap (λ j. is_among_paths paths (take j path)) (eqb-true k _ e) ∙ ap (is_among_paths paths) (sym is) ∙ none
    by_place false e = so k (omega (arith, len, within, from, eqb-false k _ e)) short

pub none_from : (paths : List Path) (path : Path) (i n : ℕ) → n ≡ length path → n ≤ i → NoneBetween paths path (length path - i) → list_any (is_below path) paths ≡ false
none_from paths path i n len over so = none_above paths path (λ k from short. so k (omega (arith, len, over)) short)

all_true : (paths : List Path) → list_all (λ path. true) paths ≡ true
all_true [] = refl
all_true (path ∷ paths) = all_true paths

pub none_below-nil : (others paths : List Path) → others ≡ [] → none_below others paths ≡ true
none_below-nil others paths none = ap (λ os. none_below os paths) none ∙ all_true paths

pub none_among-nil : (others paths : List Path) → others ≡ [] → none_among others paths ≡ true
none_among-nil others paths none = ap (λ os. none_among os paths) none ∙ all_pass paths
  where
    all_pass : (paths : List Path) → none_among [] paths ≡ true
    all_pass paths = all_true paths

pub not_not : (b : Bool) → not b ≡ true → b ≡ false
not_not true h = sym h
not_not false h = refl

pub regrouped : (a b c d e p q r s t : Bool) → a ≡ p → b ≡ q → c ≡ r → d ≡ s → e ≡ t → ((((a || b) || c) || d) || e) ≡ (p || (q || (r || (s || (t || false)))))
regrouped a b c d e p q r s t ap_ bq cr ds et = (λ i. (((ap_ i || bq i) || cr i) || ds i) || et i) ∙ by_case p q r s t
  where
    by_case : (p q r s t : Bool) → ((((p || q) || r) || s) || t) ≡ (p || (q || (r || (s || (t || false)))))
    by_case true q r s t = refl
    by_case false true r s t = refl
    by_case false false true s t = refl
    by_case false false false true t = refl
    by_case false false false false true = refl
    by_case false false false false false = refl

pub scratch-same : (roots : Roots) (a b paths : List Path) → HoldSame a b → list_all (is_scratch_wiped roots a) paths ≡ list_all (is_scratch_wiped roots b) paths
scratch-same roots a b paths alike = all_alike _ _ paths (λ path. ap (λ t. not (is_version_dir roots path) || t) (alike (child path (codes "build"))))
