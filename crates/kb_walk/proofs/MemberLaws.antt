-- Rising lists of paths are told by what is in them.
use Rattle.std.proofs.Common.{◌≡◌, Bool, true, false, cond, ◌&&◌, ◌||◌, not, List, [], ◌∷◌, ◌++◌, refl, sym, ap, ◌∙◌, map, Ordering}
use Rattle.std.specs.Prelude.{filter, flat_map}
use Rattle.std.specs.List.{list_all, list_any}
use Rattle.std.specs.FinMap.{keys}
use Rattle.std.specs.declared.cmp.Ordering.TheVariants.{Less, Equal, Greater}
use Rattle.std.specs.Ordering.{is_lt, ordering_reverse}
use Rattle.std.specs.Cmp.{first_so, second_so, tied_itself, both_ways}
use Rattle.std.specs.Cmp.Derive.{both_true}
use Rattle.kb_world.specs.Path.{Path, path_cmp}
use Rattle.kb_world.specs.Roots.{is_below}
use Rattle.kb_world.specs.Tree.{Tree}
use Rattle.kb_world.specs.TreeLaws.{same_path, same_path-true, same_path-refl, paths_total, paths_exact}
use Rattle.kb_walk.specs.Walking.{paths_below, entries}
use Rattle.kb_walk.proofs.OrderLaws.{less, in_front, untrue, rises, is_in, in_more, holds_of, in_rest}
use Rattle.kb_walk.proofs.WalkLaws.{rises_keys}

-- ---- the order of paths

-- no path is less than itself
pub not_itself : (path : Path) → is_lt (path_cmp path path) ≡ true → ⊥
not_itself path h = untrue (sym (ap is_lt (tied_itself paths_total path)) ∙ h)

-- of two paths only one is less
pub not_both : (a b : Path) → is_lt (path_cmp a b) ≡ true → is_lt (path_cmp b a) ≡ true → ⊥
not_both a b h k = untrue (sym (ap is_lt (paths_total.antisymm b a ∙ ap ordering_reverse (less (path_cmp a b) h))) ∙ k)

-- what is less than a lesser one is less
pub less_then : (a b c : Path) → is_lt (path_cmp a b) ≡ true → is_lt (path_cmp b c) ≡ true → is_lt (path_cmp a c) ≡ true
less_then a b c h k = ap is_lt (paths_total.trans a b c (less (path_cmp a b) h) (less (path_cmp b c) k))

-- ---- what is in a list

-- what is in a list is at its front or behind it
pub front_or_behind : (path x : Path) (paths : List Path) (C : Type 0) → (path ≡ x → C) → (is_in path paths → C) → is_in path (x ∷ paths) → C
front_or_behind path x paths C front behind h = by (same_path path x) refl
  where
    by : (b : Bool) → same_path path x ≡ b → C
    by true e = front (same_path-true path x e)
    by false e = behind (sym (ap (λ b. b || list_any (same_path path) paths) e) ∙ h)

-- what passes the test and was in the list
pub in_filter : (test : Path → Bool) (paths : List Path) (path : Path) → list_any (same_path path) (filter test paths) ≡ (test path && list_any (same_path path) paths)
in_filter test [] path = sym (and_false (test path))
  where
    and_false : (a : Bool) → (a && false) ≡ false
    and_false true = refl
    and_false false = refl
in_filter test (x ∷ paths) path = by (same_path path x) refl (test x) refl (in_filter test paths path)
  where
    by : (same : Bool) → same_path path x ≡ same → (passes : Bool) → test x ≡ passes → list_any (same_path path) (filter test paths) ≡ (test path && list_any (same_path path) paths)
        → list_any (same_path path) (cond (test x) (x ∷ filter test paths) (filter test paths)) ≡ (test path && (same_path path x || list_any (same_path path) paths))
    by same e true f later =
        ap (λ b. list_any (same_path path) (cond b (x ∷ filter test paths) (filter test paths))) f ∙ at_front same e
      where
        at_front : (same : Bool) → same_path path x ≡ same → (same_path path x || list_any (same_path path) (filter test paths)) ≡ (test path && (same_path path x || list_any (same_path path) paths))
        at_front true e =
            let passes : test path ≡ true = ap test (same_path-true path x e) ∙ f in
            ap (λ b. b || list_any (same_path path) (filter test paths)) e ∙ sym (λ i. passes i && (e i || list_any (same_path path) paths))
        at_front false e = ap (λ b. b || list_any (same_path path) (filter test paths)) e ∙ later ∙ sym (ap (λ b. test path && (b || list_any (same_path path) paths)) e)
    by true e false f later =
        let fails : test path ≡ false = ap test (same_path-true path x e) ∙ f in
        ap (λ b. list_any (same_path path) (cond b (x ∷ filter test paths) (filter test paths))) f ∙ later ∙ ap (λ b. b && list_any (same_path path) paths) fails
        ∙ sym (ap (λ b. b && (same_path path x || list_any (same_path path) paths)) fails)
    by false e false f later = ap (λ b. list_any (same_path path) (cond b (x ∷ filter test paths) (filter test paths))) f ∙ later ∙ sym (ap (λ b. test path && (b || list_any (same_path path) paths)) e)

-- what holds of all holds of those that pass
all_filter : (test : Path → Bool) (goes : Path → Bool) (paths : List Path) → list_all goes paths ≡ true → list_all goes (filter test paths) ≡ true
all_filter test goes [] h = refl
all_filter test goes (x ∷ paths) h = by (test x) (first_so (goes x) (list_all goes paths) h) (all_filter test goes paths (second_so (goes x) (list_all goes paths) h))
  where
    by : (b : Bool) → goes x ≡ true → list_all goes (filter test paths) ≡ true → list_all goes (cond b (x ∷ filter test paths) (filter test paths)) ≡ true
    by true here later = both_true here later
    by false here later = later

-- what passes a test rises too
pub rises_filter : (test : Path → Bool) (paths : List Path) → rises paths ≡ true → rises (filter test paths) ≡ true
rises_filter test [] h = refl
rises_filter test (x ∷ paths) h = by (test x) (rises_filter test paths (second_so (list_all (λ other. is_lt (path_cmp x other)) paths) (rises paths) h))
  where
    by : (b : Bool) → rises (filter test paths) ≡ true → rises (cond b (x ∷ filter test paths) (filter test paths)) ≡ true
    by true later = both_true (all_filter test (λ other. is_lt (path_cmp x other)) paths (first_so (list_all (λ other. is_lt (path_cmp x other)) paths) (rises paths) h)) later
    by false later = later

-- the same values at all that is in a list
pub map_same : {A : Type 0} (f g : Path → A) (paths : List Path) → ((path : Path) → is_in path paths → f path ≡ g path) → map f paths ≡ map g paths
map_same f g [] same = refl
map_same f g (x ∷ paths) same =
    let here = same x (in_front x paths) in
    let later = map_same f g paths (λ path h. same path (in_more path x paths h)) in
    λ i. here i ∷ later i

-- ---- rising lists with the same paths are one

-- in a rising list all behind a path are greater
pub later_than : (x : Path) (paths : List Path) → rises (x ∷ paths) ≡ true → (path : Path) → is_in path paths → is_lt (path_cmp x path) ≡ true
later_than x paths up path h = holds_of (λ other. is_lt (path_cmp x other)) paths path (first_so (list_all (λ other. is_lt (path_cmp x other)) paths) (rises paths) up) h

-- and so it isn't among them
not_behind : (x : Path) (paths : List Path) → rises (x ∷ paths) ≡ true → is_in x paths → ⊥
not_behind x paths up h = not_itself x (later_than x paths up x h)

abbrev pub HaveSame : List Path → List Path → Type 0
HaveSame xs ys = (path : Path) → list_any (same_path path) xs ≡ list_any (same_path path) ys

-- lists that rise are one where the same paths are in them
pub same_members : (xs ys : List Path) → rises xs ≡ true → rises ys ≡ true → HaveSame xs ys → xs ≡ ys
same_members [] [] up vp same = refl
same_members [] (y ∷ ys) up vp same = absurd (untrue (same y ∙ in_front y ys))
same_members (x ∷ xs) [] up vp same = absurd (untrue (sym (same x) ∙ in_front x xs))
same_members (x ∷ xs) (y ∷ ys) up vp same =
    let fronts : x ≡ y = front_or_behind x y ys (x ≡ y) (λ e. e) (λ h. front_or_behind y x xs (x ≡ y) (λ e. sym e) (λ k. absurd (not_both x y (later_than x xs up y k) (later_than y ys vp x h))) (same y ∙ in_front y ys)) (sym (same x) ∙ in_front x xs) in
    let rests = same_members xs ys (second_so (list_all (λ other. is_lt (path_cmp x other)) xs) (rises xs) up) (second_so (list_all (λ other. is_lt (path_cmp y other)) ys) (rises ys) vp) (behind fronts) in
    λ i. fronts i ∷ rests i
  where
    behind : x ≡ y → HaveSame xs ys
    behind e path = both_ways (list_any (same_path path) xs) (list_any (same_path path) ys)
        (λ h. in_rest path y ys (λ is. not_behind x xs up (sym (ap (λ p. list_any (same_path p) xs) (is ∙ sym e)) ∙ h)) (sym (same path) ∙ in_more path x xs h))
        (λ h. in_rest path x xs (λ is. not_behind y ys vp (sym (ap (λ p. list_any (same_path p) ys) (is ∙ e)) ∙ h)) (same path ∙ in_more path y ys h))

-- ---- the entries below a directory

-- what an entry is
pub in_entries : (tree : Tree) (skips : Path → Bool) (d path : Path) → list_any (same_path path) (entries tree skips d) ≡ (not (skips path) && (is_below path d && list_any (same_path path) (keys tree)))
in_entries tree skips d path = in_filter (λ q. not (skips q)) (paths_below tree d) path ∙ ap (λ b. not (skips path) && b) (in_filter (λ q. is_below q d) (keys tree) path)

-- where nothing is skipped, they are all that is below it
pub skips_none : (tree : Tree) (d : Path) → entries tree (λ path. false) d ≡ paths_below tree d
skips_none tree d = all_pass (paths_below tree d)
  where
    all_pass : (paths : List Path) → filter (λ path. true) paths ≡ paths
    all_pass [] = refl
    all_pass (x ∷ paths) = ap (λ l. x ∷ l) (all_pass paths)

-- entries rise
pub entries_rise : (tree : Tree) (skips : Path → Bool) (d : Path) → rises (entries tree skips d) ≡ true
entries_rise tree skips d = rises_filter (λ q. not (skips q)) (paths_below tree d) (rises_filter (λ q. is_below q d) (keys tree) (rises_keys tree))

-- ---- the order, further

-- what is less than a path is less than any that isn't
pub less_through : (a b c : Path) → is_lt (path_cmp a b) ≡ true → is_lt (path_cmp c b) ≡ false → is_lt (path_cmp a c) ≡ true
less_through a b c h k = by (path_cmp c b) refl
  where
    by : (o : Ordering) → path_cmp c b ≡ o → is_lt (path_cmp a c) ≡ true
    by Less e = absurd (untrue (sym k ∙ ap is_lt e))
    by Equal e = ap (λ p. is_lt (path_cmp a p)) (paths_exact c b e) ∙ h
    by Greater e = less_then a b c h (ap is_lt (paths_total.antisymm b c ∙ ap ordering_reverse e))

-- of two paths of which neither is less both are one
pub neither_less : (a b : Path) → is_lt (path_cmp a b) ≡ false → is_lt (path_cmp b a) ≡ false → a ≡ b
neither_less a b h k = by (path_cmp a b) refl
  where
    by : (o : Ordering) → path_cmp a b ≡ o → a ≡ b
    by Less e = absurd (untrue (sym h ∙ ap is_lt e))
    by Equal e = paths_exact a b e
    by Greater e = absurd (untrue (sym k ∙ ap is_lt (paths_total.antisymm b a ∙ ap ordering_reverse e)))

-- ---- lists that are joined

-- in the first of two lists
pub in_left : (path : Path) (xs ys : List Path) → is_in path xs → is_in path (xs ++ ys)
in_left path [] ys h = absurd (untrue h)
in_left path (x ∷ xs) ys h = front_or_behind path x xs (is_in path ((x ∷ xs) ++ ys)) (λ e. ap (λ b. b || list_any (same_path path) (xs ++ ys)) (ap (same_path path) (sym e) ∙ same_path-refl path)) (λ later. in_more path x (xs ++ ys) (in_left path xs ys later)) h

-- in the second
pub in_right : (path : Path) (xs ys : List Path) → is_in path ys → is_in path (xs ++ ys)
in_right path [] ys h = h
in_right path (x ∷ xs) ys h = in_more path x (xs ++ ys) (in_right path xs ys h)

-- in one of both
pub in_either : (path : Path) (xs ys : List Path) (C : Type 0) → (is_in path xs → C) → (is_in path ys → C) → is_in path (xs ++ ys) → C
in_either path [] ys C left right h = right h
in_either path (x ∷ xs) ys C left right h =
    front_or_behind path x (xs ++ ys) C (λ e. left (ap (λ b. b || list_any (same_path path) xs) (ap (same_path path) (sym e) ∙ same_path-refl path))) (in_either path xs ys C (λ later. left (in_more path x xs later)) right) h

-- in one of the lists that the paths give
pub in_flat : (f : Path → List Path) (xs : List Path) (path : Path) (C : Type 0) → ((x : Path) → is_in x xs → is_in path (f x) → C) → is_in path (flat_map f xs) → C
in_flat f [] path C found h = absurd (untrue h)
in_flat f (x ∷ xs) path C found h = in_either path (f x) (flat_map f xs) C (found x (in_front x xs)) (in_flat f xs path C (λ y there. found y (in_more y x xs there))) h

-- and back
pub flat_in : (f : Path → List Path) (xs : List Path) (x path : Path) → is_in x xs → is_in path (f x) → is_in path (flat_map f xs)
flat_in f [] x path there h = absurd (untrue there)
flat_in f (y ∷ xs) x path there h =
    front_or_behind x y xs (is_in path (f y ++ flat_map f xs)) (λ e. in_left path (f y) (flat_map f xs) (sym (ap (λ z. list_any (same_path path) (f z)) e) ∙ h)) (λ later. in_right path (f y) (flat_map f xs) (flat_in f xs x path later h)) there

-- among the images of paths
pub in_map : (f : Path → Path) (xs : List Path) (path : Path) (C : Type 0) → ((x : Path) → path ≡ f x → C) → is_in path (map f xs) → C
in_map f [] path C found h = absurd (untrue h)
in_map f (x ∷ xs) path C found h = front_or_behind path (f x) (map f xs) C (found x) (in_map f xs path C found) h

-- a rising list from some path on
pub rises_behind : (xs ys : List Path) → rises (xs ++ ys) ≡ true → rises ys ≡ true
rises_behind [] ys up = up
rises_behind (x ∷ xs) ys up = rises_behind xs ys (second_so (list_all (λ other. is_lt (path_cmp x other)) (xs ++ ys)) (rises (xs ++ ys)) up)
