-- Paths in their order: those below a directory stand entry by entry, each followed by those below it.
use Rattle.std.proofs.Common.{◌≡◌, ◌≢◌, ◌⊎◌, inl, inr, ℕ, Bool, true, false, cond, ◌||◌, not, List, [], ◌∷◌, ◌++◌, Option, Some, None, refl, sym, ap, ◌∙◌, subst, Ordering}
use Rattle.std.specs.Prelude.{bytes_eq, filter, flat_map, filter_map}
use Rattle.std.specs.List.{list_all, list_any}
use Rattle.std.specs.declared.cmp.Ordering.TheVariants.{Less, Equal, Greater}
use Rattle.std.specs.Ordering.{is_lt, ordering_then, ordering_reverse, nat_cmp}
use Rattle.std.specs.Cmp.{first_so, second_so, tied_itself}
use Rattle.std.specs.Cmp.Derive.{both_true}
use Rattle.std.specs.Cmp.Lexicographic.{slice_cmp, bytes_decides, nat_list_cmp_total}
use Rattle.kb_world.specs.Path.{Path, path_cmp}
use Rattle.kb_world.specs.TreeLaws.{same_path, same_path-true, same_path-refl}
pub use Rattle.kb_walk.specs.Walking.{rises}
use Rattle.kb_world.proofs.PathLaws.{by_test}
use Rattle.std.specs.FinMap.{slice_cmp-IsAntisymmetric, nat_cmp-IsAntisymmetric}

pub untrue : false ≡ true → ⊥
untrue e = cc

-- a test whose negation holds fails
pub not_true : (b : Bool) → not b ≡ true → b ≡ false
not_true true h = absurd (untrue h)
not_true false h = refl

abbrev pub is_in : Path → List Path → Type 0
is_in path paths = list_any (same_path path) paths ≡ true

pub holds_of : (test : Path → Bool) (paths : List Path) (path : Path) → list_all test paths ≡ true → is_in path paths → test path ≡ true
holds_of test [] path all h = absurd (untrue h)
holds_of test (x ∷ paths) path all h = by (same_path path x) refl (λ later. holds_of test paths path (second_so (test x) (list_all test paths) all) later)
  where
    by : (b : Bool) → same_path path x ≡ b → (is_in path paths → test path ≡ true) → test path ≡ true
    by true e rest = ap test (same_path-true path x e) ∙ first_so (test x) (list_all test paths) all
    by false e rest = rest (sym (ap (λ b. b || list_any (same_path path) paths) e) ∙ h)

pub in_more : (path x : Path) (paths : List Path) → is_in path paths → is_in path (x ∷ paths)
in_more path x paths h = or_right (same_path path x) (list_any (same_path path) paths) h
  where
    or_right : (a b : Bool) → b ≡ true → (a || b) ≡ true
    or_right true b e = refl
    or_right false b e = e

-- in a list, but not at its front
pub in_rest : (path x : Path) (paths : List Path) → path ≢ x → is_in path (x ∷ paths) → is_in path paths
in_rest path x paths other h = by (same_path path x) refl
  where
    by : (b : Bool) → same_path path x ≡ b → is_in path paths
    by true e = absurd (other (same_path-true path x e))
    by false e = sym (ap (λ b. b || list_any (same_path path) paths) e) ∙ h

-- ---- names

name_itself : (name : List ℕ) → slice_cmp nat_cmp name name ≡ Equal
name_itself name = tied_itself nat_list_cmp_total name

not_lt : (order : Ordering) → order ≡ Greater → is_lt order ≡ true → ⊥
not_lt order e h = untrue (sym (ap is_lt e) ∙ h)

-- what is below an entry is greater than the entry
pub deeper : (name next : List ℕ) (rest : Path) → is_lt (path_cmp (name ∷ next ∷ rest) (name ∷ [])) ≡ true → ⊥
deeper name next rest h = not_lt (path_cmp (name ∷ next ∷ rest) (name ∷ [])) (ap (λ o. ordering_then o Greater) (name_itself name)) h

-- names that compare alike are one
pub names_exact : (a b : List ℕ) → slice_cmp nat_cmp a b ≡ Equal → a ≡ b
names_exact = slice_cmp-IsAntisymmetric nat_cmp-IsAntisymmetric

-- the order in which the first is less
pub less : (o : Ordering) → is_lt o ≡ true → o ≡ Less
less Less h = refl
less Equal h = absurd (untrue h)
less Greater h = absurd (untrue h)

first_less : (a b : Ordering) → ordering_then a Equal ≡ Less → a ≡ Less
first_less Less b h = refl
first_less Equal b h = h
first_less Greater b h = h

-- what is below a lesser entry isn't greater than an entry
pub lower : (name entry next : List ℕ) (rest : Path) → is_lt (path_cmp (name ∷ []) (entry ∷ [])) ≡ true → is_lt (path_cmp (entry ∷ []) (name ∷ next ∷ rest)) ≡ true → ⊥
lower name entry next rest h k =
    let one : slice_cmp nat_cmp name entry ≡ Less = first_less (slice_cmp nat_cmp name entry) Equal (less (path_cmp (name ∷ []) (entry ∷ [])) h) in
    let back : slice_cmp nat_cmp entry name ≡ Greater = nat_list_cmp_total.antisymm entry name ∙ ap ordering_reverse one in
    not_lt (path_cmp (entry ∷ []) (name ∷ next ∷ rest)) (ap (λ o. ordering_then o (slice_cmp (slice_cmp nat_cmp) [] (next ∷ rest))) back) k

-- ---- entries, and what is below them

-- the name of an entry
abbrev pub sole : Path → Option (List ℕ)
sole [] = None
sole (name ∷ []) = Some name
sole (name ∷ next ∷ rest) = None

abbrev pub is_beyond : List ℕ → Path → Bool
is_beyond name [] = false
is_beyond name (first ∷ []) = false
is_beyond name (first ∷ next ∷ rest) = bytes_eq name first

-- the paths below an entry
abbrev pub beyond : List ℕ → List Path → List Path
beyond name paths = filter (is_beyond name) paths

abbrev pub heads : List Path → List (List ℕ)
heads paths = filter_map sole paths

-- each entry, followed by what is below it
abbrev pub grouped : List Path → List (List ℕ) → List Path
grouped paths names = flat_map (λ name. (name ∷ []) ∷ beyond name paths) names

-- what is below an entry that stood before
abbrev pub part : Option (List ℕ) → List Path → List Path
part None paths = []
part (Some name) paths = beyond name paths

-- no path is empty; and above each there is its entry, or it is the one that stood before
pub record IsClosed (open_name : Option (List ℕ)) (paths : List Path) : Type 0 where
  pub some : is_in [] paths → ⊥
  pub heads_in : (name next : List ℕ) (rest : Path) → is_in (name ∷ next ∷ rest) paths → (open_name ≡ Some name) ⊎ is_in (name ∷ []) paths

abbrev pub IsBehind : Option (List ℕ) → List Path → Type 0
IsBehind None paths = Unit {0}
IsBehind (Some name) paths = list_all (λ other. is_lt (path_cmp (name ∷ []) other)) paths ≡ true

-- a path below an entry adds to no later entry
other_names : (first next : List ℕ) (rest : Path) (paths : List Path) → list_all (λ other. is_lt (path_cmp (first ∷ next ∷ rest) other)) paths ≡ true → list_all (λ name. not (bytes_eq name first)) (heads paths) ≡ true
other_names first next rest [] h = refl
other_names first next rest ([] ∷ paths) h = other_names first next rest paths (second_so (is_lt (path_cmp (first ∷ next ∷ rest) [])) (list_all (λ other. is_lt (path_cmp (first ∷ next ∷ rest) other)) paths) h)
other_names first next rest ((name ∷ []) ∷ paths) h =
    both_true (ap not (by_test (bytes_eq name first) (λ same.
    let is = (bytes_decides name first).0 same in
    deeper first next rest (subst (λ n. is_lt (path_cmp (first ∷ next ∷ rest) (n ∷ [])) ≡ true) is (first_so (is_lt (path_cmp (first ∷ next ∷ rest) (name ∷ []))) (list_all (λ other. is_lt (path_cmp (first ∷ next ∷ rest) other)) paths) h)))))
    (other_names first next rest paths (second_so (is_lt (path_cmp (first ∷ next ∷ rest) (name ∷ []))) (list_all (λ other. is_lt (path_cmp (first ∷ next ∷ rest) other)) paths) h))
other_names first next rest ((name ∷ more ∷ last) ∷ paths) h =
    other_names first next rest paths (second_so (is_lt (path_cmp (first ∷ next ∷ rest) (name ∷ more ∷ last))) (list_all (λ other. is_lt (path_cmp (first ∷ next ∷ rest) other)) paths) h)

same_groups : (first next : List ℕ) (rest : Path) (paths : List Path) (names : List (List ℕ)) → list_all (λ name. not (bytes_eq name first)) names ≡ true → grouped ((first ∷ next ∷ rest) ∷ paths) names ≡ grouped paths names
same_groups first next rest paths [] h = refl
same_groups first next rest paths (name ∷ names) h =
    let apart = not_true (bytes_eq name first) (first_so (not (bytes_eq name first)) (list_all (λ name. not (bytes_eq name first)) names) h) in
    let later = same_groups first next rest paths names (second_so (not (bytes_eq name first)) (list_all (λ name. not (bytes_eq name first)) names) h) in
    ap (λ b. ((name ∷ []) ∷ cond b ((first ∷ next ∷ rest) ∷ beyond name paths) (beyond name paths)) ++ grouped ((first ∷ next ∷ rest) ∷ paths) names) apart ∙ ap (λ g. ((name ∷ []) ∷ beyond name paths) ++ g) later

-- behind a greater entry nothing is below a lesser one
nothing_beyond : (name entry : List ℕ) (paths : List Path) → is_lt (path_cmp (name ∷ []) (entry ∷ [])) ≡ true → list_all (λ other. is_lt (path_cmp (entry ∷ []) other)) paths ≡ true → beyond name paths ≡ []
nothing_beyond name entry [] h all = refl
nothing_beyond name entry ([] ∷ paths) h all = nothing_beyond name entry paths h (second_so (is_lt (path_cmp (entry ∷ []) [])) (list_all (λ other. is_lt (path_cmp (entry ∷ []) other)) paths) all)
nothing_beyond name entry ((first ∷ []) ∷ paths) h all = nothing_beyond name entry paths h (second_so (is_lt (path_cmp (entry ∷ []) (first ∷ []))) (list_all (λ other. is_lt (path_cmp (entry ∷ []) other)) paths) all)
nothing_beyond name entry ((first ∷ next ∷ rest) ∷ paths) h all =
    let other : bytes_eq name first ≡ false = by_test (bytes_eq name first) (λ same.
    let is = (bytes_decides name first).0 same in
    lower name entry next rest h (subst (λ n. is_lt (path_cmp (entry ∷ []) (n ∷ next ∷ rest)) ≡ true) (sym is) (first_so (is_lt (path_cmp (entry ∷ []) (first ∷ next ∷ rest))) (list_all (λ other. is_lt (path_cmp (entry ∷ []) other)) paths) all))) in
    ap (λ b. cond b ((first ∷ next ∷ rest) ∷ beyond name paths) (beyond name paths)) other
    ∙ nothing_beyond name entry paths h (second_so (is_lt (path_cmp (entry ∷ []) (first ∷ next ∷ rest))) (list_all (λ other. is_lt (path_cmp (entry ∷ []) other)) paths) all)

pub in_front : (path : Path) (paths : List Path) → is_in path (path ∷ paths)
in_front path paths = ap (λ b. b || list_any (same_path path) paths) (same_path-refl path)

-- behind an entry, it is the one that stood before
closed_behind : (open_name : Option (List ℕ)) (entry : List ℕ) (paths : List Path) → ((name next : List ℕ) (rest : Path) → is_in (name ∷ next ∷ rest) paths → open_name ≡ Some name → ⊥) → IsClosed open_name ((entry ∷ []) ∷ paths) → IsClosed (Some entry) paths
closed_behind open_name entry paths over closed = record {
  some = λ h. closed.some (in_more [] (entry ∷ []) paths h);
  heads_in = λ name next rest h.
      let was = in_more (name ∷ next ∷ rest) (entry ∷ []) paths h in
      elim (closed.heads_in name next rest was) as (λ _. (Some entry ≡ Some name) ⊎ is_in (name ∷ []) paths) [
        | inl is ↦ absurd (over name next rest h is)
        | inr there ↦ by name (same_path (name ∷ []) (entry ∷ [])) refl there
      ];
}
  where
    by : (name : List ℕ) (b : Bool) → same_path (name ∷ []) (entry ∷ []) ≡ b → is_in (name ∷ []) ((entry ∷ []) ∷ paths) → (Some entry ≡ Some name) ⊎ is_in (name ∷ []) paths
    by name true e there = let is = same_path-true (name ∷ []) (entry ∷ []) e in inl (cc)
    by name false e there = inr (sym (ap (λ b. b || list_any (same_path (name ∷ [])) paths) e) ∙ there)

pub in_groups : (open_name : Option (List ℕ)) (paths : List Path) → rises paths ≡ true → IsClosed open_name paths → IsBehind open_name paths → paths ≡ part open_name paths ++ grouped paths (heads paths)
in_groups None [] up closed behind = refl
in_groups (Some name) [] up closed behind = refl
in_groups open_name ([] ∷ paths) up closed behind = absurd (closed.some (in_front [] paths))
in_groups None ((entry ∷ []) ∷ paths) up closed behind =
    let all = first_so (list_all (λ other. is_lt (path_cmp (entry ∷ []) other)) paths) (rises paths) up in
    ap (λ p. (entry ∷ []) ∷ p) (in_groups (Some entry) paths (second_so (list_all (λ other. is_lt (path_cmp (entry ∷ []) other)) paths) (rises paths) up) (closed_behind None entry paths (λ name next rest h e. cc) closed) all)
in_groups (Some name) ((entry ∷ []) ∷ paths) up closed behind =
    let all = first_so (list_all (λ other. is_lt (path_cmp (entry ∷ []) other)) paths) (rises paths) up in
    let before = first_so (is_lt (path_cmp (name ∷ []) (entry ∷ []))) (list_all (λ other. is_lt (path_cmp (name ∷ []) other)) paths) behind in
    let over : (a next : List ℕ) (rest : Path) → is_in (a ∷ next ∷ rest) paths → Some name ≡ Some a → ⊥ = λ a next rest h e.
    let is : name ≡ a = cc in
    lower name entry next rest before (subst (λ n. is_lt (path_cmp (entry ∷ []) (n ∷ next ∷ rest)) ≡ true) (sym is) (holds_of (λ other. is_lt (path_cmp (entry ∷ []) other)) paths (a ∷ next ∷ rest) all h)) in
    ap (λ p. (entry ∷ []) ∷ p) (in_groups (Some entry) paths (second_so (list_all (λ other. is_lt (path_cmp (entry ∷ []) other)) paths) (rises paths) up) (closed_behind (Some name) entry paths over closed) all)
    ∙ sym (ap (λ p. p ++ grouped ((entry ∷ []) ∷ paths) (heads ((entry ∷ []) ∷ paths))) (nothing_beyond name entry paths before all))
in_groups None ((first ∷ next ∷ rest) ∷ paths) up closed behind = absurd (elim (closed.heads_in first next rest (in_front (first ∷ next ∷ rest) paths)) as (λ _. ⊥) [
  | inl is ↦ no_open is
  | inr there ↦ deeper first next rest (holds_of (λ other. is_lt (path_cmp (first ∷ next ∷ rest) other)) paths (first ∷ []) (first_so (list_all (λ other. is_lt (path_cmp (first ∷ next ∷ rest) other)) paths) (rises paths) up) (in_rest (first ∷ []) (first ∷ next ∷ rest) paths (λ e. cc) there))
])
  where
    no_open : None ≡ Some first → ⊥
    no_open e = cc
in_groups (Some name) ((first ∷ next ∷ rest) ∷ paths) up closed behind =
    let all = first_so (list_all (λ other. is_lt (path_cmp (first ∷ next ∷ rest) other)) paths) (rises paths) up in
    let is : name ≡ first = elim (closed.heads_in first next rest (in_front (first ∷ next ∷ rest) paths)) as (λ _. name ≡ first) [
      | inl is ↦ cc
      | inr there ↦ absurd (deeper first next rest (holds_of (λ other. is_lt (path_cmp (first ∷ next ∷ rest) other)) paths (first ∷ []) all (in_rest (first ∷ []) (first ∷ next ∷ rest) paths (λ e. cc) there)))
    ] in
    let later = in_groups (Some name) paths (second_so (list_all (λ other. is_lt (path_cmp (first ∷ next ∷ rest) other)) paths) (rises paths) up)
    (record {
      some = λ h. closed.some (in_more [] (first ∷ next ∷ rest) paths h);
      heads_in = λ a k more h. elim (closed.heads_in a k more (in_more (a ∷ k ∷ more) (first ∷ next ∷ rest) paths h)) as (λ _. (Some name ≡ Some a) ⊎ is_in (a ∷ []) paths) [
        | inl e ↦ inl e
        | inr there ↦ inr (in_rest (a ∷ []) (first ∷ next ∷ rest) paths (λ e. cc) there)
      ];
    })
    (second_so (is_lt (path_cmp (name ∷ []) (first ∷ next ∷ rest))) (list_all (λ other. is_lt (path_cmp (name ∷ []) other)) paths) behind) in
    ap (λ p. (first ∷ next ∷ rest) ∷ p) (later ∙ ap (λ g. beyond name paths ++ g) (sym (same_groups first next rest paths (heads paths) (other_names first next rest paths all))))
    ∙ sym (ap (λ b. cond b ((first ∷ next ∷ rest) ∷ beyond name paths) (beyond name paths) ++ grouped ((first ∷ next ∷ rest) ∷ paths) (heads paths)) ((bytes_decides name first).1 is))
